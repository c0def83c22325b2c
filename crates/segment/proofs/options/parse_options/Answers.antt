use Rattle.std.proofs.Common.{[]}
use Rattle.segment.specs.ItemView.{item_of}
use Rattle.segment.proofs.Cuts.{Keeps-next}
use Rattle.segment.proofs.options.parse_options.Goals as goal

pub loop-item-preserved : goal.loop-item-preserved
loop-item-preserved c =
    rw (c.or-mss.ensures, c.mss.ensures, c.or-scale.ensures, c.scale.ensures)
    (Keeps-next c.args.options.now c.loop-item.rest.now c.in-Some.after.now c.loop-item.mss c.loop-item.scale
    (item_of c.in-Some.item) c.loop-item.invariant (rw c.in-Some.is at c.in_ok-item.ensures.next))

pub returns-clause-found : goal.returns-clause-found
returns-clause-found c = c.loop-item.invariant.found [] (rw c.in_default.is at c.in_ok-item.ensures.next)
