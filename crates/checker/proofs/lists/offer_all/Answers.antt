use Rattle.checker.proofs.OfferLemmas.{held_below, next_number, offered_more}
use Rattle.checker.proofs.lists.offer_all.Goals as goal

pub offer-requires-clause-number : goal.offer-requires-clause-number
offer-requires-clause-number c =
    rw (c.in_ok-copied.ensures, c.line-item.is)
    (next_number c.args.header.now c.args.lines.now c.loop-line.line-index _ c.requires c.loop-line-test.true
    c.loop-line.window c.loop-line.invariant)

pub offer-requires-clause-moment : goal.offer-requires-clause-moment
offer-requires-clause-moment c =
    rw (c.in_ok-copied.ensures, c.line-item.is)
    (held_below c.args.header.now c.args.lines.now c.loop-line.line-index _ c.requires c.loop-line-test.true
    c.loop-line.window c.loop-line.invariant)

pub loop-line-preserved : goal.loop-line-preserved
loop-line-preserved c =
    offered_more c.args.header.now c.args.lines.now c.loop-line.line-index _ c.requires c.loop-line-test.true
    c.loop-line.window c.offer.new.self c.loop-line.invariant
    (rw (c.in_ok-copied.ensures, c.line-item.is) at c.in_ok-offer.ensures.ok)
