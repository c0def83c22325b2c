use Rattle.std.proofs.Common.{◌∙◌, sym}
use Rattle.streams.proofs.PieceLemmas.{past_step}
use Rattle.streams.proofs.piece.drop_through.Goals as goal

pub loop-preserved : goal.loop-preserved
loop-preserved c =
    let first = c.pop_through.ensures.popped c.loop-test.true in
    past_step c.loop.pieces.entries c.pop_through.new.pieces.entries c.args.position first.0 first.1 first.2 ∙ c.loop.invariant

pub returns : goal.returns
returns c =
    c.pop_through.ensures.kept c.loop-test.false
    ∙ (sym (c.pop_through.ensures.none c.loop-test.false) ∙ c.loop.invariant)
