use Rattle.streams.proofs.PieceLemmas.{past_none}
use Rattle.streams.proofs.piece.pop_through.Goals as goal

pub returns-then-position-end-clause-none : goal.returns-then-position-end-clause-none
returns-then-position-end-clause-none c is =
    past_none c.args.pieces.now.entries c.args.position (c.in-Some.end.now, c.in-Some.field-0-1.now) c.in-Some.ensures.first c.if-position-end.true
