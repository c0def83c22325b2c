use Rattle.std.proofs.Common.{◌∙◌, ap, sym, List, ℕ}
use Rattle.std.specs.List.{slice_get}
use Rattle.streams.specs.declared.piece.Piece.{Piece}
use Rattle.streams.proofs.PieceLemmas.{piece_after_is}
use Rattle.streams.proofs.piece.piece_after.Goals as goal

pub returns-in-Some : goal.returns-in-Some
returns-in-Some c =
    ap (λ (xs : List (ℕ × Piece)). slice_get xs 0) (sym c.in-Some.ensures.steps)
    ∙ piece_after_is c.args.pieces.now.entries c.range.result c.args.position (c.range.ensures.between tt)

pub returns-in-None : goal.returns-in-None
returns-in-None c =
    ap (λ (xs : List (ℕ × Piece)). slice_get xs 0) (sym c.in-None.ensures.steps.0)
    ∙ piece_after_is c.args.pieces.now.entries c.range.result c.args.position (c.range.ensures.between tt)
