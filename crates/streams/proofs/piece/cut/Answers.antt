use Rattle.std.proofs.Common.{◌≡◌, ◌∙◌, ap, sym, arith, false, List, ℕ}
use Rattle.std.proofs.lemmas.Bool.Decides.{nat_tests}
use Rattle.std.proofs.lemmas.Option.{none-some}
use Rattle.std.specs.Ordering.{nat_cmp}
use Rattle.std.specs.Map.{set_value}
use Rattle.std.specs.BTreeMap.{is_at}
use Rattle.streams.specs.declared.piece.Piece.{Piece}
use Rattle.streams.specs.Pieces.{upper}
use Rattle.streams.proofs.RangeEdits.{after_bound, after_found}
use Rattle.streams.proofs.PieceLemmas.{cut_is}
use Rattle.streams.proofs.piece.cut.Goals as goal

pub returns-in-Some-get_mut-clause-ok : goal.returns-in-Some-get_mut-clause-ok
returns-in-Some-get_mut-clause-ok c =
    (c.get_mut.follows.holds (upper c.args.position c.in-Some.piece)).0
    ∙ (ap (λ (xs : List (ℕ × Piece)). set_value (is_at (nat_cmp c.in-Some.end)) xs (upper c.args.position c.in-Some.piece)) c.in_ok-insert.ensures.entries
    ∙ cut_is c.args.pieces.now.entries c.args.position (c.in-Some.end, c.in-Some.piece) (sym c.in-Some.ensures) c.if-position-piece.false)

pub returns-in_default-get_mut-clause-ok : goal.returns-in_default-get_mut-clause-ok
returns-in_default-get_mut-clause-ok c =
    let after = after_bound c.args.pieces.now.entries c.args.position (c.in-Some.end, c.in-Some.piece) (sym c.in-Some.ensures) in
    let other : is_at (nat_cmp c.args.position) c.in-Some.end ≡ false = grind (arith, nat_tests, after) in
    let found = after_found c.args.pieces.now.entries c.args.position (c.in-Some.end, c.in-Some.piece) (sym c.in-Some.ensures) in
    absurd (none-some c.in-Some.piece (c.in_default-get_mut.ensures.value ∙ (c.in_ok-insert.ensures.updates.2 c.in-Some.end other ∙ found)))
