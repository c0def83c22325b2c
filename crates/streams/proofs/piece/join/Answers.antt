use Rattle.std.proofs.Common.{◌≡◌, ◌∙◌, ap, sym, nat_lt, true, arith, List, ℕ}
use Rattle.std.proofs.lemmas.Bool.Decides.{nat_tests}
use Rattle.std.specs.Ordering.{nat_cmp}
use Rattle.std.specs.Map.{set_value}
use Rattle.std.specs.BTreeMap.{is_at, BTreeMap}
use Rattle.streams.specs.declared.piece.Piece.{Piece}
use Rattle.streams.proofs.PieceJoins.{set_absent}
use Rattle.streams.proofs.piece.join.Goals as goal

pub returns-in_default : goal.returns-in_default
returns-in_default c =
    let some = c.if-upto-from.false in
    let here : nat_lt c.args.from c.args.upto ≡ true = grind (arith, nat_tests, some) in
    rw here
    (ap (λ (m : BTreeMap ℕ Piece). m.entries) c.get_mut.follows.holds-at-none
    ∙ (set_absent c.drop_between.new.map.entries c.args.upto (record { start = c.args.from; state = c.args.state }) (sym c.in_default.ensures.value)
    ∙ ap (λ (xs : List (ℕ × Piece)). set_value (is_at (nat_cmp c.args.upto)) xs (record { start = c.args.from; state = c.args.state })) c.drop_between.ensures))
