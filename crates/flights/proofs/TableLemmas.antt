-- A value that is taken out of a table and put back.
use Rattle.std.proofs.Common.{◌≡◌, ℕ, Bool, true, false, List, [], ◌∷◌, Option, None, Some, refl, ap, ◌∙◌, arith}
use Rattle.std.specs.Prelude.{nat_eq, if◌then◌else◌}
use Rattle.std.specs.Map.{lookup}
use Rattle.std.specs.Option.{option_map_or}
use Rattle.std.proofs.lemmas.Bool.Decides.{nat_tests}
use Rattle.indexmap.specs.IndexMap.{insert_entry}
use Rattle.tables.specs.Tables.{changed_at}

itself : (n : ℕ) → nat_eq n n ≡ true
itself n = grind (arith, nat_tests)

-- of two values the second stays
twice : {V : Type 0} (es : List (ℕ × V)) (n : ℕ) (v w : V) → insert_entry nat_eq (insert_entry nat_eq es n v) n w ≡ insert_entry nat_eq es n w
twice [] n v w = ap (λ (b : Bool). if b then (n, w) ∷ [] else (n, v) ∷ (n, w) ∷ []) (itself n)
twice {V} (e ∷ es) n v w = by (nat_eq n e.0) refl (twice es n v w)
  where
    by : (b : Bool) → nat_eq n e.0 ≡ b → insert_entry nat_eq (insert_entry nat_eq es n v) n w ≡ insert_entry nat_eq es n w
        → insert_entry nat_eq (if b then (e.0, v) ∷ es else e ∷ insert_entry nat_eq es n v) n w
        ≡ (if b then (e.0, w) ∷ es else e ∷ insert_entry nat_eq es n w)
    by true is rest = ap (λ (b : Bool). if b then (e.0, w) ∷ es else (e.0, v) ∷ insert_entry nat_eq es n w) is
    by false is rest =
        ap (λ (b : Bool). if b then (e.0, w) ∷ insert_entry nat_eq es n v else e ∷ insert_entry nat_eq (insert_entry nat_eq es n v) n w) is
        ∙ ap (λ (xs : List (ℕ × V)). e ∷ xs) rest

pub put_back : {V : Type 0} (es : List (ℕ × V)) (n : ℕ) (v w : V)
    → insert_entry nat_eq (changed_at (λ old. v) es n) n w ≡ insert_entry nat_eq es n w
put_back {V} es n v w = by (lookup (nat_eq n) es)
  where
    by : (o : Option V) → insert_entry nat_eq (option_map_or (λ old. insert_entry nat_eq es n v) o es) n w ≡ insert_entry nat_eq es n w
    by None = refl
    by (Some old) = twice es n v w
