-- Tables of entries by number: what a look-up finds after a write.
use Rattle.std.proofs.Common.{◌≡◌, ℕ, Bool, true, false, cond, List, [], ◌∷◌, Option, Some, refl, ap, ◌∙◌, arith}
use Rattle.std.proofs.lemmas.Bool.Decides.{nat_tests}
use Rattle.std.specs.Prelude.{nat_eq, unwrap_or, if◌then◌else◌}
use Rattle.std.specs.Map.{lookup}
use Rattle.indexmap.specs.IndexMap.{insert_entry}
use Rattle.spec_network.specs.Hosts.{Kernel, Turn, Idle, turn_of}

-- a look-up after a write
pub lookup_insert : {X : Type 0} (q n : ℕ) (v : X) (es : List (ℕ × X))
    → lookup (nat_eq q) (insert_entry nat_eq es n v) ≡ cond (nat_eq q n) (Some v) (lookup (nat_eq q) es)
lookup_insert q n v [] = refl
lookup_insert {X} q n v (e ∷ es) = by_test (nat_eq n e.0) refl (nat_eq q e.0) refl (lookup_insert q n v es)
  where
    by_test : (b : Bool) → nat_eq n e.0 ≡ b → (c : Bool) → nat_eq q e.0 ≡ c
        → lookup (nat_eq q) (insert_entry nat_eq es n v) ≡ cond (nat_eq q n) (Some v) (lookup (nat_eq q) es)
        → lookup (nat_eq q) (insert_entry nat_eq (e ∷ es) n v) ≡ cond (nat_eq q n) (Some v) (lookup (nat_eq q) (e ∷ es))
    by_test true is true at rest =
        let same : nat_eq q n ≡ true = grind (arith, nat_tests, is, at) in
        simp (is, at, same) refl
    by_test true is false at rest =
        let same : nat_eq q n ≡ false = grind (arith, nat_tests, is, at) in
        simp (is, at, same) refl
    by_test false is true at rest =
        let same : nat_eq q n ≡ false = grind (arith, nat_tests, is, at) in
        simp (is, at, same) refl
    by_test false is false at rest = simp (is, at) rest

-- a thread's turn after a write
pub turn_insert : (k : Kernel) (q t : ℕ) (u : Turn k.shape) (es : List (ℕ × Turn k.shape))
    → turn_of q (insert_entry nat_eq es t u) ≡ (if nat_eq q t then u else turn_of q es)
turn_insert k q t u es = ap (λ (o : Option (Turn k.shape)). unwrap_or o Idle) (lookup_insert q t u es) ∙ go (nat_eq q t)
  where
    go : (b : Bool) → unwrap_or (cond b (Some u) (lookup (nat_eq q) es)) Idle ≡ (if b then u else turn_of q es)
    go true = refl
    go false = refl
