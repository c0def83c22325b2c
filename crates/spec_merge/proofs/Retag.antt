-- Tables of entries under new numbers.
use Rattle.std.proofs.Common.{◌≡◌, ℕ, Bool, true, false, cond, List, [], ◌∷◌, Option, Some, None, refl, ap, ◌∙◌, arith}
use Rattle.std.proofs.lemmas.Bool.Decides.{nat_tests}
use Rattle.std.specs.Prelude.{nat_eq, if◌then◌else◌}
use Rattle.std.specs.Map.{lookup}
use Rattle.indexmap.specs.IndexMap.{insert_entry}
use Rattle.spec_network.specs.Tables.{on, waiting}
use Rattle.spec_merge.proofs.Counting.{Apart}

-- a table under new numbers
abbrev pub retag : {X : Type 0} → (ℕ → ℕ) → List (ℕ × X) → List (ℕ × X)
retag f [] = []
retag f (e ∷ es) = (f e.0, e.1) ∷ retag f es

test_apart : (f : ℕ → ℕ) → Apart f → (x y : ℕ) → nat_eq (f x) (f y) ≡ nat_eq x y
test_apart f apart x y = go (nat_eq (f x) (f y)) refl (nat_eq x y) refl
  where
    go : (a : Bool) → nat_eq (f x) (f y) ≡ a → (b : Bool) → nat_eq x y ≡ b → a ≡ b
    go true p true q = refl
    go false p false q = refl
    go true p false q = let e : f x ≡ f y = grind (arith, nat_tests) in let d = apart x y e in absurd (grind (arith, nat_tests))
    go false p true q = let e : x ≡ y = grind (arith, nat_tests) in let d = ap f e in absurd (grind (arith, nat_tests))

-- numbers that are apart lead to what stood there
pub lookup_retag : {X : Type 0} (f : ℕ → ℕ) → Apart f → (q : ℕ) (es : List (ℕ × X)) → lookup (nat_eq (f q)) (retag f es) ≡ lookup (nat_eq q) es
lookup_retag f apart q [] = refl
lookup_retag {X} f apart q (e ∷ es) =
    ap (λ (b : Bool). cond b (Some e.1) (lookup (nat_eq (f q)) (retag f es))) (test_apart f apart q e.0)
    ∙ ap (λ (o : Option X). cond (nat_eq q e.0) (Some e.1) o) (lookup_retag f apart q es)

-- also to what waits there
pub waiting_retag : {E : Type 0} (f : ℕ → ℕ) → Apart f → (n : ℕ) (es : List (ℕ × Option E)) → waiting (f n) (retag f es) ≡ waiting n es
waiting_retag {E} f apart n es = ap (λ (o : Option (Option E)). on o None (λ e. e)) (lookup_retag f apart n es)

-- and a write commutes with them
pub insert_retag : {X : Type 0} (f : ℕ → ℕ) → Apart f → (n : ℕ) (v : X) (es : List (ℕ × X))
    → insert_entry nat_eq (retag f es) (f n) v ≡ retag f (insert_entry nat_eq es n v)
insert_retag f apart n v [] = refl
insert_retag {X} f apart n v (e ∷ es) =
    ap (λ (b : Bool). if b then (f e.0, v) ∷ retag f es else (f e.0, e.1) ∷ insert_entry nat_eq (retag f es) (f n) v)
    (test_apart f apart n e.0) ∙ go (nat_eq n e.0) (insert_retag f apart n v es)
  where
    go : (b : Bool) → insert_entry nat_eq (retag f es) (f n) v ≡ retag f (insert_entry nat_eq es n v)
        → (if b then (f e.0, v) ∷ retag f es else (f e.0, e.1) ∷ insert_entry nat_eq (retag f es) (f n) v)
        ≡ retag f (if b then (e.0, v) ∷ es else e ∷ insert_entry nat_eq es n v)
    go true rest = refl
    go false rest = ap (λ (x : List (ℕ × X)). (f e.0, e.1) ∷ x) rest
