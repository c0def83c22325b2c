-- What holds of each element, after one is modified or joins, and lengths then.
use Rattle.std.proofs.Common.{◌≡◌, ℕ, zero, suc, ◌≤◌, List, [], ◌∷◌, ◌++◌, length, Some, refl, ap, arith}
use Rattle.std.specs.Prelude.{slice_get}
use Rattle.std.specs.List.{All}
use Rattle.std.proofs.lemmas.List.{length-append}
use Rattle.std.proofs.lemmas.List.Elements.{All-append, All-cons, All-nil}
use Rattle.streams.specs.Lists.{modify}

pub all_tail : {X : Type 0} (P : X → Type 0) (x : X) (xs : List X) → All P (x ∷ xs) → All P xs
all_tail P x xs h = λ k d few. h (suc k) d (omega arith)

pub all_head : {X : Type 0} (P : X → Type 0) (x : X) (xs : List X) → All P (x ∷ xs) → P x
all_head P x xs h = h 0 x (omega arith)

pub all_modify : {X : Type 0} (P Q : X → Type 0) (f : X → X) (xs : List X) (i : ℕ) → ((x : X) → P x → Q x)
    → ((x : X) → slice_get xs i ≡ Some x → P x → Q (f x)) → All P xs → All Q (modify xs i f)
all_modify P Q f [] i weaker new h = All-nil Q
all_modify P Q f (x ∷ xs) zero weaker new h =
    All-cons Q (f x) xs (new x refl (all_head P x xs h)) (λ k d few. weaker _ (all_tail P x xs h k d few))
all_modify P Q f (x ∷ xs) (suc i) weaker new h =
    All-cons Q x (modify xs i f) (weaker x (all_head P x xs h)) (all_modify P Q f xs i weaker new (all_tail P x xs h))

pub all_push : {X : Type 0} (P : X → Type 0) (xs : List X) (x : X) → All P xs → P x → All P (xs ++ x ∷ [])
all_push P xs x h p = All-append P xs (x ∷ []) h (All-cons P x [] p (All-nil P))

pub length_modify : {X : Type 0} (f : X → X) (xs : List X) (i : ℕ) → length (modify xs i f) ≡ length xs
length_modify f [] i = refl
length_modify f (x ∷ xs) zero = refl
length_modify f (x ∷ xs) (suc i) = ap (λ n. suc n) (length_modify f xs i)

pub length_push : {X : Type 0} (xs : List X) (x : X) (n : ℕ) → length xs ≤ n → length (xs ++ x ∷ []) ≤ suc n
length_push xs x n h = let both = length-append xs (x ∷ []) in omega arith
