-- Elements of a list by their place, after one is modified or joins at the end.
use Rattle.std.proofs.Common.{◌≡◌, ℕ, zero, suc, ◌+◌, List, [], ◌∷◌, ◌++◌, length, take, drop, Some, refl, sym, subst, ◌∙◌}
use Rattle.std.proofs.Math.Nat.{zero-add, suc-add}
use Rattle.std.specs.Prelude.{slice_get}
use Rattle.std.proofs.lemmas.Option.{none-some, same_Some}
use Rattle.streams.specs.Lists.{modify}

pub get_append : {X : Type 0} (xs ys : List X) (i : ℕ) (x : X) → slice_get xs i ≡ Some x → slice_get (xs ++ ys) i ≡ Some x
get_append [] ys i x e = absurd (none-some x e)
get_append (a ∷ xs) ys zero x e = e
get_append (a ∷ xs) ys (suc i) x e = get_append xs ys i x e

-- one element joins at the end: it is the last, or stood before
pub all_push : {X : Type 0} (P : ℕ → X → Type 0) (xs : List X) (y : X)
    → ((i : ℕ) (x : X) → slice_get xs i ≡ Some x → P i x) → P (length xs) y → (i : ℕ) (x : X)
    → slice_get (xs ++ y ∷ []) i ≡ Some x → P i x
all_push P [] y old new zero x e = subst (P zero) (same_Some y x e) new
all_push P [] y old new (suc i) x e = absurd (none-some x e)
all_push P (a ∷ xs) y old new zero x e = old zero x e
all_push P (a ∷ xs) y old new (suc i) x e = all_push (λ j. P (suc j)) xs y (λ j. old (suc j)) new i x e

-- one element is modified: it has the new value, and the others are as they were
pub all_modify : {X : Type 0} (P : ℕ → X → Type 0) (f : X → X) (xs : List X) (i : ℕ)
    → ((j : ℕ) (x : X) → slice_get xs j ≡ Some x → P j x) → ((x : X) → slice_get xs i ≡ Some x → P i (f x))
    → (j : ℕ) (x : X) → slice_get (modify xs i f) j ≡ Some x → P j x
all_modify P f [] i old new j x e = absurd (none-some x e)
all_modify P f (a ∷ xs) zero old new zero x e = subst (P zero) (same_Some (f a) x e) (new a refl)
all_modify P f (a ∷ xs) zero old new (suc j) x e = old (suc j) x e
all_modify P f (a ∷ xs) (suc i) old new zero x e = old zero x e
all_modify P f (a ∷ xs) (suc i) old new (suc j) x e = all_modify (λ k. P (suc k)) f xs i (λ k. old (suc k)) new j x e

-- what each element becomes
pub modify_later : {X : Type 0} (R : X → X → Type 0) (same : (x : X) → R x x) (f : X → X) (xs : List X) (i : ℕ)
    → ((x : X) → slice_get xs i ≡ Some x → R x (f x)) → (j : ℕ) (x : X) → slice_get xs j ≡ Some x
    → (y : X) × (slice_get (modify xs i f) j ≡ Some y) × R x y
modify_later R same f [] i new j x e = absurd (none-some x e)
modify_later R same f (a ∷ xs) zero new zero x e = (f a, refl, subst (λ z. R z (f a)) (same_Some a x e) (new a refl))
modify_later R same f (a ∷ xs) zero new (suc j) x e = (x, e, same x)
modify_later R same f (a ∷ xs) (suc i) new zero x e = (x, e, same x)
modify_later R same f (a ∷ xs) (suc i) new (suc j) x e = modify_later R same f xs i new j x e

pub push_later : {X : Type 0} (R : X → X → Type 0) (same : (x : X) → R x x) (xs ys : List X) (j : ℕ) (x : X)
    → slice_get xs j ≡ Some x → (y : X) × (slice_get (xs ++ ys) j ≡ Some y) × R x y
push_later R same xs ys j x e = (x, get_append xs ys j x e, same x)

-- what stands in both at a place is the same
pub same_at : {X : Type 0} (xs : List X) (i : ℕ) (x y : X) → slice_get xs i ≡ Some x → slice_get xs i ≡ Some y → x ≡ y
same_at xs i x y e f = same_Some x y (sym e ∙ f)

-- a place of a list's beginning, and of its rest
pub get_take : {X : Type 0} (n : ℕ) (xs : List X) (i : ℕ) (x : X) → slice_get (take n xs) i ≡ Some x → slice_get xs i ≡ Some x
get_take zero xs i x e = absurd (none-some x e)
get_take (suc n) [] i x e = absurd (none-some x e)
get_take (suc n) (a ∷ xs) zero x e = e
get_take (suc n) (a ∷ xs) (suc i) x e = get_take n xs i x e

pub get_drop : {X : Type 0} (n : ℕ) (xs : List X) (i : ℕ) (x : X) → slice_get (drop n xs) i ≡ Some x → slice_get xs (n + i) ≡ Some x
get_drop zero xs i x e = rw zero-add e
get_drop (suc n) [] i x e = absurd (none-some x e)
get_drop (suc n) (a ∷ xs) i x e = rw suc-add (get_drop n xs i x e)
