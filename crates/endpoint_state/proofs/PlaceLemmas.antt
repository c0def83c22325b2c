-- One element changed in its place.
use Rattle.std.proofs.Common.{◌≡◌, ℕ, zero, suc, ◌<◌, ◌≤◌, ◌-◌, List, [], ◌∷◌, ◌++◌, length, length-append, get_or, refl, ap, ◌∙◌, arith}
use Rattle.std.specs.Prelude.{slice_set, Result, Ok, Err, OnOk, OnErr, take}
use Rattle.spec_tcp.specs.declared.endpoint.Listener.{Listener}
use Rattle.std.proofs.Math.Seq.{take-append_seam}
use Rattle.streams.specs.Lists.{modify}

set_modify : {X : Type 0} (xs : List X) (i : ℕ) (d y : X) (f : X → X) → i < length xs → y ≡ f (get_or xs i d) → slice_set xs i y ≡ modify xs i f
set_modify [] i d y f within is = absurd (omega arith)
set_modify {X} (x ∷ xs) zero d y f within is = ap (λ (z : X). z ∷ xs) is
set_modify {X} (x ∷ xs) (suc i) d y f within is = ap (λ (zs : List X). x ∷ zs) (set_modify xs i d y f (omega arith) is)

-- the element read at a place, changed and written back
pub modified_at : {X : Type 0} (xs : List X) (i : ℕ) (x y : X) (f : X → X) → i < length xs → x ≡ get_or xs i x → y ≡ f x → slice_set xs i y ≡ modify xs i f
modified_at xs i x y f within read is = set_modify xs i x y f within (is ∙ ap f read)

pub modified_past : {X : Type 0} (xs : List X) (i : ℕ) (f : X → X) → length xs ≤ i → modify xs i f ≡ xs
modified_past [] i f past = refl
modified_past (x ∷ xs) zero f past = absurd (omega arith)
modified_past {X} (x ∷ xs) (suc i) f past = ap (λ (zs : List X). x ∷ zs) (modified_past xs i f (omega arith))

modify_same : {X : Type 0} (xs : List X) (i : ℕ) → modify xs i (λ x. x) ≡ xs
modify_same [] i = refl
modify_same (x ∷ xs) zero = refl
modify_same {X} (x ∷ xs) (suc i) = ap (λ (zs : List X). x ∷ zs) (modify_same xs i)

-- the element read at a place and written back as it was
pub unchanged_at : {X : Type 0} (xs : List X) (i : ℕ) (x y : X) → i < length xs → x ≡ get_or xs i x → y ≡ x → slice_set xs i y ≡ xs
unchanged_at xs i x y within read is = modified_at xs i x y (λ z. z) within read is ∙ modify_same xs i

pub on_err : {A E : Type 0} (r : Result A E) (P : Type 0) → P → OnErr r P
on_err (Ok x) P is = tt
on_err (Err x) P is = is

pub on_ok : {A E : Type 0} (r : Result A E) (P Q : Type 0) → (P → Q) → OnOk r P → OnOk r Q
on_ok (Ok x) P Q to is = to is
on_ok (Err x) P Q to is = tt

modify_back : {X : Type 0} (f g : X → X) → ((x : X) → g (f x) ≡ x) → (xs : List X) (i : ℕ) → modify (modify xs i f) i g ≡ xs
modify_back f g back [] i = refl
modify_back {X} f g back (x ∷ xs) zero = ap (λ (y : X). y ∷ xs) (back x)
modify_back {X} f g back (x ∷ xs) (suc i) = ap (λ (zs : List X). x ∷ zs) (modify_back f g back xs i)

take_push : (ns : List ℕ) (n : ℕ) → take (length (ns ++ n ∷ []) - 1) (ns ++ n ∷ []) ≡ ns
take_push ns n = by (length (ns ++ n ∷ []) - 1) (omega (arith, length-append ns (n ∷ [])))
  where
    by : (k : ℕ) → k ≡ length ns → take k (ns ++ n ∷ []) ≡ ns
    by k is = rw is (take-append_seam ns (n ∷ []))

-- a child that joined last leaves again
pub left_again : (xs : List Listener) (i child : ℕ)
    → modify (modify xs i (λ x. let y : Listener = record x { queue = x.queue ++ child ∷ [] } in y)) i
    (λ x. let y : Listener = record x { queue = take (length x.queue - 1) x.queue } in y) ≡ xs
left_again xs i child =
    modify_back (λ x. let y : Listener = record x { queue = x.queue ++ child ∷ [] } in y)
    (λ x. let y : Listener = record x { queue = take (length x.queue - 1) x.queue } in y)
    (λ x. ap (λ (q : List ℕ). let y : Listener = record x { queue = q } in y) (take_push x.queue child)) xs i
