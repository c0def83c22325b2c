-- Lists whose front gave way to one value, and pieces of lists.
use Rattle.std.proofs.Common.{◌≡◌, ℕ, zero, suc, ◌+◌, ◌-◌, ◌≤◌, List, [], ◌∷◌, ◌++◌, length, take, drop, replicate, min, refl, ap, arith, append_assoc}
use Rattle.std.specs.Prelude.{slice_get}
use Rattle.std.proofs.lemmas.List.{replicate-append-replicate}
use Rattle.streams.specs.Lists.{covered}

pub length-covered : {X : Type 0} (y : X) (n : ℕ) (xs : List X) → length (covered y n xs) ≡ length xs
length-covered y zero xs = refl
length-covered y (suc n) [] = refl
length-covered y (suc n) (x ∷ xs) = ap (λ k. suc k) (length-covered y n xs)

pub covered-covered : {X : Type 0} (y : X) (m n : ℕ) (xs : List X) → m ≤ n → covered y n (covered y m xs) ≡ covered y n xs
covered-covered y zero n xs h = refl
covered-covered y (suc m) zero xs h = absurd (omega arith)
covered-covered y (suc m) (suc n) [] h = refl
covered-covered {X} y (suc m) (suc n) (x ∷ xs) h = ap (λ (ys : List X). y ∷ ys) (covered-covered y m n xs (omega arith))

pub covered-append : {X : Type 0} (y : X) (n : ℕ) (xs ys : List X) → covered y n (covered y n xs ++ ys) ≡ covered y n (xs ++ ys)
covered-append y zero xs ys = refl
covered-append y (suc n) [] ys = refl
covered-append {X} y (suc n) (x ∷ xs) ys = ap (λ (zs : List X). y ∷ zs) (covered-append y n xs ys)

pub drop-covered : {X : Type 0} (y : X) (n k : ℕ) (xs : List X) → n ≤ k → drop k (covered y n xs) ≡ drop k xs
drop-covered y zero k xs h = refl
drop-covered y (suc n) zero xs h = absurd (omega arith)
drop-covered y (suc n) (suc k) [] h = refl
drop-covered y (suc n) (suc k) (x ∷ xs) h = drop-covered y n k xs (omega arith)

pub get-covered : {X : Type 0} (y : X) (n k : ℕ) (xs : List X) → n ≤ k → slice_get (covered y n xs) k ≡ slice_get xs k
get-covered y zero k xs h = refl
get-covered y (suc n) zero xs h = absurd (omega arith)
get-covered y (suc n) (suc k) [] h = refl
get-covered y (suc n) (suc k) (x ∷ xs) h = get-covered y n k xs (omega arith)

covered-behind : {X : Type 0} (y : X) (gone n : ℕ) (xs : List X) → covered y n (replicate gone y ++ xs) ≡ replicate gone y ++ covered y (n - gone) xs
covered-behind y zero n xs = let same : n - 0 ≡ n = omega arith in rw same refl
covered-behind y (suc gone) zero xs = let same : 0 - suc gone ≡ 0 = omega arith in rw same refl
covered-behind {X} y (suc gone) (suc n) xs = let same : suc n - suc gone ≡ n - gone = omega arith in
    rw same (ap (λ (ys : List X). y ∷ ys) (covered-behind y gone n xs))

covered-cut : {X : Type 0} (y : X) (k : ℕ) (xs : List X) → covered y k xs ≡ replicate (min k (length xs)) y ++ drop (min k (length xs)) xs
covered-cut y zero xs = let same : min 0 (length xs) ≡ 0 = omega arith in rw same refl
covered-cut y (suc k) [] = let same : min (suc k) 0 ≡ 0 = omega arith in rw same refl
covered-cut {X} y (suc k) (x ∷ xs) = let same : min (suc k) (suc (length xs)) ≡ suc (min k (length xs)) = omega arith in
    rw same (ap (λ (ys : List X). y ∷ ys) (covered-cut y k xs))

-- what is shown of a list whose front was discarded, once more of it is
pub covered-gone : {X : Type 0} (y : X) (gone n count : ℕ) (xs : List X) → count ≡ min (n - gone) (length xs)
    → replicate (gone + count) y ++ drop count xs ≡ covered y n (replicate gone y ++ xs)
covered-gone {X} y gone n count xs e =
    let far = covered-behind y gone n xs in
    let cut = covered-cut y (n - gone) xs in
    let both = replicate-append-replicate {A = X} gone count y in
    let assoc = append_assoc (replicate gone y) (replicate count y) (drop count xs) in
    rw (far, cut, ← e, ← both) assoc

-- a piece of what stands behind a value so many times: some of these, and the rest
pub piece_parts : {X : Type 0} (y : X) (gone start count : ℕ) (xs : List X) (ones : ℕ) → ones ≡ min (gone - start) count
    → replicate ones y ++ take (count - ones) (drop (start - gone) xs) ≡ take count (drop start (replicate gone y ++ xs))
piece_parts y zero start count xs ones h = let none : ones ≡ 0 = omega arith in
    let all : count - 0 ≡ count = omega arith in let there : start - 0 ≡ start = omega arith in
    rw (none, all, there) refl
piece_parts y (suc gone) (suc start) count xs ones h = let there : suc start - suc gone ≡ start - gone = omega arith in
    rw there (piece_parts y gone start count xs ones (omega arith))
piece_parts y (suc gone) zero zero xs ones h = let none : ones ≡ 0 = omega arith in rw none refl
piece_parts y (suc gone) zero (suc count) xs zero h = absurd (omega arith)
piece_parts {X} y (suc gone) zero (suc count) xs (suc ones) h = let less : suc count - suc ones ≡ count - ones =
    omega arith in let there : 0 - suc gone ≡ 0 - gone = omega arith in
    rw (less, there) (ap (λ (ys : List X). y ∷ ys) (piece_parts y gone zero count xs ones (omega arith)))
