-- What is found among numbers that rise.
use Rattle.std.proofs.Common.{◌≡◌, ◌≢◌, ◌≤◌, ◌<◌, ℕ, zero, suc, Bool, true, false, List, [], ◌∷◌, ◌++◌, length, get_or, None, Some, refl, sym}
use Rattle.std.proofs.Common.{ap, subst, arith, nat_lt}
use Rattle.std.proofs.lemmas.Bool.Decides.{nat_tests}
use Rattle.std.proofs.lemmas.List.{get_or_append_left}
use Rattle.std.proofs.Math.Seq.{get_or-append_seam}
use Rattle.std.specs.Prelude.{nat_eq}
use Rattle.std.specs.Map.{lookup}
use Rattle.tables.specs.Tables.{number_at, AreBelow, AreNotBelow, IsRising}

pub same : (n k : ℕ) → k ≡ n → nat_eq n k ≡ true
same n k is = grind (arith, nat_tests, is)

pub smaller : (n k : ℕ) → k < n → nat_eq n k ≡ false
smaller n k low = grind (arith, nat_tests, low)

pub greater : (n k : ℕ) → n < k → nat_eq n k ≡ false
greater n k high = grind (arith, nat_tests, high)

-- what comes later isn't smaller
not_fallen : (xs : List (ℕ × ℕ)) (i j : ℕ) → IsRising xs → i ≤ j → j < length xs → number_at xs i ≤ number_at xs j
not_fallen xs i j rising order within = by (nat_lt i j) refl
  where
    by : (b : Bool) → nat_lt i j ≡ b → number_at xs i ≤ number_at xs j
    by true is = let rise : number_at xs i < number_at xs j = rising i j (grind (arith, nat_tests, is)) within in omega (arith, rise)
    by false is =
        let last : j ≤ i = grind (arith, nat_tests, is) in
        let same : i ≡ j = omega arith in
        subst (λ (k : ℕ). number_at xs i ≤ number_at xs k) same (omega arith)

-- the first that isn't below a number, where it is that number
found_first : (xs : List (ℕ × ℕ)) (i n : ℕ) → i < length xs → AreBelow xs i n → number_at xs i ≡ n → Some (get_or xs i (0, 0)).1 ≡ lookup (nat_eq n) xs
found_first [] i n within below is = absurd (omega arith)
found_first (x ∷ xs) zero n within below is = rw (same n x.0 is) refl
found_first (x ∷ xs) (suc i) n within below is =
    rw (smaller n x.0 (below 0 (omega arith) (omega arith)))
    (found_first xs i n (omega arith) (λ k low inside. below (suc k) (omega arith) (omega arith)) is)

-- so a number is found at the place where it stands
pub found_at : (xs : List (ℕ × ℕ)) (i n : ℕ) → IsRising xs → i < length xs → number_at xs i ≡ n → Some (get_or xs i (0, 0)).1 ≡ lookup (nat_eq n) xs
found_at xs i n rising within is =
    found_first xs i n within (λ k low inside. let rise : number_at xs k < number_at xs i = rising k i low within in omega (arith, rise, is)) is

-- and where none is that number nothing is found
found_none : (xs : List (ℕ × ℕ)) (n : ℕ) → ((i : ℕ) → i < length xs → nat_eq n (number_at xs i) ≡ false) → None ≡ lookup (nat_eq n) xs
found_none [] n apart = refl
found_none (x ∷ xs) n apart = rw (apart 0 (omega arith)) (found_none xs n (λ i within. apart (suc i) (omega arith)))

pub not_found : (xs : List (ℕ × ℕ)) (i n : ℕ) → IsRising xs → AreBelow xs i n → AreNotBelow xs i n
    → (i < length xs → number_at xs i ≢ n) → None ≡ lookup (nat_eq n) xs
not_found xs i n rising below from other = found_none xs n (λ k within. by k within (nat_lt k i) refl)
  where
    by : (k : ℕ) → k < length xs → (b : Bool) → nat_lt k i ≡ b → nat_eq n (number_at xs k) ≡ false
    by k within true is = smaller n (number_at xs k) (below k (grind (arith, nat_tests, is)) within)
    by k within false is =
        let behind : i ≤ k = grind (arith, nat_tests, is) in
        let inside : i < length xs = omega arith in
        let least : n ≤ number_at xs i = from i (omega arith) inside in
        let apart : number_at xs i ≢ n = other inside in
        let rise : number_at xs i ≤ number_at xs k = not_fallen xs i k rising behind within in
        greater n (number_at xs k) (grind (arith, least, apart, rise))

number_early : (xs : List (ℕ × ℕ)) (e : ℕ × ℕ) (i : ℕ) → i < length xs → number_at (xs ++ e ∷ []) i ≡ number_at xs i
number_early xs e i within = ap (λ (x : ℕ × ℕ). x.0) (get_or_append_left xs (e ∷ []) (0, 0) i within)

number_last : (xs : List (ℕ × ℕ)) (e : ℕ × ℕ) (i : ℕ) → i ≡ length xs → number_at (xs ++ e ∷ []) i ≡ e.0
number_last xs e i at = subst (λ (j : ℕ). number_at (xs ++ e ∷ []) j ≡ e.0) (sym at) (ap (λ (x : ℕ × ℕ). x.0) (get_or-append_seam xs e [] (0, 0)))

longer : (xs : List (ℕ × ℕ)) (e : ℕ × ℕ) → length (xs ++ e ∷ []) ≡ suc (length xs)
longer [] e = refl
longer (x ∷ xs) e = ap (λ (n : ℕ). suc n) (longer xs e)

-- a number above all goes last, and they rise still
pub rising_more : (xs : List (ℕ × ℕ)) (e : ℕ × ℕ) → IsRising xs → AreBelow xs (length xs) e.0 → IsRising (xs ++ e ∷ [])
rising_more xs e rising below i j order within = by (nat_lt j (length xs)) refl (nat_lt i (length xs)) refl
  where
    count : length (xs ++ e ∷ []) ≡ suc (length xs)
    count = longer xs e

    by : (b : Bool) → nat_lt j (length xs) ≡ b → (c : Bool) → nat_lt i (length xs) ≡ c → number_at (xs ++ e ∷ []) i < number_at (xs ++ e ∷ []) j
    by true is c first =
        let inside : j < length xs = grind (arith, nat_tests, is) in
        let before : i < length xs = omega arith in
        rw (number_early xs e i before, number_early xs e j inside) (rising i j order inside)
    by false is true first =
        let before : i < length xs = grind (arith, nat_tests, first) in
        let behind : length xs ≤ j = grind (arith, nat_tests, is) in
        let last : j ≡ length xs = omega (arith, count) in
        let low : number_at xs i < e.0 = below i before before in
        rw (number_early xs e i before, number_last xs e j last) (omega arith)
    by false is false first =
        let behind : length xs ≤ i = grind (arith, nat_tests, first) in
        absurd (omega (arith, count))

-- and all are below a number above that one
pub below_more : (xs : List (ℕ × ℕ)) (e : ℕ × ℕ) (n : ℕ) → AreBelow xs (length xs) n → e.0 < n → AreBelow (xs ++ e ∷ []) (length (xs ++ e ∷ [])) n
below_more xs e n below low i first within = by (nat_lt i (length xs)) refl
  where
    count : length (xs ++ e ∷ []) ≡ suc (length xs)
    count = longer xs e

    by : (b : Bool) → nat_lt i (length xs) ≡ b → number_at (xs ++ e ∷ []) i < n
    by true is = let before : i < length xs = grind (arith, nat_tests, is) in rw (number_early xs e i before) (below i before before)
    by false is =
        let behind : length xs ≤ i = grind (arith, nat_tests, is) in
        let last : i ≡ length xs = omega (arith, count) in
        rw (number_last xs e i last) low
