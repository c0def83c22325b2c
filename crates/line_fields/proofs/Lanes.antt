-- The operations on vectors of digits, lane by lane.
use Rattle.std.proofs.Common.{◌≡◌, ℕ, zero, suc, ◌+◌, ◌-◌, ◌*◌, ◌%◌, ◌^◌, ◌<◌, Bool, true, false, cond, ◌||◌, ltb, leb, nat_eq, eqb, List, [], ◌∷◌}
use Rattle.std.proofs.Common.{◌++◌, map, length, get_or, replicate, bit_and, unwrap_or, Option, Some, None, Ok, refl, sym, ap, ap₂, ◌∙◌, T, Fits, w8}
use Rattle.std.proofs.Common.{arith}
use Rattle.std.specs.Result.{result_ok}
use Rattle.std.proofs.lemmas.Bool.{agree_below, agree_below_at, eqb-true, leb-true, leb-false, ltb-true, ltb-false}
use Rattle.std.proofs.lemmas.List.{get_or-map}
use Rattle.std.proofs.lemmas.Simd.{Each1-get_or, mask_l-mod, pick_l_left}
use lib.Lanes.{Each1, zip2, sel_l, mask_l, top, pick_l, all_below}
use Rattle.hex.specs.Hex.{hex_digit_value, digit_or_error, pair_value, ◌>>=◌}

abbrev plus : List ℕ → List ℕ → List ℕ
plus = zip2 (λ a b. (a + b) % 2 ^ 8)

abbrev less : List ℕ → List ℕ → List ℕ
less = zip2 (λ a b. (a + (2 ^ 8 - b)) % 2 ^ 8)

abbrev are_below : List ℕ → List ℕ → List Bool
are_below xs ys = map (top 7) (zip2 (λ a b. cond (ltb a b) 255 0) xs ys)

abbrev smaller : List ℕ → List ℕ → List ℕ
smaller xs ys = sel_l (are_below xs ys) xs ys

abbrev larger : List ℕ → List ℕ → List ℕ
larger xs ys = sel_l (are_below xs ys) ys xs

-- ---- the values of digits

abbrev number : ℕ → List ℕ → List ℕ
number n v = less (larger (plus v (replicate n 198)) (replicate n 6)) (replicate n 246)

abbrev letter : ℕ → List ℕ → List ℕ
letter n v = plus (smaller (less (zip2 bit_and v (replicate n 223)) (replicate n 65)) (replicate n 245)) (replicate n 10)

-- what `values` computes of n digits
abbrev pub computed : ℕ → List ℕ → List ℕ
computed n v = smaller (number n v) (letter n v)

computed-len : (v : List ℕ) → length (computed (length v) v) ≡ length v
computed-len [] = refl
computed-len (x ∷ v) = ap suc (computed-len v)

pub values_len : (v : List ℕ) → length v ≡ 16 → length (computed 16 v) ≡ 16
values_len v long = ap (λ n. length (computed n v)) (sym long) ∙ computed-len v ∙ long

-- of one digit
abbrev lane : ℕ → ℕ
lane x = get_or (computed 1 (x ∷ [])) 0 0

computed_at : (v : List ℕ) (k : ℕ) → k < length v → get_or (computed (length v) v) k 0 ≡ lane (get_or v k 0)
computed_at [] k lt = absurd (omega arith)
computed_at (x ∷ v) zero lt = refl
computed_at (x ∷ v) (suc k) lt = computed_at v k (omega arith)

is_value : (x y : ℕ) → y < 16 → unwrap_or (hex_digit_value x) 16 ≡ y → hex_digit_value x ≡ Some y
is_value x y small e = go (hex_digit_value x) e
  where
    go : (r : Option ℕ) → unwrap_or r 16 ≡ y → r ≡ Some y
    go (Some z) p = ap Some p
    go None p = absurd (omega arith)

right : (x : ℕ) → x < 256 → (leb 16 (lane x) || nat_eq (unwrap_or (hex_digit_value x) 16) (lane x)) ≡ true
right x lt = agree_below_at (λ b. leb 16 (lane b) || nat_eq (unwrap_or (hex_digit_value b) 16) (lane b)) (λ b. true) 256 x refl lt

lane_value : (x y : ℕ) → y < 16 → (leb 16 y || nat_eq (unwrap_or (hex_digit_value x) 16) y) ≡ true → hex_digit_value x ≡ Some y
lane_value x y small e = go (leb 16 y) refl e
  where
    go : (t : Bool) → leb 16 y ≡ t → (t || nat_eq (unwrap_or (hex_digit_value x) 16) y) ≡ true → hex_digit_value x ≡ Some y
    go true p q = absurd (omega (arith, leb-true _ _ p))
    go false p q = is_value x y small (eqb-true _ _ q)

pub values_are : (v : List ℕ) → length v ≡ 16 → Each1 (Fits w8) v → (k : ℕ) → k < 16 → get_or (computed 16 v) k 0 < 16
    → hex_digit_value (get_or v k 0) ≡ Some (get_or (computed 16 v) k 0)
values_are v long fits k lt small =
    let byte = (Each1-get_or (Fits w8) v k 0 (omega arith) fits).fits in
    let is = ap (λ n. get_or (computed n v) k 0) (sym long) ∙ computed_at v k (omega arith) in
    lane_value (get_or v k 0) (get_or (computed 16 v) k 0) small (rw is (right (get_or v k 0) byte))

-- ---- the test of all lanes

abbrev tested : ℕ → List ℕ → List Bool
tested n v = map (top 7) (zip2 (λ a b. cond (leb a b) 255 0) (replicate n 16) v)

one_below : (x : ℕ) (t : Bool) → leb 16 x ≡ t → ◌≡◌ {A = ℕ} (cond (top 7 (cond t 255 0)) 1 0) 0 → x < 16
one_below x true p e = absurd (omega arith)
one_below x false p e = leb-false _ _ p

two_below : (x y : ℕ) (t : Bool) → ltb x y ≡ t → cond (top 7 (cond t 255 0)) y x < 16 → (x < 16) × (y < 16)
two_below x y true p lt = (omega (arith, ltb-true _ _ p), lt)
two_below x y false p lt = (lt, omega (arith, ltb-false _ _ p))

all_below_16 : (a b : List ℕ) → length a ≡ length b → mask_l (tested (length a) (larger a b)) ≡ 0
    → (k : ℕ) → k < length a → (get_or a k 0 < 16) × (get_or b k 0 < 16)
all_below_16 [] b same e k lt = absurd (omega arith)
all_below_16 (x ∷ a) [] same e k lt = absurd (omega arith)
all_below_16 (x ∷ a) (y ∷ b) same e zero lt = two_below x y _ refl (one_below _ _ refl (omega arith))
all_below_16 (x ∷ a) (y ∷ b) same e (suc k) lt = all_below_16 a b (omega arith) (omega arith) k (omega arith)

tested-len : (a b : List ℕ) → length a ≡ length b → length (tested (length a) (larger a b)) ≡ length a
tested-len [] b same = refl
tested-len (x ∷ a) [] same = absurd (omega arith)
tested-len (x ∷ a) (y ∷ b) same = ap suc (tested-len a b (omega arith))

pub tested_below : (a b : List ℕ) → length a ≡ 16 → length b ≡ 16 → eqb (mask_l (tested 16 (larger a b)) % 2 ^ 64) 0 ≡ true
    → (k : ℕ) → k < 16 → (get_or a k 0 < 16) × (get_or b k 0 < 16)
tested_below a b p q e k lt =
    let mask = mask_l-mod (tested (length a) (larger a b)) 64 (omega (arith, tested-len a b (p ∙ sym q))) in
    let none = ap (λ n. mask_l (tested n (larger a b)) % 2 ^ 64) p ∙ eqb-true _ _ e in
    all_below_16 a b (p ∙ sym q) (sym mask ∙ none) k (omega arith)

-- ---- pairs of digits

-- the lanes at 16 positions
pub picked_at : (digits positions : List ℕ) (at : ℕ → ℕ) → length digits ≡ 32 → T (all_below 32 positions) → length positions ≡ 16
    → agree_below (λ k. nat_eq (get_or positions k 0) (at k)) (λ k. true) 16 ≡ true
    → (k : ℕ) → k < 16 → get_or (pick_l 0 (digits ++ digits) positions) k 0 ≡ get_or digits (at k) 0
picked_at digits positions at long within many are k lt =
    ap (λ l. get_or l k 0) (pick_l_left 0 digits digits 32 positions long within)
    ∙ get_or-map (λ j. get_or digits j 0) positions k 0 0 (omega arith)
    ∙ ap (λ j. get_or digits j 0) (eqb-true _ _ (agree_below_at (λ k. nat_eq (get_or positions k 0) (at k)) (λ k. true) 16 k are lt))

abbrev pub joined : ℕ → List ℕ → List ℕ → List ℕ
joined n high low = plus (zip2 (λ a b. a * b % 2 ^ 8) high (replicate n 16)) low

joined-len : (high low : List ℕ) → length high ≡ length low → length (joined (length high) high low) ≡ length high
joined-len [] low same = refl
joined-len (x ∷ high) [] same = absurd (omega arith)
joined-len (x ∷ high) (y ∷ low) same = ap suc (joined-len high low (omega arith))

pub joined_len : (high low : List ℕ) → length high ≡ 16 → length low ≡ 16 → length (joined 16 high low) ≡ 16
joined_len high low p q = ap (λ n. length (joined n high low)) (sym p) ∙ joined-len high low (p ∙ sym q) ∙ p

joined_at : (high low : List ℕ) → length high ≡ length low → (k : ℕ) → k < length high
    → get_or (joined (length high) high low) k 0 ≡ (get_or high k 0 * 16 % 2 ^ 8 + get_or low k 0) % 2 ^ 8
joined_at [] low same k lt = absurd (omega arith)
joined_at (x ∷ high) [] same k lt = absurd (omega arith)
joined_at (x ∷ high) (y ∷ low) same zero lt = refl
joined_at (x ∷ high) (y ∷ low) same (suc k) lt = joined_at high low (omega arith) k (omega arith)

pair_is : (first second x y i : ℕ) → hex_digit_value first ≡ Some x → hex_digit_value second ≡ Some y → x < 16 → y < 16
    → Some ((x * 16 % 2 ^ 8 + y) % 2 ^ 8) ≡ result_ok (pair_value first second i)
pair_is first second x y i h l p q =
    let byte : (x * 16 % 2 ^ 8 + y) % 2 ^ 8 ≡ x * 16 + y = omega arith in
    ap Some byte
    ∙ sym (ap₂ (λ (r s : Option ℕ). result_ok (digit_or_error first i r >>= (λ a. digit_or_error second (i + 1) s >>= (λ b. Ok (a * 16 + b))))) h l)

-- the bytes of two vectors of values, by lanes
pub joined_is : (high low : List ℕ) → length high ≡ 16 → length low ≡ 16 → (k i first second : ℕ) → k < 16
    → (get_or high k 0 < 16) × (get_or low k 0 < 16) → hex_digit_value first ≡ Some (get_or high k 0) → hex_digit_value second ≡ Some (get_or low k 0)
    → Some (get_or (joined 16 high low) k 0) ≡ result_ok (pair_value first second i)
joined_is high low p q k i first second lt below h l =
    let at = ap (λ n. get_or (joined n high low) k 0) (sym p) ∙ joined_at high low (p ∙ sym q) k (omega arith) in
    ap Some at ∙ pair_is first second _ _ i h l below.0 below.1
