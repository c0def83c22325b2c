-- The digits of bytes, lane by lane, and one after the other.
use Rattle.std.proofs.Common.{◌≡◌, ◌≢◌, ℕ, zero, suc, ◌+◌, ◌-◌, ◌*◌, ◌/◌, ◌%◌, ◌^◌, ◌<◌, ◌≤◌, true, cond, ltb, nat_eq, List, [], ◌∷◌, ◌++◌}
use Rattle.std.proofs.Common.{map, length, get_or, replicate, slice_index, slice_set, bit_and, refl, sym, ap, ap₂, ◌∙◌, inl, inr, Fits, w8, arith}
use Rattle.std.proofs.lemmas.Bool.{agree_below_at, cases_lt, eqb-true}
use Rattle.std.proofs.lemmas.List.{get_or-map, get_or_append_left, get_or-append-add, get_or-set_same, get_or-set_other, length-set}
use Rattle.std.proofs.lemmas.Simd.{Each1-get_or, zip2_splat, get_or-chunk, get_or-put_chunk_below, get_or-put_chunk_at}
use lib.Lanes.{Each1, zip2, sel_l, top, pick_l, chunk, put_chunk}
use Rattle.hex.specs.Hex.{encode_lower, encode_with, lower_digits}
use Rattle.line_fields.specs.Pairs.{ArePrinted}
use Rattle.line_fields.specs.declared.hex_digits.TheConstants.{PAIRS}

abbrev plus : List ℕ → List ℕ → List ℕ
plus = zip2 (λ a b. (a + b) % 2 ^ 8)

-- what `digits_of` computes of n values
abbrev pub printed : ℕ → List ℕ → List ℕ
printed n v =
    plus (plus v (replicate n 48)) (sel_l (map (top 7) (zip2 (λ a b. cond (ltb a b) 255 0) (replicate n 9) v)) (replicate n 39) (replicate n 0))

printed-len : (v : List ℕ) → length (printed (length v) v) ≡ length v
printed-len [] = refl
printed-len (x ∷ v) = ap suc (printed-len v)

pub printed_len : (v : List ℕ) → length v ≡ 16 → length (printed 16 v) ≡ 16
printed_len v long = ap (λ n. length (printed n v)) (sym long) ∙ printed-len v ∙ long

abbrev lane : ℕ → ℕ
lane x = get_or (printed 1 (x ∷ [])) 0 0

printed_at : (v : List ℕ) (k : ℕ) → k < length v → get_or (printed (length v) v) k 0 ≡ lane (get_or v k 0)
printed_at [] k lt = absurd (omega arith)
printed_at (x ∷ v) zero lt = refl
printed_at (x ∷ v) (suc k) lt = printed_at v k (omega arith)

lane_is : (x : ℕ) → x < 16 → lane x ≡ slice_index lower_digits x
lane_is x lt = eqb-true _ _ (agree_below_at (λ x. nat_eq (lane x) (slice_index lower_digits x)) (λ _. true) 16 x refl lt)

pub digits_are : (v : List ℕ) → length v ≡ 16 → (k : ℕ) → k < 16 → slice_index v k < 16
    → slice_index (printed 16 v) k ≡ slice_index lower_digits (slice_index v k)
digits_are v long k lt small = ap (λ n. get_or (printed n v) k 0) (sym long) ∙ printed_at v k (omega arith) ∙ lane_is (get_or v k 0) small

-- the high digits and the low ones, by lanes
abbrev pub high_values : List ℕ → List ℕ
high_values v = zip2 (λ a b. a / 2 ^ b) v (replicate 16 4)

abbrev pub low_values : List ℕ → List ℕ
low_values v = zip2 bit_and v (replicate 16 15)

-- one vector has the digits of these values
abbrev pub AreDigits : List ℕ → List ℕ → Type 0
AreDigits v digits = (k : ℕ) → k < 16 → slice_index v k < 16 → slice_index digits k ≡ slice_index lower_digits (slice_index v k)

module _ (v : List ℕ) (long : length v ≡ 16) (k : ℕ) (lt : k < 16) where
  high_at : slice_index (high_values v) k ≡ slice_index v k / 16
  high_at = ap (λ l. get_or l k 0) (zip2_splat (λ a b. a / 2 ^ b) v 16 4 long) ∙ get_or-map (λ x. x / 2 ^ 4) v k 0 0 (omega arith)

  low_at : slice_index v k < 256 → slice_index (low_values v) k ≡ slice_index v k % 16
  low_at byte =
      ap (λ l. get_or l k 0) (zip2_splat bit_and v 16 15 long) ∙ get_or-map (λ x. bit_and x 15) v k 0 0 (omega arith)
      ∙ eqb-true _ _ (agree_below_at (λ x. nat_eq (bit_and x 15) (x % 16)) (λ _. true) 256 (get_or v k 0) refl byte)

-- the places of pairs
module _ (first second : List ℕ) (long : length first ≡ 16) (k : ℕ) (lt : k < 16) where
  first_at : slice_index (pick_l 0 (first ++ second) PAIRS) (2 * k) ≡ slice_index first k
  first_at =
      get_or-map (λ j. get_or (first ++ second) j 0) PAIRS (2 * k) 0 0 (omega arith)
      ∙ ap (λ j. get_or (first ++ second) j 0) (eqb-true _ _ (agree_below_at (λ k. nat_eq (get_or PAIRS (2 * k) 0) k) (λ _. true) 16 k refl lt))
      ∙ get_or_append_left first second 0 k (omega arith)

  second_at : slice_index (pick_l 0 (first ++ second) PAIRS) (2 * k + 1) ≡ slice_index second k
  second_at =
      get_or-map (λ j. get_or (first ++ second) j 0) PAIRS (2 * k + 1) 0 0 (omega arith)
      ∙ ap (λ j. get_or (first ++ second) j 0) (place ∙ ap (λ n. n + k) (sym long))
      ∙ get_or-append-add first second k 0
    where
      place : get_or PAIRS (2 * k + 1) 0 ≡ 16 + k
      place = eqb-true _ _ (agree_below_at (λ k. nat_eq (get_or PAIRS (2 * k + 1) 0) (16 + k)) (λ _. true) 16 k refl lt)

pub pairs_are : (v first second : List ℕ) → length v ≡ 16 → Each1 (Fits w8) v → length first ≡ 16
    → AreDigits (high_values v) first → AreDigits (low_values v) second → ArePrinted v (pick_l 0 (first ++ second) PAIRS) 16
pairs_are v first second long fits many high low k lt =
    let byte = (Each1-get_or (Fits w8) v k 0 (omega arith) fits).fits in
    let h = high_at v long k lt in
    let l = low_at v long k lt byte in (
      first_at first second many k lt ∙ high k lt (omega (arith, h, byte)) ∙ ap (slice_index lower_digits) h,
      second_at first second many k lt ∙ low k lt (omega (arith, l)) ∙ ap (slice_index lower_digits) l,
    )

-- ---- one after the other

abbrev high_digit : ℕ → ℕ
high_digit x = slice_index lower_digits (x / 16)

abbrev low_digit : ℕ → ℕ
low_digit x = slice_index lower_digits (x % 16)

-- the digits with pair i changed
abbrev with_pair : List ℕ → ℕ → ℕ → ℕ → List ℕ
with_pair digits i high low = slice_set (slice_set digits (2 * i) high) (2 * i + 1) low

other_pair : (digits : List ℕ) (i high low j : ℕ) → j ≢ 2 * i → j ≢ 2 * i + 1 → slice_index (with_pair digits i high low) j ≡ slice_index digits j
other_pair digits i high low j first second =
    get_or-set_other (slice_set digits (2 * i) high) (2 * i + 1) j low 0 second ∙ get_or-set_other digits (2 * i) j high 0 first

-- a byte is printed behind those that are
pub one_printed : (bytes digits : List ℕ) (i : ℕ) → length digits ≡ 2 * length bytes → i < length bytes → ArePrinted bytes digits i
    → ArePrinted bytes (with_pair digits i (high_digit (slice_index bytes i)) (low_digit (slice_index bytes i))) (i + 1)
one_printed bytes digits i twice lt before k below =
    let high = high_digit (slice_index bytes i) in
    let low = low_digit (slice_index bytes i) in
    let after = with_pair digits i high low in
    elim (cases_lt k i) [
      | inl early ↦ (
        other_pair digits i high low (2 * k) (omega arith) (omega arith) ∙ (before k early).0,
        other_pair digits i high low (2 * k + 1) (omega arith) (omega arith) ∙ (before k early).1,
      )
      | inr late ↦
          let same : i ≡ k = omega arith in
          let first =
          get_or-set_other (slice_set digits (2 * i) high) (2 * i + 1) (2 * i) low 0 (omega arith) ∙ get_or-set_same digits (2 * i) high 0 (omega arith) in
          let second = get_or-set_same (slice_set digits (2 * i) high) (2 * i + 1) low 0 (omega (arith, twice, lt, length-set digits (2 * i) high)) in (
            ap (λ m. slice_index after (2 * m)) (sym same) ∙ first ∙ ap (λ m. high_digit (slice_index bytes m)) same,
            ap (λ m. slice_index after (2 * m + 1)) (sym same) ∙ second ∙ ap (λ m. low_digit (slice_index bytes m)) same,
          )
    ]

-- a block is printed
pub block_printed : (bytes digits block : List ℕ) (written start : ℕ) → start ≤ written → length digits ≡ 2 * length bytes → start + 16 ≤ length bytes
    → length block ≡ 32 → ArePrinted bytes digits written → ArePrinted (chunk start 16 bytes) block 16
    → ArePrinted bytes (put_chunk (2 * start) digits block) (start + 16)
block_printed bytes digits block written start le twice room long before new k lt = elim (cases_lt k start) [
  | inl below ↦ (
    get_or-put_chunk_below (2 * start) digits block (2 * k) 0 (omega arith) ∙ (before k (omega arith)).0,
    get_or-put_chunk_below (2 * start) digits block (2 * k + 1) 0 (omega arith) ∙ (before k (omega arith)).1,
  )
  | inr from ↦
      let j = k - start in
      let at : start + j ≡ k = omega arith in
      let byte = get_or-chunk start 16 bytes j 0 (omega arith) ∙ ap (λ m. get_or bytes m 0) at in
      let high_at : 2 * start + 2 * j ≡ 2 * k = omega arith in
      let low_at : 2 * start + (2 * j + 1) ≡ 2 * k + 1 = omega arith in
      let is = new j (omega arith) in (
        ap (λ m. get_or (put_chunk (2 * start) digits block) m 0) (sym high_at)
            ∙ get_or-put_chunk_at (2 * start) digits block (2 * j) 0 (omega arith) (omega arith) ∙ is.0 ∙ ap (λ b. slice_index lower_digits (b / 16)) byte,
        ap (λ m. get_or (put_chunk (2 * start) digits block) m 0) (sym low_at)
            ∙ get_or-put_chunk_at (2 * start) digits block (2 * j + 1) 0 (omega arith) (omega arith) ∙ is.1 ∙ ap (λ b. slice_index lower_digits (b % 16)) byte,
      )
]

-- all of them
pub all_printed : (bytes digits : List ℕ) → length digits ≡ 2 * length bytes → ArePrinted bytes digits (length bytes) → digits ≡ encode_lower bytes
unfolding encode_with
all_printed [] [] twice are = refl
all_printed [] (x ∷ digits) twice are = absurd (omega arith)
all_printed (b ∷ bytes) [] twice are = absurd (omega arith)
all_printed (b ∷ bytes) (x ∷ []) twice are = absurd (omega arith)
all_printed (b ∷ bytes) (x ∷ y ∷ digits) twice are =
    let first = are 0 (omega arith) in
    let rest : ArePrinted bytes digits (length bytes) = λ k lt.
    let high_at : 2 * suc k ≡ suc (suc (2 * k)) = omega arith in
    let low_at : 2 * suc k + 1 ≡ suc (suc (2 * k + 1)) = omega arith in
    let is = are (suc k) (omega arith) in (
      ap (λ m. slice_index (x ∷ y ∷ digits) m) (sym high_at) ∙ is.0,
      ap (λ m. slice_index (x ∷ y ∷ digits) m) (sym low_at) ∙ is.1,
    ) in
    ap₂ (λ h l. h ∷ l ∷ digits) first.0 first.1 ∙ ap (λ l. high_digit b ∷ low_digit b ∷ l) (all_printed bytes digits (omega arith) rest)
