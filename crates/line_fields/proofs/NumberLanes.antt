-- The digits in front of eight bytes, and the number that they spell, lane by lane.
use Rattle.std.proofs.Common.{◌≡◌, ◌≢◌, ℕ, zero, suc, ◌+◌, ◌-◌, ◌*◌, ◌%◌, ◌^◌, ◌<◌, ◌≤◌, Bool, true, cond, not, ◌||◌, ◌&&◌, ltb, leb, eqb, List, [], ◌∷◌}
use Rattle.std.proofs.Common.{map, length, get_or, take, replicate, refl, sym, ap, ◌∙◌, subst, Fits, w8, arith}
use Rattle.std.specs.Int.{IsInRange}
use Rattle.std.specs.List.{prefix_len}
use Rattle.std.specs.Str.{bytes_eq}
use Rattle.std.specs.Str.Parse.{digits_value_after, digits_value}
use Rattle.std.proofs.lemmas.Bool.{agree_below_at, and_parts, leb-true, ne_eqb, not-true}
use Rattle.std.proofs.lemmas.List.Sums.{prefix_len-le-length, prefix_len_passes}
use Rattle.std.proofs.lemmas.Simd.{zip2_splat, zip2_splat_left, map-map, mask_l-mod, first_set_mask_l}
use Rattle.std.proofs.lemmas.Slice.Eq.{bytes_eq-Decides}
use Rattle.std.proofs.lemmas.List.{length-map, length-take-le, get_or-take, take-take}
use Rattle.std.proofs.Math.Nat.{pow-le-pow_right}
use native.Mathlib.Nat.{pow-succ', mul_assoc, add-mul, mul-le-mul_right}
use lib.Count.{count_trailing_zeros}
use lib.Lanes.{zip2, mask_l, top, fold_l, chunk}
use Rattle.line_fields.proofs.Decimals.{digit_is}
use Rattle.line_fields.specs.declared.first_field.TheConstants.{WEIGHTS}

-- what is left of a byte
abbrev minus : ℕ → ℕ
minus x = (x + (2 ^ 8 - 48)) % 2 ^ 8

abbrev pub values : List ℕ → List ℕ
values v = zip2 (λ a b. (a + (2 ^ 8 - b)) % 2 ^ 8) v (replicate 8 48)

-- the mask of the bytes that are no digits
abbrev pub others : List ℕ → ℕ
others v = mask_l (map (top 7) (zip2 (λ a b. cond (ltb a b) 255 0) (replicate 8 9) (values v))) % 2 ^ 64

abbrev pub count : List ℕ → ℕ
count v = count_trailing_zeros 64 (others v)

abbrev is_other : ℕ → Bool
is_other x = top 7 (cond (ltb 9 (minus x)) 255 0)

module _ (v : List ℕ) (long : length v ≡ 8) where
  are_values : values v ≡ map minus v
  are_values = zip2_splat (λ a b. (a + (2 ^ 8 - b)) % 2 ^ 8) v 8 48 long

  are_others : others v ≡ mask_l (map is_other v)
  are_others =
      let few : length (map is_other v) ≤ 64 = omega (arith, length-map v is_other, long) in
      let each = ap (zip2 (λ a b. cond (ltb a b) 255 0) (replicate 8 9)) are_values in
      let lanes = zip2_splat_left (λ a b. cond (ltb a b) 255 0) 9 8 (map minus v) (length-map v minus ∙ long) in
      let tests = map-map (top 7) (λ y. cond (ltb 9 y) 255 0) (map minus v) ∙ map-map (λ y. top 7 (cond (ltb 9 y) 255 0)) minus v in
      ap (λ l. mask_l (map (top 7) l) % 2 ^ 64) (each ∙ lanes)
      ∙ ap (λ l. mask_l l % 2 ^ 64) tests
      ∙ mask_l-mod (map is_other v) 64 few

  counted : others v ≢ 0 → count v ≡ prefix_len (λ x. not (is_other x)) v
  counted some =
      let first = first_set_mask_l is_other v 8 long (omega arith) in
      let none = ap (λ m. eqb m 0) (sym are_others) ∙ ne_eqb _ _ some in
      ap (count_trailing_zeros 64) are_others ∙ sym (ap (λ t. cond t 8 (count_trailing_zeros 64 (mask_l (map is_other v)))) none) ∙ first

  pub count_most : others v ≢ 0 → count v ≤ 8
  count_most some = omega (arith, counted some, long, prefix_len-le-length (λ x. not (is_other x)) v)

  digit_at : (k : ℕ) → Fits w8 (get_or v k 0) → others v ≢ 0 → k < count v → IsInRange 48 57 (get_or v k 0)
  digit_at k fits some lt =
      let x = get_or v k 0 in
      let passes = not-true _ (prefix_len_passes (λ x. not (is_other x)) v k 0 (omega (arith, counted some))) in
      let all = agree_below_at (λ x. is_other x || leb 48 x && leb x 57) (λ _. true) 256 x refl fits.fits in
      let both = and_parts _ _ (sym (ap (λ b. b || leb 48 x && leb x 57) passes) ∙ all) in
      (leb-true _ _ both.0, leb-true _ _ both.1)

-- of the bytes that a text begins with
pub are_digits : (text : List ℕ) → 8 ≤ length text → ((k : ℕ) → Fits w8 (get_or text k 0)) → others (take 8 text) ≢ 0 → count (take 8 text) < 8
    → (k : ℕ) → k < count (take 8 text) → IsInRange 48 57 (get_or text k 0)
are_digits text long fits some few k lt =
    let same = get_or-take 8 text k 0 (omega arith) in
    subst (IsInRange 48 57) same (digit_at (take 8 text) (length-take-le 8 text long) k (subst (Fits w8) (sym same) (fits k)) some lt)

-- ---- the sum

-- the weights of c digits in n lanes
abbrev weights : ℕ → ℕ → List ℕ
weights zero c = []
weights (suc n) zero = 0 ∷ weights n zero
weights (suc n) (suc c) = 10 ^ c ∷ weights n c

abbrev sum_from : ℕ → List ℕ → List ℕ → ℕ
sum_from s xs ws = fold_l (λ a b. (a + b) % 2 ^ 32) s (zip2 (λ a b. a * b % 2 ^ 32) (map (λ x. x) xs) ws)

no_more : (s : ℕ) (v : List ℕ) → s < 2 ^ 32 → sum_from s (map minus v) (weights (length v) 0) ≡ s
no_more s [] lt = refl
no_more s (x ∷ v) lt =
    let same : (s + minus x * 0 % 2 ^ 32) % 2 ^ 32 ≡ s = omega arith in
    ap (λ t. sum_from t (map minus v) (weights (length v) 0)) same ∙ no_more s v lt

-- the digits behind a number that was read
sum_is : (s : ℕ) (v : List ℕ) (c : ℕ) → c ≤ length v → ((k : ℕ) → k < c → IsInRange 48 57 (get_or v k 0)) → (s + 1) * 10 ^ c ≤ 10 ^ 8
    → sum_from (s * 10 ^ c) (map minus v) (weights (length v) c) ≡ digits_value_after 10 s (take c v)
sum_is s v zero within digits small =
    let same : s * 10 ^ 0 ≡ s = omega arith in
    ap (λ t. sum_from t (map minus v) (weights (length v) 0)) same ∙ no_more s v (omega arith)
sum_is s [] (suc c) within digits small = absurd (omega arith)
sum_is s (x ∷ v) (suc c) within digits small =
    let p = 10 ^ c in
    let d = x - 48 in
    let ten : 10 ^ suc c ≡ 10 * p = pow-succ' 10 c in
    let moved : s * 10 ^ suc c ≡ s * 10 * p = ap (λ q. s * q) ten ∙ sym (mul_assoc s 10 p) in
    let both : (s * 10 + d) * p ≡ s * 10 * p + d * p = add-mul (s * 10) d p in
    let tens : (s + 1) * 10 ≡ s * 10 + 10 = omega arith in
    let room : (s * 10 + 10) * p ≤ 10 ^ 8 = subst (λ q. q ≤ 10 ^ 8) (ap (λ q. (s + 1) * q) ten ∙ sym (mul_assoc (s + 1) 10 p) ∙ ap (λ q. q * p) tens) small in
    let within_ten : (s * 10 + d + 1) * p ≤ (s * 10 + 10) * p = mul-le-mul_right p (omega (arith, digits 0 (omega arith))) in
    let product : d * p ≤ 9 * p = mul-le-mul_right p (omega (arith, digits 0 (omega arith))) in
    let digit : minus x ≡ d = omega (arith, digits 0 (omega arith)) in
    let step : (s * 10 ^ suc c + minus x * p % 2 ^ 32) % 2 ^ 32 ≡ (s * 10 + d) * p =
    ap (λ y. (s * 10 ^ suc c + y * p % 2 ^ 32) % 2 ^ 32) digit ∙ omega (arith, moved, both, room, product, add-mul (s * 10) 10 p) in
    ap (λ t. sum_from t (map minus v) (weights (length v) c)) step
    ∙ sum_is (s * 10 + d) v c (omega arith) (λ k lt. digits (suc k) (omega arith)) (omega (arith, room, within_ten))
    ∙ ap (λ y. digits_value_after 10 (s * 10 + y) (take c v)) (sym (digit_is x (digits 0 (omega arith)).0 (digits 0 (omega arith)).1))

-- the eight that are taken of the table
abbrev taken : ℕ → List ℕ
taken c = chunk 0 8 (chunk (8 - c) (16 - (8 - c)) WEIGHTS)

are_weights : (c : ℕ) → c < 8 → taken c ≡ weights 8 c
are_weights c lt = (bytes_eq-Decides (taken c) (weights 8 c)).0 (agree_below_at (λ c. bytes_eq (taken c) (weights 8 c)) (λ _. true) 8 c refl lt)

pub spelled : (text : List ℕ) (c : ℕ) → 8 ≤ length text → c < 8 → ((k : ℕ) → k < c → IsInRange 48 57 (get_or text k 0))
    → sum_from 0 (values (take 8 text)) (taken c) ≡ digits_value 10 (take c text)
spelled text c long few digits =
    let v = take 8 text in
    let eight : length v ≡ 8 = length-take-le 8 text long in
    let within : c ≤ 8 = omega arith in
    let small : 10 ^ c ≤ 10 ^ 8 = pow-le-pow_right {n = 10} (omega arith) within in
    ap (λ l. sum_from 0 l (taken c)) (are_values v eight)
    ∙ ap (sum_from 0 (map minus v)) (are_weights c few ∙ ap (λ n. weights n c) (sym eight))
    ∙ ap (λ s. sum_from s (map minus v) (weights (length v) c)) (zero_times (10 ^ c))
    ∙ sum_is 0 v c (omega arith) (λ k lt. subst (IsInRange 48 57) (sym (get_or-take 8 text k 0 (omega arith))) (digits k lt)) (omega (arith, small))
    ∙ ap (digits_value 10) (take-take c 8 text (omega arith))
  where
    zero_times : (n : ℕ) → 0 ≡ 0 * n
    zero_times n = omega arith
