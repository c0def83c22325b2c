-- Decimal numbers without sign and leading zeros.
use Rattle.std.proofs.Common.{◌≡◌, ◌≢◌, ℕ, zero, suc, ◌+◌, ◌-◌, ◌*◌, ◌^◌, ◌<◌, ◌≤◌, Bool, true, false, eqb, nat_eq, List, length, get_or, take, Ok}
use Rattle.std.proofs.Common.{Err, refl, sym, ap, subst, ◌∙◌, arith, inl, inr}
use Rattle.std.specs.Char.{digit_value}
use Rattle.std.specs.Fmt.{decimal}
use Rattle.std.specs.Int.{IsInRange}
use Rattle.std.specs.Str.{bytes_eq}
use Rattle.std.specs.Str.Parse.{AllDigits, digits_value}
use Rattle.std.proofs.lemmas.Bool.{eqb-true, eqb-false, cases_lt, le-leb, leb-true, and_parts, false_from_ne_true}
use Rattle.std.proofs.lemmas.Bool.Decides.{nat_tests}
use Rattle.std.proofs.lemmas.List.{take_all, length-take, get_or-take}
use Rattle.std.proofs.lemmas.Slice.Eq.{bytes_eq-Decides}
use Rattle.std.proofs.lemmas.Int.Digits.{digits_value_more}
use Rattle.std.proofs.Math.Dec.{eqb-suc-zero}
use Rattle.std.proofs.lemmas.Fmt.{decimal-digits_value, digits_value-decimal, digits_decimal, decimal_nonempty, first_decimal, decimal_digit}
use Rattle.std.proofs.lemmas.Str.Parse.{IsNumeralModel, numerals_by_value, tells_digits, tells_by_index, digits_value-take-le, digits_value_short}
use Rattle.line_fields.specs.declared.fault.FaultKind.TheVariants.{Number}
use Rattle.line_fields.specs.Word.{Word}
use Rattle.line_fields.specs.Reading.{number_value, is_number, fault_at}

own : IsNumeralModel (AllDigits 10) (digits_value 10)
own = numerals_by_value (AllDigits 10) tells_digits

-- how a decimal number begins
pub record IsPlain (text : List ℕ) : Type 0 where
  pub some : 0 < length text
  pub no_zero : get_or text 0 0 ≡ 48 → length text ≡ 1

zero_alone : (n : ℕ) → n < 2 ^ 64 → get_or (decimal n) 0 0 ≡ 48 → length (decimal n) ≡ 1
zero_alone zero lt e = ap length (decimal_digit 0 (omega arith))
zero_alone (suc n) lt e = absurd (let first = first_decimal (suc n) (omega arith) lt in omega arith)

pub IsPlain-decimal : (n : ℕ) → n < 2 ^ 64 → IsPlain (decimal n)
IsPlain-decimal n lt = record {
  some = decimal_nonempty n lt;
  no_zero = zero_alone n lt;
}

pub plain : (text : List ℕ) (n : ℕ) → n < 2 ^ 64 → text ≡ decimal n → IsPlain text
plain text n lt e = subst IsPlain (sym e) (IsPlain-decimal n lt)

-- the value of a spelling
pub value_is : (text : List ℕ) (n : ℕ) → n < 2 ^ 64 → text ≡ decimal n → digits_value 10 text ≡ n
value_is text n lt e = ap (digits_value 10) e ∙ digits_value-decimal own n lt

-- digits, read one by one
abbrev AreDigits : List ℕ → Type 0
AreDigits text = (i : ℕ) → i < length text → IsInRange 48 57 (get_or text i 0)

one_by_one : IsNumeralModel AreDigits (digits_value 10)
one_by_one = numerals_by_value AreDigits tells_by_index

-- so many digits stand in front, and this is their value
pub record AreRead (text : List ℕ) (count value : ℕ) : Type 0 where
  pub digits : (i : ℕ) → i < count → IsInRange 48 57 (get_or text i 0)
  pub shown : value ≡ digits_value 10 (take count text)

pub none_read : (text : List ℕ) → AreRead text 0 0
none_read text = record { digits = λ i lt. absurd (omega (lt, arith)); shown = refl }

pub digit_is : (byte : ℕ) → 48 ≤ byte → byte ≤ 57 → digit_value byte ≡ byte - 48
digit_is byte low high = grind (arith, nat_tests)

-- one digit more
pub one_read : (text : List ℕ) (count value : ℕ) → AreRead text count value → count < length text → 48 ≤ get_or text count 0 → get_or text count 0 ≤ 57
    → AreRead text (count + 1) (value * 10 + (get_or text count 0 - 48))
one_read text count value a lt low high = record {
  digits = λ i below. by_case i below (nat_eq i count) refl;
  shown =
      let more = digits_value_more 10 text count lt in
      let so_far = a.shown in
      let digit = digit_is (get_or text count 0) low high in
      rw (more, ← so_far, digit) refl;
}
  where
    by_case : (i : ℕ) → i < count + 1 → (b : Bool) → nat_eq i count ≡ b → IsInRange 48 57 (get_or text i 0)
    by_case i below true same = subst (λ (k : ℕ). IsInRange 48 57 (get_or text k 0)) (sym (eqb-true _ _ same)) (low, high)
    by_case i below false other = a.digits i (let differs = eqb-false i count other in omega (arith, differs))

-- what is read so far has so many digits at most
pub read_below : (text : List ℕ) (count value k : ℕ) → AreRead text count value → count ≤ length text → count ≤ k → value < 10 ^ k
read_below text count value k a within le =
    let len = length-take count text in
    let digits : AreDigits (take count text) = λ i lt. rw (get_or-take count text i 0 (omega arith)) (a.digits i (omega arith)) in
    rw a.shown (digits_value_short one_by_one (take count text) k digits (omega arith))

-- the digits that stand in front spell their value
pub front_read : (text : List ℕ) (count value : ℕ) → AreRead text count value → count ≤ length text → 0 < count → (1 < count → get_or text 0 0 ≢ 48)
    → value < 2 ^ 64 → take count text ≡ decimal value
front_read text count value a within some plain fits =
    let len = length-take count text in
    let first = get_or-take count text 0 0 some in
    let digits : AreDigits (take count text) = λ i lt. rw (get_or-take count text i 0 (omega arith)) (a.digits i (omega arith)) in
    let no_zero : get_or (take count text) 0 0 ≡ 48 → length (take count text) ≡ 1 =
    λ e. elim (cases_lt 1 count) [ inl more ↦ absurd (plain more (sym first ∙ e)) | inr le ↦ omega arith ] in
    sym (ap decimal a.shown ∙ decimal-digits_value one_by_one (take count text) digits (omega arith) no_zero (subst (λ (n : ℕ). n < 2 ^ 64) a.shown fits))

-- all of them
pub all_read : (text : List ℕ) (count value : ℕ) → AreRead text count value → length text ≤ count → 0 < length text → (get_or text 0 0 ≡ 48 → length text ≡ 1)
    → value < 2 ^ 64 → text ≡ decimal value
all_read text count value a all some plain fits =
    let whole : value ≡ digits_value 10 text = a.shown ∙ ap (digits_value 10) (take_all count text all) in
    let digits : AreDigits text = λ i lt. a.digits i (omega arith) in
    sym (ap decimal whole ∙ decimal-digits_value one_by_one text digits some plain (subst (λ (n : ℕ). n < 2 ^ 64) whole fits))

-- a decimal number has digits alone
pub no_digit : (text : List ℕ) (i : ℕ) → i < length text → ¬ IsInRange 48 57 (get_or text i 0) → (n : ℕ) → n < 2 ^ 64 → text ≢ decimal n
no_digit text i lt other n fits e =
    let digits : AreDigits text = subst AreDigits (sym e) (digits_decimal one_by_one n fits) in other (digits i lt)

-- digits in front are no greater number than all of them
pub too_great : (text : List ℕ) (count value : ℕ) → AreRead text count value → ¬ (value < 2 ^ 64) → (n : ℕ) → n < 2 ^ 64 → text ≢ decimal n
too_great text count value a great n fits e =
    let whole = value_is text n fits e in
    let front = digits_value-take-le 10 text count (omega arith) in
    let shown = a.shown in
    great (omega (arith, whole, front, shown, fits))

pub some_test : (k : ℕ) → 0 < k → eqb k 0 ≡ false
some_test zero lt = absurd (omega arith)
some_test (suc k) lt = eqb-suc-zero k

-- a number within the limits, spelled so
pub number_value-in : (least most n : ℕ) (w : Word) → n < 2 ^ 64 → w.text ≡ decimal n → least ≤ n → n ≤ most → number_value least most w ≡ Ok n
unfolding number_value
number_value-in least most n w fits e low high =
    let value = value_is w.text n fits e in
    let some = some_test (length w.text) (plain w.text n fits e).some in
    let same : bytes_eq w.text (decimal n) ≡ true = (bytes_eq-Decides w.text (decimal n)).1 e in
    let above = le-leb least n low in
    let below = le-leb n most high in
    rw (some, value, same, above, below) refl

-- nothing within the limits is spelled so
pub number_value-out : (least most : ℕ) (w : Word) → 0 < length w.text
    → ((n : ℕ) → least ≤ n → n ≤ most → w.text ≡ decimal n → ⊥) → number_value least most w ≡ Err (fault_at Number w)
unfolding number_value
number_value-out least most w filled none =
    let some = some_test (length w.text) filled in
    let test : is_number least most w.text (digits_value 10 w.text) ≡ false = false_from_ne_true _ (λ yes.
    let parts = and_parts _ _ yes in
    let first = and_parts _ _ parts.0 in
    none (digits_value 10 w.text) (leb-true _ _ first.1) (leb-true _ _ parts.1) ((bytes_eq-Decides w.text (decimal (digits_value 10 w.text))).0 first.0)) in
    rw (some, test) refl

pub filled : (n : ℕ) → false ≡ eqb n 0 → 0 < n
filled zero e = absurd cc
filled (suc n) e = omega arith
