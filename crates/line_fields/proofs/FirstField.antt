-- Numbers that the next field spells.
use Rattle.std.proofs.Common.{◌≡◌, ◌≢◌, ℕ, ◌+◌, ◌^◌, ◌<◌, ◌≤◌, List, [], ◌∷◌, get_or, length, take, drop, Ok, Option, Some, None}
use Rattle.std.proofs.Common.{refl, sym, ap, subst, ◌∙◌, arith}
use Rattle.std.specs.Prelude.{IfSome}
use Rattle.std.specs.Fmt.{decimal}
use Rattle.std.specs.List.{position_or_len}
use Rattle.std.proofs.lemmas.Bool.{le-ltb}
use Rattle.line_fields.specs.Word.{Rest, words_left}
use Rattle.line_fields.specs.Reading.{first_of, number_field}
use Rattle.line_fields.specs.FirstField.{Spells, IsNext, rising_field}
use Rattle.line_fields.proofs.Columns.{is_space, ends_at, next_is}
use Rattle.line_fields.proofs.Decimals.{number_value-in}

pub spells_next : (n line at : ℕ) (text rest : List ℕ) (k : ℕ) → at ≤ length text → rest ≡ drop at text → position_or_len is_space rest ≡ k
    → take k rest ≡ decimal n
    → Spells n (record { line = line; stop = length text; words = words_left line at text })
    (record { line = line; stop = length text; words = words_left line (at + k + 1) text })
spells_next n line at text rest k le e place spelled = record {
  word = record { text = take k rest; line = line; start = at; stop = at + k };
  next = ap (first_of _ line (length text)) (next_is line at text rest (take k rest) k le e (sym place) refl);
  text = spelled;
}

-- a letter before a space is a field
pub letter_first : (letter : ℕ) (rest : List ℕ) → letter ≢ 32 → get_or rest 0 0 ≡ letter → 2 ≤ length rest → get_or rest 1 0 ≡ 32
    → (position_or_len is_space rest ≡ 1) × (take 1 rest ≡ letter ∷ [])
letter_first letter [] other first long space = absurd (omega arith)
letter_first letter (a ∷ rest) other first long space = (
  ends_at (a ∷ rest) 1 (omega arith)
      (λ i lt e. let zero : i ≡ 0 = omega arith in other (sym first ∙ subst (λ (k : ℕ). get_or (a ∷ rest) k 0 ≡ 32) zero e))
      (λ lt. space),
  ap (λ (x : ℕ). x ∷ []) first,
)

pub comes_next : (line at : ℕ) (text rest field : List ℕ) (k : ℕ) → at ≤ length text → rest ≡ drop at text → position_or_len is_space rest ≡ k
    → take k rest ≡ field
    → IsNext field (record { line = line; stop = length text; words = words_left line at text })
    (record { line = line; stop = length text; words = words_left line (at + k + 1) text })
comes_next line at text rest field k le e place here = record {
  word = record { text = field; line = line; start = at; stop = at + k };
  next = ap (first_of _ line (length text)) (next_is line at text rest field k le e (sym place) (sym here));
  text = refl;
}

pub spelled_number : (least most n : ℕ) (before after : Rest) → Spells n before after → n < 2 ^ 64 → least ≤ n → n ≤ most
    → number_field least most before ≡ Ok (n, after)
unfolding number_field
spelled_number least most n before after s fits low high =
    let value = number_value-in least most n s.word fits s.text low high in
    let next = s.next in
    rw (next, value) refl

pub spelled_rising : (least most n : ℕ) (before after : Rest) → Spells n before after → n < 2 ^ 64 → least ≤ n → n ≤ most
    → rising_field least most before ≡ Ok (n, after)
spelled_rising least most n before after s fits low high =
    let value = number_value-in 0 most n s.word fits s.text (omega arith) high in
    let next = s.next in
    let test = le-ltb n least low in
    rw (next, value, test) refl

pub taken_number : (least most : ℕ) (before after : Rest) (r : Option ℕ) → IfSome r (λ n. Spells n before after) → IfSome r (λ n. (least ≤ n) × (n ≤ most))
    → most < 2 ^ 64 → IfSome r (λ n. number_field least most before ≡ Ok (n, after))
taken_number least most before after (Some n) s range fits = spelled_number least most n before after s (omega (arith, range)) range.0 range.1
taken_number least most before after None s range fits = tt

pub taken_rising : (least most : ℕ) (before after : Rest) (r : Option ℕ) → IfSome r (λ n. Spells n before after) → IfSome r (λ n. (least ≤ n) × (n ≤ most))
    → most < 2 ^ 64 → IfSome r (λ n. rising_field least most before ≡ Ok (n, after))
taken_rising least most before after (Some n) s range fits = spelled_rising least most n before after s (omega (arith, range)) range.0 range.1
taken_rising least most before after None s range fits = tt
