-- Fields in hex, the last of their line among them.
use Rattle.std.proofs.Common.{◌≡◌, ℕ, ◌+◌, ◌-◌, ◌<◌, ◌==◌, false, IsTrue, List, [], length, take, drop, Some, Result, Ok, Err, refl, sym, ap, subst, ◌∙◌, arith}
use Rattle.std.specs.List.{position_or_len}
use Rattle.std.specs.Result.{result_ok}
use Rattle.std.proofs.lemmas.Bool.{lt-leb, ne_eqb}
use Rattle.std.proofs.lemmas.List.Elements.{All-get_or}
use Rattle.std.proofs.lemmas.List.{length-drop, take_all}
use Rattle.hex.specs.Hex.{decode_of, is_hex_digit}
use Rattle.hex.specs.declared.error.FromHexError.{FromHexError}
use Rattle.hex.proofs.HexLemmas.{decode_of-ok}
use Rattle.line_fields.specs.declared.fault.TextFault.{TextFault}
use Rattle.line_fields.specs.Word.{Word, Rest, words_left}
use Rattle.line_fields.specs.Reading.{◌>>=◌, next_field}
use Rattle.line_fields.specs.HexFields.{at_most, hex_field, hex_value, hex_word, EndsInHex}
use Rattle.line_fields.proofs.Columns.{ends_at, is_space, next_is}

-- what is made of the next field
abbrev pub field_then : {A : Type 0} → (Word → Result A TextFault) → Rest → Result (A × Rest) TextFault
field_then g r = do
  w ← next_field r
  a ← g w.0
  Ok (a, w.1)

-- what is made of it and its bytes
abbrev pub bytes_then : {A : Type 0} → (Word → List ℕ → Result A TextFault) → (Word × List ℕ) × Rest → Result (A × Rest) TextFault
bytes_then f x = do
  a ← f x.0.0 x.0.1
  Ok (a, x.1)

pub by_bytes : {A : Type 0} (f : Word → List ℕ → Result A TextFault) (r : Rest) → field_then (λ w. hex_value w >>= f w) r ≡ (hex_word r >>= bytes_then f)
unfolding hex_word
by_bytes {A} f r = of_field (next_field r) refl
  where
    of_bytes : (w : Word) (after : Rest) (bytes : Result (List ℕ) TextFault) → next_field r ≡ Ok (w, after) → hex_value w ≡ bytes
        → field_then (λ w. hex_value w >>= f w) r ≡ (hex_word r >>= bytes_then f)
    of_bytes w after (Ok bytes) field is = rw (field, is) refl
    of_bytes w after (Err e) field is = rw (field, is) refl

    of_field : (field : Result (Word × Rest) TextFault) → next_field r ≡ field
        → field_then (λ w. hex_value w >>= f w) r ≡ (hex_word r >>= bytes_then f)
    of_field (Ok w) is = of_bytes w.0 w.1 (hex_value w.0) is refl
    of_field (Err e) is = rw is refl

-- a space is no digit
space_is_none : IsTrue (is_hex_digit 32) → ⊥
space_is_none is = cc is

-- digits have no space among them
pub no_space : (text bytes : List ℕ) → decode_of text ≡ Ok bytes → position_or_len is_space text ≡ length text
no_space text bytes decodes =
    let digits = (decode_of-ok text bytes decodes).1 in
    ends_at text (length text) (omega arith)
    (λ i lt is. space_is_none (subst (λ b. IsTrue (is_hex_digit b)) is (All-get_or (λ b. IsTrue (is_hex_digit b)) text i 0 lt digits)))
    (λ lt. absurd (omega arith))

pub decoded : (r : Result (List ℕ) FromHexError) (bytes : List ℕ) → Some bytes ≡ result_ok r → r ≡ Ok bytes
decoded (Ok x) bytes e = cc
decoded (Err bad) bytes e = cc

-- one past its end, a line has no field
none_left : (line : ℕ) (text : List ℕ) → words_left line (length text + 1) text ≡ []
none_left line text = rw (lt-leb (length text + 1) (length text) (omega arith)) refl

-- what is left of a line is its next field, if it spells bytes
pub last_is : (line at : ℕ) (text rest bytes : List ℕ) → at < length text → rest ≡ drop at text → Some bytes ≡ result_ok (decode_of rest)
    → hex_word (record { line = line; stop = length text; words = words_left line at text })
    ≡ Ok (
      (record { text = rest; line = line; start = at; stop = length text }, bytes),
      record { line = line; stop = length text; words = words_left line (length text + 1) text },
    )
unfolding hex_word hex_value
last_is line at text rest bytes lt e spelled =
    let decodes = decoded (decode_of rest) bytes spelled in
    let len : length rest ≡ length text - at = ap length e ∙ length-drop at text in
    let end : at + length rest ≡ length text = omega arith in
    let some : (length rest == 0) ≡ false = ne_eqb (length rest) 0 (λ none. omega arith) in
    let all : rest ≡ take (length rest) rest = sym (take_all (length rest) rest (omega arith)) in
    let next = next_is line at text rest rest (length rest) (omega arith) e (sym (no_space rest bytes decodes)) all in
    rw (next, end, some, decodes) refl

-- the same, and no other field follows
pub ends_in_hex : (line at : ℕ) (text rest bytes : List ℕ) → at < length text → rest ≡ drop at text → decode_of rest ≡ Ok bytes
    → EndsInHex bytes (record { line = line; stop = length text; words = words_left line at text })
ends_in_hex line at text rest bytes lt e decodes = record {
  word = record { text = rest; line = line; start = at; stop = length text };
  after = record { line = line; stop = length text; words = words_left line (length text + 1) text };
  next = last_is line at text rest bytes lt e (sym (ap result_ok decodes));
  last = none_left line text;
}

-- bytes in hex, within a limit
pub hex_field_is : (most : ℕ) (r : Rest) → hex_field most r ≡ (hex_word r >>= bytes_then (at_most most))
unfolding hex_field
hex_field_is most r = by_bytes (at_most most) r
