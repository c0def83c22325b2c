-- Bytes that are not ASCII are no digits, and no more is a NUL.
use Rattle.std.proofs.Common.{◌≡◌, ℕ, ◌+◌, ◌*◌, ◌%◌, ◌==◌, ◌≤◌, ◌<◌, Bool, true, false, List, [], ◌∷◌, ◌++◌, take, drop}
use Rattle.std.proofs.Common.{set, get_or, length, map, if◌then◌else◌, Option, Some, None, Result, Ok, Err, refl, sym}
use Rattle.std.proofs.Common.{ap, ◌∙◌, arith}
use Rattle.std.specs.Option.{option_map}
use Rattle.std.proofs.lemmas.List.{append-nil, drop_all, get_or_default, length-map, take_all}
use Rattle.std.proofs.lemmas.List.Edits.{map_over_more}
use Rattle.hex.specs.Hex.{decode_of, decode_pairs, digit_or_error, hex_digit_value, ◌>>=◌}
use Rattle.hex.specs.declared.error.FromHexError.{FromHexError}
use Rattle.hex.specs.declared.error.FromHexError.TheVariants.{OddLength}
use Rattle.segment.specs.declared.fields.Segment.{Segment}
use Rattle.cli.specs.declared.argument.ArgumentFault.{ArgumentFault}
use Rattle.cli.specs.declared.argument.ArgumentFault.TheVariants as faults
use Rattle.cli.specs.GivenWords.{plain}
use Rattle.cli.specs.HexText.{of_bytes, of_segment, segment_in}
use Rattle.segment.specs.Reading.{segment_of}

-- the bytes, where there are any
abbrev bytes_in : Result (List ℕ) FromHexError → Option (List ℕ)
bytes_in (Ok bytes) = Some bytes
bytes_in (Err error) = None

plain-digit : (c : ℕ) → hex_digit_value (plain c) ≡ hex_digit_value c
plain-digit c = grind (arith)

more : (byte : ℕ) (r : Result (List ℕ) FromHexError) → bytes_in (r >>= λ bytes. Ok (byte ∷ bytes)) ≡ option_map (λ bytes. byte ∷ bytes) (bytes_in r)
more byte (Ok bytes) = refl
more byte (Err error) = refl

both : (c d c' d' i : ℕ) (high low : Option ℕ) (r s : Result (List ℕ) FromHexError) → bytes_in r ≡ bytes_in s
    → bytes_in ((digit_or_error c i high >>= λ h. digit_or_error d (i + 1) low >>= λ l. Ok (h * 16 + l)) >>= λ byte. r >>= λ bytes. Ok (byte ∷ bytes))
    ≡ bytes_in ((digit_or_error c' i high >>= λ h. digit_or_error d' (i + 1) low >>= λ l. Ok (h * 16 + l)) >>= λ byte. s >>= λ bytes. Ok (byte ∷ bytes))
both c d c' d' i None low r s h = refl
both c d c' d' i (Some x) None r s h = refl
both c d c' d' i (Some x) (Some y) r s h =
    more (x * 16 + y) r ∙ ap (option_map (λ (bytes : List ℕ). (x * 16 + y) ∷ bytes)) h ∙ sym (more (x * 16 + y) s)

plain-pairs : (i : ℕ) (text : List ℕ) → bytes_in (decode_pairs i (map plain text)) ≡ bytes_in (decode_pairs i text)
unfolding decode_pairs
plain-pairs i [] = refl
plain-pairs i (digit ∷ []) = refl
plain-pairs i (high ∷ low ∷ rest) =
    rw (plain-digit high, plain-digit low)
    (both (plain high) (plain low) high low i (hex_digit_value high) (hex_digit_value low)
    (decode_pairs (i + 2) (map plain rest)) (decode_pairs (i + 2) rest) (plain-pairs (i + 2) rest))

plain-bytes : (text : List ℕ) → bytes_in (decode_of (map plain text)) ≡ bytes_in (decode_of text)
plain-bytes text = rw (length-map text plain) (odd (length text % 2 == 1))
  where
    odd : (is_odd : Bool)
        → bytes_in (if is_odd then Err OddLength else decode_pairs 0 (map plain text))
        ≡ bytes_in (if is_odd then Err OddLength else decode_pairs 0 text)
    odd true = refl
    odd false = plain-pairs 0 text

abbrev of_some : Option (List ℕ) → Result Segment ArgumentFault
of_some (Some bytes) = of_segment (segment_of bytes)
of_some None = Err faults.Hex

of_both : (r : Result (List ℕ) FromHexError) → of_bytes r ≡ of_some (bytes_in r)
of_both (Ok bytes) = refl
of_both (Err error) = refl

pub plain_segment : (text : List ℕ) → segment_in (map plain text) ≡ segment_in text
plain_segment text = of_both (decode_of (map plain text)) ∙ ap of_some (plain-bytes text) ∙ sym (of_both (decode_of text))

-- one byte more becomes plain
pub plain_more : (xs ys : List ℕ) (i : ℕ) → i < length xs → i < length ys → ys ≡ map plain (take i xs) ++ drop i xs
    → set ys i (plain (get_or ys i 0)) ≡ map plain (take (i + 1) xs) ++ drop (i + 1) xs
plain_more xs ys i h k e = map_over_more plain xs ys i (get_or ys i 0) h e (get_or_default ys i 0 (get_or ys i 0) k)

pub all_plain : (i : ℕ) (xs : List ℕ) → length xs ≤ i → map plain (take i xs) ++ drop i xs ≡ map plain xs
all_plain i xs h = rw (take_all i xs h, drop_all i xs h) (append-nil (map plain xs))
