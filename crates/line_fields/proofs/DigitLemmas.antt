-- The value of a digit in hex, and of two.
use Rattle.std.proofs.Common.{◌≡◌, ℕ, zero, suc, ◌+◌, ◌-◌, ◌*◌, ◌%◌, ◌<◌, ◌≤◌, true, nat_eq, nat_le, List, length, take}
use Rattle.std.proofs.Common.{drop, get_or, None, Some, Result, Ok, Err, refl, sym, ap, ap₂, ◌∙◌, unwrap_or}
use Rattle.std.proofs.Common.{slice_index_or, slice_index, slice_set, inl, inr, arith}
use Rattle.std.specs.Result.{result_ok}
use Rattle.std.proofs.lemmas.Bool.{agree_below_at, cases_lt, eqb-true, leb-true}
use Rattle.std.proofs.lemmas.List.{set-get_or}
use Rattle.std.proofs.lemmas.Simd.{get_or-chunk, get_or-put_chunk_below, get_or-put_chunk_at}
use lib.Lanes.{chunk, put_chunk}
use Rattle.hex.specs.Hex.{decode_of, decode_pairs, hex_digit_value, pair_value}
use Rattle.hex.proofs.HexLemmas.{decode_of-even}
use Rattle.hex.proofs.Pairs.{prepend, decode_start, decode_step, decode_err, decode_done}
use Rattle.hex.specs.declared.error.FromHexError.{FromHexError}
use Rattle.line_fields.specs.Pairs.{AreSpelled}
use Rattle.line_fields.specs.declared.digits.TheConstants.{DIGITS}

-- the table has the value of each digit
pub in_table : (byte : ℕ) → byte < 256 → slice_index_or DIGITS byte 0 ≡ unwrap_or (hex_digit_value byte) 16
in_table byte lt = eqb-true _ _ (agree_below_at (λ b. nat_eq (slice_index_or DIGITS b 0) (unwrap_or (hex_digit_value b) 16)) (λ b. true) 256 byte refl lt)

pub at_most : (byte : ℕ) → byte < 256 → slice_index_or DIGITS byte 0 ≤ 16
at_most byte lt = leb-true _ _ (agree_below_at (λ b. nat_le (slice_index_or DIGITS b 0) 16) (λ b. true) 256 byte refl lt)

even : (text bytes : List ℕ) → length text ≡ 2 * length bytes → length text % 2 ≡ 0
even text bytes twice = omega arith

-- the bytes so far, of a text with two digits for each
pub one_written : (text bytes : List ℕ) (i byte : ℕ) → length text ≡ 2 * length bytes → i < length bytes
    → Some byte ≡ result_ok (pair_value (slice_index text (2 * i)) (slice_index text (2 * i + 1)) (2 * i))
    → decode_pairs 0 text ≡ prepend (take i bytes) (decode_pairs (2 * i) (drop (2 * i) text))
    → decode_pairs 0 text ≡ prepend (take (i + 1) (slice_set bytes i byte)) (decode_pairs (2 * (i + 1)) (drop (2 * (i + 1)) text))
one_written text bytes i byte twice lt is so_far = decode_step text bytes i byte (omega arith) lt (given _ is) so_far
  where
    given : (r : Result ℕ FromHexError) → Some byte ≡ result_ok r → r ≡ Ok byte
    given (Ok x) e = cc
    given (Err e) f = cc

-- two that are none
pub none_written : (text bytes : List ℕ) (i : ℕ) → length text ≡ 2 * length bytes → i < length bytes
    → None ≡ result_ok (pair_value (slice_index text (2 * i)) (slice_index text (2 * i + 1)) (2 * i))
    → decode_pairs 0 text ≡ prepend (take i bytes) (decode_pairs (2 * i) (drop (2 * i) text)) → result_ok (decode_of text) ≡ None
none_written text bytes i twice lt is so_far = by_case _ refl is
  where
    by_case : (r : Result ℕ FromHexError)
        → pair_value (slice_index text (2 * i)) (slice_index text (2 * i + 1)) (2 * i) ≡ r → None ≡ result_ok r
        → result_ok (decode_of text) ≡ None
    by_case (Ok x) e none = cc
    by_case (Err bad) e none = ap result_ok (decode_of-even text (even text bytes twice) ∙ decode_err text bytes i bad (omega arith) e so_far)

-- all of them
pub all_written : (text bytes : List ℕ) (i : ℕ) → length text ≡ 2 * length bytes → length bytes ≤ i
    → decode_pairs 0 text ≡ prepend (take i bytes) (decode_pairs (2 * i) (drop (2 * i) text)) → result_ok (decode_of text) ≡ Some bytes
all_written text bytes i twice all so_far =
    ap result_ok (decode_of-even text (even text bytes twice) ∙ decode_done text bytes i all (omega arith) so_far)

-- the bytes so far, where each is what its pair spells
pub spelled_so_far : (text bytes : List ℕ) (count : ℕ) → length text ≡ 2 * length bytes → count ≤ length bytes → AreSpelled text bytes count
    → decode_pairs 0 text ≡ prepend (take count bytes) (decode_pairs (2 * count) (drop (2 * count) text))
spelled_so_far text bytes zero twice le spelled = decode_start text bytes
spelled_so_far text bytes (suc n) twice le spelled =
    let before = spelled_so_far text bytes n twice (omega arith) (λ k i lt. spelled k i (omega arith)) in
    let more = one_written text bytes n (slice_index bytes n) twice (omega arith) (spelled n (2 * n) (omega arith)) before in
    let same : slice_set bytes n (slice_index bytes n) ≡ bytes = set-get_or bytes n 0 in
    let next : n + 1 ≡ suc n = omega arith in
    rw (same, next) at more

-- a block is written
pub block_spelled : (text bytes block : List ℕ) (written start : ℕ) → start ≤ written → start + 16 ≤ length bytes → length block ≡ 16
    → AreSpelled text bytes written → AreSpelled (chunk (2 * start) 32 text) block 16
    → AreSpelled text (put_chunk start bytes block) (start + 16)
block_spelled text bytes block written start le room long before new k i lt = elim (cases_lt k start) [
  | inl below ↦ ap Some (get_or-put_chunk_below start bytes block k 0 below) ∙ before k i (omega arith)
  | inr from ↦
      let j = k - start in
      let at : start + j ≡ k = omega arith in
      let byte = get_or-put_chunk_at start bytes block j 0 (omega arith) (omega arith) in
      let high = get_or-chunk (2 * start) 32 text (2 * j) 0 (omega arith) in
      let low = get_or-chunk (2 * start) 32 text (2 * j + 1) 0 (omega arith) in
      let high_at : 2 * start + 2 * j ≡ 2 * k = omega arith in
      let low_at : 2 * start + (2 * j + 1) ≡ 2 * k + 1 = omega arith in
      ap (λ m. Some (get_or (put_chunk start bytes block) m 0)) (sym at)
      ∙ ap Some byte ∙ new j i (omega arith)
      ∙ ap₂ (λ h l. result_ok (pair_value h l i)) (high ∙ ap (λ m. get_or text m 0) high_at) (low ∙ ap (λ m. get_or text m 0) low_at)
]
