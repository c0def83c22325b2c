-- Bytes in hex are read exactly where their digits spell them.
use Rattle.std.proofs.Common.{◌≡◌, ◌≤◌, ◌<◌, ℕ, List, [], ◌∷◌, Bool, true, false, cond, eqb, ltb, length, Result, Ok, Err, refl, sym, ap, subst, arith}
use Rattle.std.proofs.lemmas.Bool.{ltb-false, le-ltb}
use Rattle.hex.specs.Hex.{decode_of}
use Rattle.hex.specs.declared.error.FromHexError.{FromHexError}
use Rattle.hex.proofs.HexLemmas.{decode_of-ok}
use Rattle.line_fields.specs.declared.fault.TextFault.{TextFault}
use Rattle.line_fields.specs.declared.fault.FaultKind.TheVariants.{Field, Hex}
use Rattle.line_fields.specs.Reading.{fault_at}
use Rattle.line_fields.specs.HexFields.{or_bad, hex_value, at_most, bytes_value, hex_field}
use Rattle.line_fields.specs.Reader.{IsReader}
use Rattle.line_fields.proofs.Readers.{IsValue, bind_ok, ok_is, reads_field}
use Rattle.line_fields.proofs.Decimals.{filled, some_test}

-- the text spells the bytes, of which there are some
abbrev pub IsHex : List ℕ → List ℕ → Type 0
IsHex bytes text = (decode_of text ≡ Ok bytes) × (1 ≤ length bytes)

good_digits : (e : TextFault) (read : Result (List ℕ) FromHexError) (bytes : List ℕ) → or_bad e read ≡ Ok bytes → read ≡ Ok bytes
good_digits e (Ok x) bytes h = ap (λ (y : List ℕ). Ok y) (ok_is x bytes h)
good_digits e (Err bad) bytes h = absurd cc

guarded : {A : Type 0} (b : Bool) (d : TextFault) (r : Result A TextFault) (x : A) → cond b (Err d) r ≡ Ok x → (b ≡ false) × (r ≡ Ok x)
guarded true d r x e = absurd cc
guarded false d r x e = (refl, e)

some_bytes : (text bytes : List ℕ) → 0 < length text → decode_of text ≡ Ok bytes → 1 ≤ length bytes
some_bytes text bytes some h = let two = (decode_of-ok text bytes h).2 in omega arith

some_digits : (text bytes : List ℕ) → IsHex bytes text → 0 < length text
some_digits text bytes h = let two = (decode_of-ok text bytes h.0).2 in let some = h.1 in omega arith

pub is_hex_value : IsValue hex_value IsHex
unfolding hex_value
is_hex_value = record {
  takes = λ w bytes e.
      let g = guarded (eqb (length w.text) 0) (fault_at Field w) (or_bad (fault_at Hex w) (decode_of w.text)) bytes e in
      let d = good_digits (fault_at Hex w) (decode_of w.text) bytes g.1 in
      (d, some_bytes w.text bytes (filled (length w.text) (sym g.0)) d);
  again = λ w bytes v.
      let some = some_test (length w.text) (some_digits w.text bytes v) in
      let read = v.0 in
      rw (some, read) refl;
}

-- the same, of at most that many bytes
abbrev pub IsHexWithin : ℕ → List ℕ → List ℕ → Type 0
IsHexWithin most bytes text = IsHex bytes text × (length bytes ≤ most)

is_bytes_value : (most : ℕ) → IsValue (bytes_value most) (IsHexWithin most)
is_bytes_value most = record {
  takes = λ w bytes e.
      let b = bind_ok (hex_value w) (at_most most w) bytes e in
      let g = guarded (ltb most (length b.0)) (fault_at Hex w) (Ok b.0) bytes b.2 in
      subst (λ (x : List ℕ). IsHexWithin most x w.text) (ok_is b.0 bytes g.1) (is_hex_value.takes w b.0 b.1, ltb-false _ _ g.0);
  again = λ w bytes v.
      let read = is_hex_value.again w bytes v.0 in
      let test = le-ltb most (length bytes) v.1 in
      rw (read, test) refl;
}

-- at most that many bytes as the fields of a line
abbrev pub IsHexField : ℕ → List ℕ → List (List ℕ) → Type 0
IsHexField most bytes ws = (t : List ℕ) × IsHexWithin most bytes t × (ws ≡ t ∷ [])

pub reads_hex : (most : ℕ) → IsReader (hex_field most) (IsHexField most)
unfolding hex_field
reads_hex most = reads_field (bytes_value most) (IsHexWithin most) (is_bytes_value most)
