-- Bytes in hex.
use Rattle.std.specs.Prelude.{◌≡◌, ℕ, ◌==◌, nat_lt, if◌then◌else◌, List, [], length, Result, Ok, Err}
use Rattle.hex.specs.Hex.{decode_of}
use Rattle.hex.specs.declared.error.FromHexError.{FromHexError}
use Rattle.line_fields.specs.declared.fault.FaultKind.TheVariants.{Field, Hex}
use Rattle.line_fields.specs.declared.fault.TextFault.{TextFault}
use Rattle.line_fields.specs.Word.{Word, Rest}
use Rattle.line_fields.specs.Reading.{◌>>=◌, fault_at, next_field}

-- the bytes, or this fault if the digits spell none
abbrev pub or_bad : TextFault → Result (List ℕ) FromHexError → Result (List ℕ) TextFault
or_bad e (Ok bytes) = Ok bytes
or_bad e (Err bad) = Err e

-- the bytes that a field spells: an empty field is Field, any other that spells none is Hex
unfoldable pub hex_value : Word → Result (List ℕ) TextFault
hex_value w = if length w.text == 0 then Err (fault_at Field w) else or_bad (fault_at Hex w) (decode_of w.text)

-- the next field, and the bytes that it spells
unfoldable pub hex_word : Rest → Result ((Word × List ℕ) × Rest) TextFault
hex_word r = do
  w ← next_field r
  bytes ← hex_value w.0
  Ok ((w.0, bytes), w.1)

-- the next field spells these bytes, and no other follows
pub record EndsInHex (bytes : List ℕ) (r : Rest) : Type 0 where
  pub word : Word
  pub after : Rest
  pub next : hex_word r ≡ Ok ((word, bytes), after)
  pub last : after.words ≡ []

-- no more bytes than this, else Hex
abbrev pub at_most : ℕ → Word → List ℕ → Result (List ℕ) TextFault
at_most most w bytes = if nat_lt most (length bytes) then Err (fault_at Hex w) else Ok bytes

-- at most that many bytes in hex
abbrev pub bytes_value : ℕ → Word → Result (List ℕ) TextFault
bytes_value most w = hex_value w >>= at_most most w

-- the next field, which is such bytes
unfoldable pub hex_field : ℕ → Rest → Result (List ℕ × Rest) TextFault
hex_field most r = do
  w ← next_field r
  bytes ← bytes_value most w.0
  Ok (bytes, w.1)
