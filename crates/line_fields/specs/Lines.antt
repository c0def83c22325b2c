-- A line, its end, and its limits.
use Rattle.std.specs.Prelude.{◌≡◌, ◌≢◌, ◌≤◌, ◌<◌, ◌⊎◌, ◌-◌, ◌==◌, ◌&&◌, ℕ, Bool, nat_lt, not, if◌then◌else◌, List, []}
use Rattle.std.specs.Prelude.{◌∷◌, ◌++◌, length, slice_index, All, Result, Ok, Err}
use Rattle.std.specs.Str.{bytes_eq}
use Rattle.bstr.specs.Text.{without_terminator}
use Rattle.case_forms.specs.declared.trace.Span.{Span}
use Rattle.line_fields.specs.declared.fault.FaultKind.TheVariants.{Header, LineTooLong, Cut, TooManyLines}
use Rattle.line_fields.specs.declared.fault.TextFault.{TextFault}
use Rattle.line_fields.specs.Faults.{missing_line}
use Rattle.line_fields.specs.Word.{Rest, rest_of}
use Rattle.line_fields.specs.Reading.{◌>>=◌}

-- a line ends with LF or CR LF
abbrev pub IsEnding : List ℕ → Type 0
IsEnding end = (end ≡ 10 ∷ []) ⊎ (end ≡ 13 ∷ 10 ∷ [])

-- the bytes are this text and an end
abbrev pub Ends : List ℕ → List ℕ → Type 0
Ends raw text = (end : List ℕ) × IsEnding end × (raw ≡ text ++ end)

-- no byte of the text is LF
abbrev pub HasNoFeed : List ℕ → Type 0
HasNoFeed text = All (λ b. b ≢ 10) text

-- the text does not end in CR, which would belong to the line's end
abbrev pub NoReturn : List ℕ → Type 0
NoReturn text = 0 < length text → slice_index text (length text - 1) ≡ 13 → ⊥

-- the bytes are one line: a text and its end, with no LF before it
abbrev pub IsRaw : List ℕ → Type 0
IsRaw raw = (text : List ℕ) × HasNoFeed text × Ends raw text

-- the bytes are the line with that number and this text: ended, and within the limits
pub record IsLine (number : ℕ) (text raw : List ℕ) : Type 0 where
  pub ends : Ends raw text
  pub short : length text ≤ 140000
  pub count : number ≤ 10000000

-- the last byte is LF
abbrev pub is_ended : List ℕ → Bool
is_ended raw = nat_lt 0 (length raw) && slice_index raw (length raw - 1) == 10

-- a line from its first column to its last
abbrev pub whole_line : ℕ → List ℕ → Span
whole_line number text = record { line = number; start = 0; stop = length text }

-- the text of a line, or the first fault of the line as a whole
abbrev pub text_in : ℕ → List ℕ → Bool → Result (List ℕ) TextFault
text_in number text ended =
    if nat_lt 140000 (length text) then Err (record { kind = LineTooLong; span = whole_line number text })
    else if not ended then Err (record { kind = Cut; span = whole_line number text })
    else if nat_lt 10000000 number then Err (record { kind = TooManyLines; span = whole_line number text })
    else Ok text

-- the text of a line that is given with its end
unfoldable pub line_text : ℕ → List ℕ → Result (List ℕ) TextFault
line_text number raw = text_in number (without_terminator raw) (is_ended raw)

-- the fields of a line that is given with its end
unfoldable pub line_rest : ℕ → List ℕ → Result Rest TextFault
line_rest number raw = line_text number raw >>= λ text. Ok (rest_of number text)

-- a text that is exactly this one, else Header
abbrev pub exact_text : ℕ → List ℕ → List ℕ → Result (Unit {0}) TextFault
exact_text number wanted text =
    if bytes_eq text wanted then Ok tt else Err (record { kind = Header; span = whole_line number text })

-- a line whose text is exactly this one
unfoldable pub expect_line : ℕ → List ℕ → List ℕ → Result (Unit {0}) TextFault
expect_line number wanted raw = line_text number raw >>= λ text. exact_text number wanted text

-- the next line of a text, which must exist
abbrev pub next_raw : ℕ → List (List ℕ) → Result (List ℕ × List (List ℕ)) TextFault
next_raw number [] = Err (missing_line number)
next_raw number (raw ∷ raws) = Ok (raw, raws)
