-- The flags of a segment to build, as letters.
use Rattle.std.specs.Prelude.{ℕ, Bool, true, false, ◌==◌, ◌&&◌, nat_lt, if◌then◌else◌, List, [], ◌∷◌, ◌++◌, length}
use Rattle.std.specs.Prelude.{Option, Some, None, Result, Ok, codes}
use Rattle.std.specs.Str.{bytes_eq}
use Rattle.case_forms.specs.declared.steps.Flags.{Flags}
use Rattle.line_fields.specs.declared.fault.FaultKind.TheVariants.{Field}
use Rattle.line_fields.specs.declared.fault.TextFault.{TextFault}
use Rattle.line_fields.specs.Word.{Word, Rest}
use Rattle.line_fields.specs.Reading.{◌>>=◌, fault_at, next_field, or_fault}

-- the letter of a flag that is set
abbrev pub letter_if : Bool → List ℕ → List ℕ
letter_if true letter = letter
letter_if false letter = []

-- the letters of the flags that are set, in their order
abbrev pub letters_of : Flags → List ℕ
letters_of f =
    letter_if f.ack (codes "A")
    ++ (letter_if f.rst (codes "R") ++ (letter_if f.syn (codes "S") ++ letter_if f.fin (codes "F")))

-- letters, and a dash if there are none
abbrev pub or_dash : List ℕ → List ℕ
or_dash [] = codes "-"
or_dash (b ∷ bs) = b ∷ bs

-- the text of flags
abbrev pub flags_text : Flags → List ℕ
flags_text f = or_dash (letters_of f)

-- no flag is set
abbrev pub no_flags : Flags
no_flags = record { ack = false; rst = false; syn = false; fin = false }

-- whether a text begins with this letter, and the text after it
abbrev pub behind_letter : ℕ → List ℕ → Bool × List ℕ
behind_letter letter [] = (false, [])
behind_letter letter (b ∷ bs) = if b == letter then (true, bs) else (false, b ∷ bs)

-- the flags spelled by these letters, at least one; A, R, S and F are 65, 82, 83 and 70
abbrev pub letters_named : List ℕ → Option Flags
letters_named text =
    let ack = behind_letter 65 text in
    let rst = behind_letter 82 ack.1 in
    let syn = behind_letter 83 rst.1 in
    let fin = behind_letter 70 syn.1 in
    if nat_lt 0 (length text) && length fin.1 == 0
    then Some (record { ack = ack.0; rst = rst.0; syn = syn.0; fin = fin.0 })
    else None

-- the flags that a field names, and Field if it names none
abbrev pub flags_value : Word → Result Flags TextFault
flags_value w = if bytes_eq w.text (codes "-") then Ok no_flags else or_fault (fault_at Field w) (letters_named w.text)

-- the next field, which names flags
unfoldable pub flags_field : Rest → Result (Flags × Rest) TextFault
flags_field r = do
  w ← next_field r
  f ← flags_value w.0
  Ok (f, w.1)
