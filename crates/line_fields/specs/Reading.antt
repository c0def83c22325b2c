-- Reading a line from left to right, up to the first fault.
use Rattle.std.specs.Prelude.{◌≡◌, ℕ, ◌==◌, ◌&&◌, Bool, nat_le, if◌then◌else◌, List, [], ◌∷◌, length, Option, Some}
use Rattle.std.specs.Prelude.{None, Result, Ok, Err}
use Rattle.std.specs.Str.{bytes_eq}
use Rattle.std.specs.Str.Parse.{digits_value}
use Rattle.std.specs.Fmt.{decimal}
use Rattle.line_fields.specs.declared.fault.FaultKind.{FaultKind}
use Rattle.line_fields.specs.declared.fault.FaultKind.TheVariants.{Field, Number, OutOfMemory}
use Rattle.line_fields.specs.declared.fault.TextFault.{TextFault}
use Rattle.line_fields.specs.Word.{Word, Rest}

-- one reading after the other, up to the first fault
infixl 10 ◌>>=◌
abbrev pub ◌>>=◌ : {A B : Type 0} → Result A TextFault → (A → Result B TextFault) → Result B TextFault
(Ok x) >>= f = f x
(Err e) >>= f = Err e

-- reading has this fault, unless memory ran out
abbrev pub Fails : {Y : Type 0} → FaultKind → TextFault → Result Y TextFault → Type 0
Fails OutOfMemory e read = Unit {0}
Fails kind e read = read ≡ Err e

-- what a function returned, seen by view, is the result of reading, unless memory ran out
abbrev pub Gives : {X Y : Type 0} → (X → Y) → Result X TextFault → Result Y TextFault → Type 0
Gives view (Ok x) read = read ≡ Ok (view x)
Gives view (Err e) read = Fails e.kind e read

-- a fault whose place is a field
abbrev pub fault_at : FaultKind → Word → TextFault
fault_at kind w = record { kind = kind; span = record { line = w.line; start = w.start; stop = w.stop } }

-- a missing field has its place at the line's end
abbrev pub missing : Rest → TextFault
missing r = record { kind = Field; span = record { line = r.line; start = r.stop; stop = r.stop } }

-- the first field and those after it, or this fault if there is none
abbrev pub first_of : TextFault → ℕ → ℕ → List Word → Result (Word × Rest) TextFault
first_of none line stop [] = Err none
first_of none line stop (w ∷ ws) = Ok (w, record { line = line; stop = stop; words = ws })

-- the next field
abbrev pub next_field : Rest → Result (Word × Rest) TextFault
next_field r = first_of (missing r) r.line r.stop r.words

-- the text is the decimal spelling of a number, which is within the limits
abbrev pub is_number : ℕ → ℕ → List ℕ → ℕ → Bool
is_number least most text n = bytes_eq text (decimal n) && nat_le least n && nat_le n most

-- the number that a field spells: an empty field is Field, any other that spells no such number is Number
unfoldable pub number_value : ℕ → ℕ → Word → Result ℕ TextFault
number_value least most w =
    if length w.text == 0 then Err (fault_at Field w)
    else if is_number least most w.text (digits_value 10 w.text) then Ok (digits_value 10 w.text)
    else Err (fault_at Number w)

-- the next field, which is a number
unfoldable pub number_field : ℕ → ℕ → Rest → Result (ℕ × Rest) TextFault
number_field least most r = do
  w ← next_field r
  n ← number_value least most w.0
  Ok (n, w.1)

-- nothing is left, or the first field that is too many
abbrev pub ended_by : List Word → Result (Unit {0}) TextFault
ended_by [] = Ok tt
ended_by (w ∷ ws) = Err (fault_at Field w)

-- the end of a line
unfoldable pub no_more : Rest → Result (Unit {0}) TextFault
no_more r = ended_by r.words

-- this value if nothing is left, else what is read
abbrev pub or_end : {A : Type 0} → A → (Rest → Result (A × Rest) TextFault) → List Word → Rest
    → Result (A × Rest) TextFault
or_end a read [] r = Ok (a, r)
or_end a read (w ∷ ws) r = read r

-- a value that the field may spell, and Field if it doesn't
abbrev pub or_fault : {A : Type 0} → TextFault → Option A → Result A TextFault
or_fault e (Some x) = Ok x
or_fault e None = Err e
