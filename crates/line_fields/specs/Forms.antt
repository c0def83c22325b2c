-- The form of a line: what each field must be; and the first fault of a line that doesn't have this form.
use Rattle.std.specs.Prelude.{◌≡◌, ◌==◌, ℕ, nat_lt, if◌then◌else◌, List, [], ◌∷◌, ◌++◌, length, Option, None, Some}
use Rattle.std.specs.Prelude.{Result, Ok, Err}
use Rattle.std.specs.Str.Parse.{digits_value}
use Rattle.hex.specs.Hex.{decode_of}
use Rattle.hex.specs.declared.error.FromHexError.{FromHexError}
use Rattle.line_fields.specs.Choice.{kind_named}
use Rattle.line_fields.specs.Reading.{fault_at, is_number}
use Rattle.line_fields.specs.Word.{Word, Rest}
use Rattle.line_fields.specs.declared.fault.FaultKind.{FaultKind}
use Rattle.line_fields.specs.declared.fault.FaultKind.TheVariants as kinds
use Rattle.line_fields.specs.declared.fault.TextFault.{TextFault}

-- what a field must be: the kind of its fault if it is something else
abbrev pub Want : Type 0
Want = Word → Option FaultKind

-- the line ends; or it ends or continues so; or there is a field, and what follows may depend on it
pub data Form : Type 0 where
  End : Form
  Maybe : (form : Form) → Form
  Then : (want : Want) (next : Word → Form) → Form

-- an empty field is Field, whatever was expected there
abbrev pub unless_empty : Word → Option FaultKind → Option FaultKind
unless_empty w kind = if length w.text == 0 then Some kinds.Field else kind

-- a number within these limits
abbrev pub numeric : (least most : ℕ) → Want
numeric least most w =
    unless_empty w (if is_number least most w.text (digits_value 10 w.text) then None else Some kinds.Number)

-- one of these words
abbrev pub unknown : {K : Type 0} → Option K → Option FaultKind
unknown None = Some kinds.Field
unknown (Some kind) = None

abbrev pub named : {K : Type 0} → (K → List ℕ) → List K → Want
named name all w = unknown (kind_named name all w.text)

-- hex of at most this many bytes
abbrev pub hex_kind : ℕ → Result (List ℕ) FromHexError → Option FaultKind
hex_kind most (Ok bytes) = if nat_lt most (length bytes) then Some kinds.Hex else None
hex_kind most (Err bad) = Some kinds.Hex

abbrev pub digits : ℕ → Want
digits most w = unless_empty w (hex_kind most (decode_of w.text))

-- a field, and this after it
abbrev pub then_form : Want → Form → Form
then_form want form = Then want (λ w. form)

-- what follows a word, by the kind that it names
abbrev pub by_kind : {K : Type 0} → (K → Form) → Option K → Form
by_kind next None = End
by_kind next (Some kind) = next kind

-- one of these words, and its continuation
abbrev pub choice : {K : Type 0} → (K → List ℕ) → List K → (K → Form) → Form
choice name all next = Then (named name all) (λ w. by_kind next (kind_named name all w.text))

-- these fields match the beginning of a form, and this form remains after them
abbrev pub Begins : Form → List Word → Form → Type 0
Begins form [] left = form ≡ left
Begins End (w ∷ ws) left = ⊥
Begins (Maybe form) (w ∷ ws) left = Begins form (w ∷ ws) left
Begins (Then want next) (w ∷ ws) left = (want w ≡ None) × Begins (next w) ws left

-- the line ends in this column, but a field is missing
abbrev pub missing_at : (line stop : ℕ) → TextFault
missing_at line stop = record { kind = kinds.Field; span = record { line = line; start = stop; stop = stop } }

-- the next field doesn't fit the form: it is missing, has a fault, or is one too many
abbrev pub Differs : (line stop : ℕ) → Form → List Word → TextFault → Type 0
Differs line stop End [] e = ⊥
Differs line stop End (w ∷ ws) e = e ≡ fault_at kinds.Field w
Differs line stop (Maybe form) [] e = ⊥
Differs line stop (Maybe form) (w ∷ ws) e = Differs line stop form (w ∷ ws) e
Differs line stop (Then want next) [] e = e ≡ missing_at line stop
Differs line stop (Then want next) (w ∷ ws) e = (kind : FaultKind) × (want w ≡ Some kind) × (e ≡ fault_at kind w)

-- the first fault of a line's fields: those before match the form, and the next one doesn't
pub record IsFirstFault (form : Form) (r : Rest) (e : TextFault) : Type 0 where
  pub front : List Word
  pub rest : List Word
  pub left : Form
  pub split : r.words ≡ front ++ rest
  pub good : Begins form front left
  pub differs : Differs r.line r.stop left rest e
