-- The first fault of a line, and of lines that are read one after the other.
use Rattle.std.specs.Prelude.{◌≡◌, ◌⊎◌, ◌<◌, ◌≤◌, ℕ, false, true, List, [], ◌∷◌, ◌++◌, length, Ok}
use Rattle.bstr.specs.Text.{without_terminator}
use Rattle.line_fields.specs.Faults.{missing_line}
use Rattle.line_fields.specs.Folding.{AreSpelled}
use Rattle.line_fields.specs.Forms.{Form, IsFirstFault}
use Rattle.line_fields.specs.Lines.{is_ended, whole_line, line_text, line_rest}
use Rattle.line_fields.specs.Word.{Rest}
use Rattle.line_fields.specs.declared.fault.FaultKind.TheVariants as kinds
use Rattle.line_fields.specs.declared.fault.TextFault.{TextFault}

-- a fault of the line as a whole: it is too long; or else it has no end; or else it is one line too many
pub data IsWholeFault (number : ℕ) (raw : List ℕ) (e : TextFault) : Type 0 where
  TooLong : 140000 < length (without_terminator raw) → e
      ≡ record { kind = kinds.LineTooLong; span = whole_line number (without_terminator raw) }
      → IsWholeFault number raw e
  Cut : length (without_terminator raw) ≤ 140000 → is_ended raw ≡ false → e
      ≡ record { kind = kinds.Cut; span = whole_line number (without_terminator raw) } → IsWholeFault number raw e
  TooMany : length (without_terminator raw) ≤ 140000 → is_ended raw ≡ true → 10000000 < number → e
      ≡ record { kind = kinds.TooManyLines; span = whole_line number (without_terminator raw) }
      → IsWholeFault number raw e

-- the first fault of a line of this form: that of the line as a whole, or else that of the first of its fields that
-- doesn't fit the form
abbrev pub IsFaultOf : Form → ℕ → List ℕ → TextFault → Type 0
IsFaultOf form number raw e =
    IsWholeFault number raw e ⊎ ((r : Rest) × (line_rest number raw ≡ Ok r) × IsFirstFault form r e)

-- the first fault of a line with a required text: that of the line as a whole, or else Header
abbrev pub IsTextFaultOf : (List ℕ → Type 0) → ℕ → List ℕ → TextFault → Type 0
IsTextFaultOf Wanted number raw e =
    IsWholeFault number raw e
    ⊎ ((text : List ℕ) × (line_text number raw ≡ Ok text) × (Wanted text → ⊥)
    × (e ≡ record { kind = kinds.Header; span = whole_line number text }))

-- the first fault of a required line: it is missing, or it has this fault
abbrev pub IsNextFault : (ℕ → List ℕ → TextFault → Type 0) → ℕ → List (List ℕ) → TextFault → Type 0
IsNextFault Fault number [] e = e ≡ missing_line number
IsNextFault Fault number (raw ∷ raws) e = Fault number raw e

-- the state after these items
abbrev pub state_behind : {S A : Type 0} → (S → A → S) → S → List A → S
state_behind after state [] = state
state_behind after state (item ∷ items) = state_behind after (after state item) items

-- the first fault of lines that are read one after the other: those before are spelled so, and it is the fault of the
-- next one
pub record IsFaultAmong {S A : Type 0} (R : S → A → List ℕ → Type 0) (Fault : S → List ℕ → TextFault
    → Type 0) (after : S → A → S) (state : S)
    (raws : List (List ℕ)) (e : TextFault) : Type 0 where
  pub front : List (List ℕ)
  pub items : List A
  pub raw : List ℕ
  pub rest : List (List ℕ)
  pub split : raws ≡ front ++ raw ∷ rest
  pub spelled : AreSpelled R after state items front
  pub fault : Fault (state_behind after state items) raw e
