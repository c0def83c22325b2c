-- A step as a line of a witness.
use Rattle.std.specs.Prelude.{◌≡◌, ◌≤◌, ℕ, List, ◌∷◌, Result, Ok}
use Rattle.case_forms.specs.declared.named_line.NamedLine.{NamedLine}
use Rattle.case_forms.specs.declared.steps.Label.{Label}
use Rattle.case_forms.specs.declared.steps.Step.{Step}
use Rattle.case_forms.specs.declared.version.Version.{Version}
use Rattle.line_fields.specs.declared.fault.TextFault.{TextFault}
use Rattle.line_fields.specs.Word.{Rest}
use Rattle.line_fields.specs.Reading.{◌>>=◌, number_field, no_more}
use Rattle.line_fields.specs.Lines.{IsLine, whole_line, line_rest}
use Rattle.line_fields.specs.Spelling.{Piece, number, AreWritten, joined}
use Rattle.witness.specs.Labels.{label_pieces, IsLabel}
use Rattle.witness.specs.LabelFields.{label_field}

-- the fields of a step: its moment, then its label
abbrev pub step_pieces : Step → List Piece
step_pieces s = number s.moment ∷ label_pieces s.label

-- the bytes, with their end, are the line with that number that spells the step in this version; its span is the whole
-- line
pub record IsStepText (v : Version) (number : ℕ) (s : Step) (raw : List ℕ) : Type 0 where
  pub texts : List (List ℕ)
  pub written : AreWritten (step_pieces s) texts
  pub line : IsLine number (joined texts) raw
  pub moment : s.moment ≤ 1000000000000000000
  pub label : IsLabel v s.label
  pub span : s.span ≡ whole_line number (joined texts)

-- moment and label, and no more fields
abbrev pub step_fields : Version → Rest → Result (ℕ × Label NamedLine) TextFault
step_fields v r = do
  moment ← number_field 0 1000000000000000000 r
  label ← label_field v moment.1
  end ← no_more label.1
  Ok (moment.0, label.0)

-- the step in the line with that number, or the line's first fault
unfoldable pub step_of : Version → ℕ → List ℕ → Result Step TextFault
step_of v number raw = do
  r ← line_rest number raw
  s ← step_fields v r
  Ok (record { moment = s.0; label = s.1; span = record { line = number; start = 0; stop = r.stop } })
