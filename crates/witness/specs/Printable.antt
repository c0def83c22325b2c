-- Which witnesses can be printed and read again: values within the limits of the text, wherever their spans are.
use Rattle.std.specs.Prelude.{◌≤◌, ℕ, ◌+◌, List, [], ◌∷◌, length}
use Rattle.std.specs.List.{AllByRecursion}
use Rattle.case_forms.specs.Limits.{Has16, Has32, HasAnswerBits, HasPlanBits, IsTextAnswer}
use Rattle.case_forms.specs.Witnesses.{TellsShift}
use Rattle.case_forms.specs.declared.named_line.NamedLine.{NamedLine}
use Rattle.case_forms.specs.declared.steps.Label.{Label}
use Rattle.case_forms.specs.declared.steps.Label.TheVariants.{L, D, M, T, K, R, F}
use Rattle.case_forms.specs.declared.steps.Step.{Step}
use Rattle.case_forms.specs.declared.steps.Witness.{Witness}
use Rattle.line_fields.specs.Hosts.{IsHost}
use Rattle.line_fields.specs.Lines.{whole_line}
use Rattle.line_fields.specs.Spelling.{IsBytePiece, joined, piece_texts}
use Rattle.case_forms.specs.declared.version.Version.{Version}
use Rattle.witness.specs.Labels.{label_pieces, AreExtras, IsChange, IsEntry, IsLabel}
use Rattle.witness.specs.Steps.{step_pieces}

-- the bytes of a step are bytes, as those of each step in memory are
abbrev pub HasBytes : Step → Type 0
HasBytes s = AllByRecursion IsBytePiece (label_pieces s.label)

-- the moment and the label of a step are within their limits, and its bytes are bytes
pub record IsPrintableStep (v : Version) (s : Step) : Type 0 where
  pub moment : s.moment ≤ 1000000000000000000
  pub label : IsLabel v s.label
  pub bytes : HasBytes s

-- the steps are within their limits, and the last line has a number that a text may have
pub record IsPrintableWitness (w : Witness) : Type 0 where
  pub few : length w.steps ≤ 9999999
  pub steps : AllByRecursion (IsPrintableStep w.version) w.steps

-- what the types of a label's values ensure: its numbers are in their ranges
abbrev pub HasLabelBits : Label NamedLine → Type 0
HasLabelBits (L line) = AreExtras line.extras
HasLabelBits (D thread answer) = Has32 thread × HasAnswerBits answer
HasLabelBits (M host plan) = HasPlanBits plan
HasLabelBits (T host line choice) = Has32 choice.cwnd
HasLabelBits (K host line) = Unit {0}
HasLabelBits (R host line) = Unit {0}
HasLabelBits (F host x) = Has16 x.lport × Has16 x.rport × Has32 x.cwnd × Has32 x.ssthresh

-- what they ensure of a step
pub record IsInMemory (s : Step) : Type 0 where
  pub label : HasLabelBits s.label
  pub bytes : HasBytes s

-- the limits of a label that no type ensures: hosts of this version, ports from 1 on, lines that a trace may have,
-- positions, how many bytes, and what may become of a recovery in this version
abbrev pub IsWithinLabel : Version → Label NamedLine → Type 0
IsWithinLabel v (L line) = Has32 line.number
IsWithinLabel v (D thread answer) = IsTextAnswer answer
IsWithinLabel v (M host plan) =
    IsHost v host × (1 ≤ plan.lport) × (1 ≤ plan.rport) × (plan.pos ≤ 1000000000000000000) × (plan.len ≤ 65515)
IsWithinLabel v (T host line choice) = IsEntry v host line
IsWithinLabel v (K host line) = IsEntry v host line
IsWithinLabel v (R host line) = IsEntry v host line
IsWithinLabel v (F host x) = IsHost v host × (1 ≤ x.lport) × (1 ≤ x.rport) × IsChange v x.change

-- and of a step, and of a witness
pub record IsWithinStep (v : Version) (s : Step) : Type 0 where
  pub moment : s.moment ≤ 1000000000000000000
  pub label : IsWithinLabel v s.label

pub record IsWithinWitness (w : Witness) : Type 0 where
  pub few : length w.steps ≤ 9999999
  pub steps : AllByRecursion (IsWithinStep w.version) w.steps

-- each shift in these steps may be given
abbrev pub TellShifts : Version → List Step → Type 0
TellShifts v steps = AllByRecursion (λ s. TellsShift v s.label) steps

-- a step with the span that it has as the line with that number
abbrev pub step_at : ℕ → Step → Step
step_at number s = record s { span = whole_line number (joined (piece_texts (step_pieces s))) }

-- steps with the spans that they have in the printed text, from the line with that number on
abbrev pub steps_at : ℕ → List Step → List Step
steps_at number [] = []
steps_at number (s ∷ steps) = step_at number s ∷ steps_at (number + 1) steps

-- a witness with the spans that its steps have in the printed text
abbrev pub with_columns : Witness → Witness
with_columns w = record w { steps = steps_at 2 w.steps }
