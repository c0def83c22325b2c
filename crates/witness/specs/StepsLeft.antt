-- What a reader of a witness has left.
use Rattle.std.specs.Prelude.{◌≤◌, ℕ, List, Option, None, Some, Result, Ok}
use Rattle.std.specs.Option.{option_map}
use Rattle.case_forms.specs.declared.steps.Step.{Step}
use Rattle.case_forms.specs.declared.steps.Witness.{Witness}
use Rattle.case_forms.specs.declared.version.Version.{Version}
use Rattle.case_forms.specs.Witnesses.{IsWithinLimits, TellsShift}
use Rattle.counted.specs.declared.ends.Counted.{Counted}
use Rattle.counted.specs.Counting.{left_of, failures_of}
use Rattle.line_fields.specs.declared.fault.TextFault.{TextFault}
use Rattle.line_fields.specs.declared.fault.SourceFault.{SourceFault}
use Rattle.line_fields.specs.Reading.{◌>>=◌}
use Rattle.line_fields.specs.Lines.{expect_line, next_raw}
use Rattle.line_fields.specs.Folding.{read_lines}
use Rattle.line_fields.specs.Rows.{rows_of}
use Rattle.witness.specs.FirstLine.{first_text}
use Rattle.witness.specs.Steps.{step_of}
use Rattle.witness.specs.WitnessText.{number_after, witness_in}
use Rattle.witness.specs.declared.stream.StepReader.{StepReader}

-- where it reads
abbrev pub source_of : {B : Type 0} → StepReader B → Counted B
source_of r = r.source

-- how many reads failed
abbrev pub reader_failures : {B : Type 0} → StepReader B → ℕ
reader_failures r = failures_of r.source

-- the number of the next line, none before the first line is read
abbrev pub number_read : {B : Type 0} → StepReader B → Option ℕ
number_read r = r.number

-- the number of the line of the next step
abbrev pub number_or_first : Option ℕ → ℕ
number_or_first None = 2
number_or_first (Some number) = number

abbrev pub number_of : {B : Type 0} → StepReader B → ℕ
number_of r = number_or_first r.number

-- the fault that was met, if any
abbrev pub fault_of : {B : Type 0} → StepReader B → Option SourceFault
fault_of r = r.fault

-- the version that it reads
abbrev pub version_of : {B : Type 0} → StepReader B → Version
version_of r = r.version

-- the lines after the first, which has a fixed text
abbrev pub first_line : Version → List (List ℕ) → Result (List (List ℕ)) TextFault
first_line v raws = next_raw 1 raws >>= λ raw. expect_line 1 (first_text v) raw.0 >>= λ begun. Ok raw.1

-- the steps of a witness
abbrev pub steps_of : Result Witness TextFault → Result (List Step) TextFault
steps_of read = read >>= λ w. Ok w.steps

-- the steps of these lines: of a whole witness, or from the line of this number on
abbrev pub steps_from : Version → Option ℕ → List (List ℕ) → Result (List Step) TextFault
steps_from v None raws = steps_of (witness_in v raws)
steps_from v (Some number) raws = read_lines (step_of v) number_after number raws

-- the steps that are left, or the first fault among them, if the bytes are known
abbrev pub steps_left : {B : Type 0} → (B → Option (List ℕ)) → StepReader B → Option (Result (List Step) TextFault)
steps_left known r = option_map (steps_from r.version r.number) (rows_of (left_of known r.source))

-- a step in the line with that number, in this version
pub record StandsAt (v : Version) (number : ℕ) (step : Step) : Type 0 where
  pub within : IsWithinLimits step.label
  pub shifts : TellsShift v step.label
  pub few : number ≤ 10000000
