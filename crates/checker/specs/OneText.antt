-- A case in one text that a reader gives.
use Rattle.std.specs.Prelude.{◌≡◌, ℕ, List, Option, None, Some, Result, Err}
use Rattle.std.specs.Option.{option_map}
use Rattle.case_forms.specs.declared.trace.Header.{Header}
use Rattle.case_forms.specs.declared.trace.Line.{Line}
use Rattle.case_forms.specs.declared.trace.Trace.{Trace}
use Rattle.case_forms.specs.declared.steps.Step.{Step}
use Rattle.case_forms.specs.declared.steps.Witness.{Witness}
use Rattle.case_forms.specs.declared.version.Version.{Version}
use Rattle.line_fields.specs.declared.fault.TextFault.{TextFault}
use Rattle.line_fields.specs.Rows.{rows_of}
use Rattle.witness.specs.StepsLeft.{steps_from}
use Rattle.verdict.specs.declared.report.Verdict.{Verdict}
use Rattle.checker.specs.declared.case.CaseFault.{CaseFault}
use Rattle.checker.specs.declared.case.CaseFault.TheVariants as faults
use Rattle.checker.specs.Cases.{case_result}
use Rattle.checker.specs.Texts.{AreInCase}

-- the result is that of the case, if its bytes are known, unless memory ran out or a read failed
abbrev pub GivesText : Result Verdict CaseFault → Option (List ℕ) → Type 0
GivesText (Err faults.OutOfMemory) text = Unit {0}
GivesText (Err faults.Read) text = Unit {0}
GivesText given None = Unit {0}
GivesText given (Some text) = given ≡ case_result text

-- the two parts of a case whose bytes are known are read this way
abbrev pub AreInText : Option (List ℕ) → Trace → Witness → Type 0
AreInText None t w = ⊥
AreInText (Some text) t w = AreInCase text t w

-- a header with its lines
abbrev pub trace_with : Header → List Line → Trace
trace_with header lines = record { header = header; lines = lines }

-- the steps after the first line of a witness of this version, or the first fault among them, if the bytes are known
abbrev pub steps_behind : Version → Option (List ℕ) → Option (Result (List Step) TextFault)
steps_behind v known = option_map (steps_from v (Some 2)) (rows_of known)
