-- A case: one text with a trace and its witness, split, read and judged.
use Rattle.std.specs.Prelude.{◌≡◌, ℕ, List, Result, Ok, Err, take, drop}
use Rattle.std.specs.List.{concat, position_or_len}
use Rattle.bstr.specs.Text.{lines_of}
use Rattle.case_forms.specs.declared.trace.Trace.{Trace}
use Rattle.case_forms.specs.declared.steps.Witness.{Witness}
use Rattle.case_forms.specs.declared.version.Version.{Version}
use Rattle.line_fields.specs.declared.fault.FaultKind.{FaultKind}
use Rattle.line_fields.specs.declared.fault.FaultKind.TheVariants as kinds
use Rattle.line_fields.specs.declared.fault.TextFault.{TextFault}
use Rattle.trace_reader.specs.TraceText.{trace_of}
use Rattle.case_lines.specs.FirstLine.{version_named}
use Rattle.witness.specs.WitnessText.{witness_for}
use Rattle.witness.specs.FirstLine.{begins_witness}
use Rattle.verdict.specs.declared.report.Verdict.{Verdict}
use Rattle.checker.specs.declared.case.CaseFault.{CaseFault}
use Rattle.checker.specs.declared.case.CaseFault.TheVariants as faults
use Rattle.checker.specs.Verdicts.{verdict}

-- a case of a version is split before its first line that begins a witness of this version, or at its end
abbrev pub cut_place : Version → List (List ℕ) → ℕ
cut_place v raws = position_or_len (begins_witness v) raws

abbrev pub trace_part : Version → List ℕ → List ℕ
trace_part v text = concat (take (cut_place v (lines_of text)) (lines_of text))

abbrev pub witness_part : Version → List ℕ → List ℕ
witness_part v text = concat (drop (cut_place v (lines_of text)) (lines_of text))

-- the trace's fault, else the witness's, else the verdict
abbrev pub judged : Result Trace TextFault → Result Witness TextFault → Result Verdict CaseFault
judged (Err fault) read = Err (faults.Trace fault)
judged (Ok t) (Err fault) = Err (faults.Witness fault)
judged (Ok t) (Ok w) = Ok (verdict t w)

-- a fault of a text as a fault of the case: running out of memory has no place in a text
abbrev pub case_fault : FaultKind → CaseFault → CaseFault
case_fault kinds.OutOfMemory fault = faults.OutOfMemory
case_fault kind fault = fault

-- the witness of a text for that trace, in its version; after a fault of the trace it isn't read
abbrev pub witness_behind : Result Trace TextFault → List ℕ → Result Witness TextFault
witness_behind (Ok t) witness = witness_for t.header.version witness
witness_behind (Err e) witness = Err e

-- what a trace's text and a witness's text give: the trace's fault, else the witness's, else the verdict
abbrev pub texts_result : List ℕ → List ℕ → Result Verdict CaseFault
texts_result trace witness = judged (trace_of trace) (witness_behind (trace_of trace) witness)

-- the result of a case that is split as one of a version
abbrev pub case_of : Version → List ℕ → Result Verdict CaseFault
case_of v text = texts_result (trace_part v text) (witness_part v text)

-- the version is the one that the first line of its trace names
unfoldable pub case_result : List ℕ → Result Verdict CaseFault
case_result text = case_of (version_named (lines_of text)) text

-- what a function returned is this result, unless memory ran out
abbrev pub GivesCase : Result Verdict CaseFault → Result Verdict CaseFault → Type 0
GivesCase (Err faults.OutOfMemory) read = Unit {0}
GivesCase given read = given ≡ read
