-- The numbers by which C knows an answer to a case.
use Rattle.std.specs.Prelude.{◌≡◌, ℕ, Result, Ok, Err}
use Rattle.segment.specs.declared.fault.SegFault.TheVariants as segments
use Rattle.line_fields.specs.declared.fault.FaultKind.{FaultKind}
use Rattle.line_fields.specs.declared.fault.FaultKind.TheVariants as kinds
use Rattle.line_fields.specs.declared.fault.TextFault.{TextFault}
use Rattle.verdict.specs.declared.report.Verdict.{Verdict}
use Rattle.verdict.specs.declared.report.Verdict.TheVariants as verdicts
use Rattle.spec_tcp_laws.specs.Ascending.{rule_number}
use Rattle.checker.specs.declared.case.CaseFault.{CaseFault}
use Rattle.checker.specs.declared.case.CaseFault.TheVariants as faults
use Rattle.c_answers.specs.declared.answer.Answer.{Answer}

-- the number of a fault's kind, the first being 1
abbrev pub fault_number : FaultKind → ℕ
fault_number kinds.Header = 1
fault_number kinds.Field = 2
fault_number kinds.Number = 3
fault_number kinds.Hex = 4
fault_number (kinds.Segment segments.Short) = 5
fault_number (kinds.Segment segments.Offset) = 6
fault_number (kinds.Segment segments.OptionLength) = 7
fault_number (kinds.Segment segments.TooLong) = 8
fault_number (kinds.Segment segments.OutOfMemory) = 9
fault_number kinds.MomentFalls = 10
fault_number kinds.LineTooLong = 11
fault_number kinds.Cut = 12
fault_number kinds.TooManyLines = 13
fault_number kinds.OutOfMemory = 14

-- an answer of this kind whose other numbers are 0
abbrev pub blank : ℕ → Answer
blank kind =
    record {
      kind = kind;
      rule = 0;
      fault = 0;
      lines = 0;
      hidden = 0;
      witness_line = 0;
      trace_line = 0;
      fault_line = 0;
      fault_start = 0;
      fault_stop = 0;
    }

-- the answer of this kind that says where a text is at fault
abbrev pub of_fault : ℕ → TextFault → Answer
of_fault kind f =
    record (blank kind) {
      fault = fault_number f.kind;
      fault_line = f.span.line;
      fault_start = f.span.start;
      fault_stop = f.span.stop;
    }

-- the numbers of a result: kind 0 is a yes, 1 a no, 2 a fault of the trace, 3 one of the witness, 4 that memory ran
-- out, 5 that a reader failed
abbrev pub answer_of : Result Verdict CaseFault → Answer
answer_of (Ok (verdicts.Yes lines hidden)) = record (blank 0) { lines = lines; hidden = hidden }
answer_of (Ok (verdicts.No witness_line trace_line rule)) =
    record (blank 1) { rule = rule_number rule; witness_line = witness_line; trace_line = trace_line }
answer_of (Err (faults.Trace f)) = of_fault 2 f
answer_of (Err (faults.Witness f)) = of_fault 3 f
answer_of (Err faults.OutOfMemory) = blank 4
answer_of (Err faults.Read) = blank 5

-- the numbers are those of a result that is so
abbrev pub Answers : Answer → (Result Verdict CaseFault → Type 0) → Type 0
Answers answer is = (r : Result Verdict CaseFault) × (answer ≡ answer_of r) × is r
