-- The line and the status that an answer has.
use Rattle.std.specs.Prelude.{ℕ, List, ◌++◌, Result, Ok, Err, codes, decimal}
use Rattle.line_fields.specs.Faults.{kind_name}
use Rattle.line_fields.specs.declared.fault.TextFault.{TextFault}
use Rattle.verdict.specs.VerdictText.{verdict_text}
use Rattle.verdict.specs.declared.report.Verdict.{Verdict}
use Rattle.verdict.specs.declared.report.Verdict.TheVariants as verdicts
use Rattle.checker.specs.declared.case.CaseFault.{CaseFault}
use Rattle.checker.specs.declared.case.CaseFault.TheVariants as faults

-- where a text is at fault, and how: the line, both columns and the kind, each after a space
abbrev pub fault_text : TextFault → List ℕ
fault_text fault =
    codes " " ++ decimal fault.span.line ++ codes " " ++ decimal fault.span.start
    ++ codes " " ++ decimal fault.span.stop ++ codes " " ++ kind_name fault.kind

-- the line of a case's answer, with its end
abbrev pub line_of : Result Verdict CaseFault → List ℕ
line_of (Ok verdict) = verdict_text verdict ++ codes "\n"
line_of (Err (faults.Trace fault)) = codes "bad trace" ++ fault_text fault ++ codes "\n"
line_of (Err (faults.Witness fault)) = codes "bad witness" ++ fault_text fault ++ codes "\n"
line_of (Err faults.Read) = codes "bad device\n"
line_of (Err faults.OutOfMemory) = codes "bad memory\n"

-- its status: the case is explained, it is not, its text is refused, a device failed, memory ran out
abbrev pub status_of : Result Verdict CaseFault → ℕ
status_of (Ok (verdicts.Yes lines hidden)) = 0
status_of (Ok (verdicts.No witness_line trace_line rule)) = 1
status_of (Err (faults.Trace fault)) = 2
status_of (Err (faults.Witness fault)) = 2
status_of (Err faults.Read) = 5
status_of (Err faults.OutOfMemory) = 4
