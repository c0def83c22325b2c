-- Answers in numbers, and strings in memory, computed, so that a slip in a definition does not check.
use Rattle.std.proofs.Common.{◌≡◌, ℕ, List, [], ◌∷◌, Ok, Err, codes, refl}
use Rattle.segment.specs.declared.fault.SegFault.TheVariants as segments
use Rattle.line_fields.specs.declared.fault.FaultKind.{FaultKind}
use Rattle.line_fields.specs.declared.fault.FaultKind.TheVariants as kinds
use Rattle.line_fields.specs.declared.fault.TextFault.{TextFault}
use Rattle.verdict.specs.declared.rule.Rule.TheVariants.{AckLate}
use Rattle.verdict.specs.declared.report.Verdict.TheVariants as verdicts
use Rattle.checker.specs.declared.case.CaseFault.TheVariants as faults
use Rattle.c_answers.specs.declared.answer.Answer.{Answer}
use Rattle.c_answers.specs.Answers.{answer_of}
use Rattle.c_answers.specs.Strings.{string_in}

-- the numbers of an answer: three of kinds, two of a yes, two of a no, three of a fault
abbrev numbers : Answer → List ℕ
numbers a =
    a.kind ∷ a.rule ∷ a.fault ∷ a.lines ∷ a.hidden ∷ a.witness_line ∷ a.trace_line ∷ a.fault_line ∷ a.fault_start ∷ a.fault_stop ∷ []

-- the trace has seven event lines, and two steps use none
pub a_yes : numbers (answer_of (Ok (verdicts.Yes 7 2))) ≡ 0 ∷ 0 ∷ 0 ∷ 7 ∷ 2 ∷ 0 ∷ 0 ∷ 0 ∷ 0 ∷ 0 ∷ []
a_yes = refl

-- the step in line 9 of the witness names line 4 of the trace, and breaks rule 44
pub a_no : numbers (answer_of (Ok (verdicts.No 9 4 AckLate))) ≡ 1 ∷ 44 ∷ 0 ∷ 0 ∷ 0 ∷ 9 ∷ 4 ∷ 0 ∷ 0 ∷ 0 ∷ []
a_no = refl

-- a fault at the bytes 5 and 6 of line 3
abbrev fault_at : FaultKind → TextFault
fault_at kind = record { kind = kind; span = record { line = 3; start = 5; stop = 7 } }

pub a_bad_trace : numbers (answer_of (Err (faults.Trace (fault_at kinds.Number)))) ≡ 2 ∷ 0 ∷ 3 ∷ 0 ∷ 0 ∷ 0 ∷ 0 ∷ 3 ∷ 5 ∷ 7 ∷ []
a_bad_trace = refl

pub a_bad_witness : numbers (answer_of (Err (faults.Witness (fault_at (kinds.Segment segments.TooLong)))))
    ≡ 3 ∷ 0 ∷ 8 ∷ 0 ∷ 0 ∷ 0 ∷ 0 ∷ 3 ∷ 5 ∷ 7 ∷ []
a_bad_witness = refl

pub no_memory : numbers (answer_of (Err faults.OutOfMemory)) ≡ 4 ∷ 0 ∷ 0 ∷ 0 ∷ 0 ∷ 0 ∷ 0 ∷ 0 ∷ 0 ∷ 0 ∷ []
no_memory = refl

-- memory of no byte stays empty
pub no_room : string_in [] (codes "size") ≡ []
no_room = refl

-- three bytes hold two bytes of a longer text, and a zero
pub cut_text : string_in (35 ∷ 35 ∷ 35 ∷ []) (codes "state") ≡ 115 ∷ 116 ∷ 0 ∷ []
cut_text = refl

-- five bytes hold a text of two bytes and a zero, and the other two stay
pub whole_text : string_in (35 ∷ 35 ∷ 35 ∷ 35 ∷ 35 ∷ []) (codes "no") ≡ 110 ∷ 111 ∷ 0 ∷ 35 ∷ 35 ∷ []
whole_text = refl

-- an empty text is a zero, and the rest stays
pub empty_text : string_in (35 ∷ 35 ∷ 35 ∷ []) [] ≡ 0 ∷ 35 ∷ 35 ∷ []
empty_text = refl
