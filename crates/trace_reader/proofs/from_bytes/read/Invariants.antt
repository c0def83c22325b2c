use Rattle.std.proofs.Common.{◌≡◌, ◌-◌, ℕ, List, None, Some, Bor, Result}
use Rattle.case_forms.specs.declared.trace.Line.{Line}
use Rattle.line_fields.specs.declared.fault.TextFault.{TextFault}
use Rattle.line_fields.proofs.Loop.{with_front}
use Rattle.trace_reader.specs.TraceText.{trace_of}
use Rattle.trace_reader.specs.TraceLeft.{fault_of, lines_left, IsBegun, with_header}
use Rattle.trace_reader.proofs.from_bytes.read.Given as goal

-- what was read, and what is left, are the whole trace
abbrev pub invariant-loop-lines : goal.invariant-loop-lines
invariant-loop-lines l = record {
  well : fault_of l.reader ≡ None;
  begun : IsBegun l.reader;
  left : Result (List Line) TextFault;
  left_is : lines_left (λ (text : Bor (List ℕ)). Some text.now) l.reader ≡ Some left;
  whole : trace_of l.text ≡ with_header l.header (with_front l.lines left);
}

abbrev pub decreases-loop-lines : goal.decreases-loop-lines
decreases-loop-lines l = 10000001 - l.reader.number
