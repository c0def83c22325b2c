use Rattle.std.proofs.Common.{◌≡◌, ◌-◌, [], None}
use Rattle.case_lines.specs.CaseLines.{KeepsWitness}
use Rattle.trace_reader.specs.TraceLeft.{kept_of, place_of, fault_of, reader_failures, AreAt, IsBegun, lines_left, rows_behind}
use Rattle.trace_reader.specs.TraceLeft.{place_behind}
use Rattle.checker.specs.Ahead.{Passes}
use Rattle.checker.proofs.one_text.read_lines.Given as goal

-- the lines so far were read
abbrev pub invariant-loop-lines : goal.invariant-loop-lines
invariant-loop-lines g l = record {
  working : fault_of l.trace ≡ None;
  begun : IsBegun l.trace;
  none : kept_of l.trace ≡ [];
  passed : Passes (lines_left g.R.Read.remaining l.fn.trace) (lines_left g.R.Read.remaining l.trace) l.lines;
  at : AreAt (place_of l.fn.trace) l.lines;
  behind : place_of l.trace ≡ place_behind (place_of l.fn.trace) l.lines;
  kept : KeepsWitness (rows_behind g.R.Read.remaining l.fn.trace) (rows_behind g.R.Read.remaining l.trace);
  counts : reader_failures l.trace ≡ reader_failures l.fn.trace;
}

abbrev pub decreases-loop-lines : goal.decreases-loop-lines
decreases-loop-lines g l = 10000001 - (place_of l.trace).1
