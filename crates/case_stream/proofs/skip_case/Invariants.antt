use Rattle.std.proofs.Common.{◌≡◌}
use Rattle.counted.specs.Counting.{left_of, failures_of}
use Rattle.case_stream.proofs.LongCase.{IsSkipped}
use Rattle.case_stream.proofs.skip_case.Given as goal

abbrev pub invariant-loop : goal.invariant-loop
invariant-loop g l = record {
  skipped : IsSkipped (left_of g.B.Read.remaining l.fn.r) (left_of g.B.Read.remaining l.r);
  counts : failures_of l.r ≡ failures_of l.fn.r;
}
