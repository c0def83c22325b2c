use Rattle.std.proofs.Common.{◌≡◌}
use Rattle.counted.specs.Counting.{left_of, failures_of}
use Rattle.case_stream.specs.Long.{AreWhole}
use Rattle.case_stream.proofs.CaseSoFar.{IsSoFar}
use Rattle.case_stream.proofs.next_case.Given as goal

abbrev pub invariant-loop : goal.invariant-loop
invariant-loop g l = record {
  so_far : IsSoFar (left_of g.B.Read.remaining l.fn.r) l.text.items (left_of g.B.Read.remaining l.r);
  whole : AreWhole l.text.items;
  counts : failures_of l.r ≡ failures_of l.fn.r;
}
