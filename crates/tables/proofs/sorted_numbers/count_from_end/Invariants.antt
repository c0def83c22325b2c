use Rattle.std.proofs.Common.{◌≤◌, length}
use Rattle.tables.specs.Tables.{AreNotBelow}
use Rattle.tables.proofs.sorted_numbers.count_from_end.Given as goal

abbrev pub invariant-loop-high : goal.invariant-loop-high
invariant-loop-high l = record {
  bound : l.high ≤ length l.risen;
  from : AreNotBelow l.risen l.high l.number;
}

abbrev pub decreases-loop-high : goal.decreases-loop-high
decreases-loop-high l = l.high
