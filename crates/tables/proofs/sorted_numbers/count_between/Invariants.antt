use Rattle.std.proofs.Common.{◌-◌, ◌≤◌, length}
use Rattle.tables.specs.Tables.{AreBelow, AreNotBelow}
use Rattle.tables.proofs.sorted_numbers.count_between.Given as goal

abbrev pub invariant-loop-low : goal.invariant-loop-low
invariant-loop-low l = record {
  order : l.low ≤ l.high;
  bound : l.high ≤ length l.risen;
  below : AreBelow l.risen l.low l.number;
  from : AreNotBelow l.risen l.high l.number;
}

abbrev pub decreases-loop-low : goal.decreases-loop-low
decreases-loop-low l = l.high - l.low
