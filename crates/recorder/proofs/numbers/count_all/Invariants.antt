use Rattle.std.proofs.Common.{◌≡◌, ◌≤◌, ◌+◌, length}
use Rattle.stack_core.specs.Entries.{steps_in}
use Rattle.recorder.specs.Numbers.{counted, no_counts}
use Rattle.recorder.proofs.numbers.count_all.Given as goal

-- what is counted, and what is left will be, is all; and there is room for what is left
abbrev pub invariant-loop-entry : goal.invariant-loop-entry
invariant-loop-entry l = record {
  counts : counted (record { lines = l.counts.lines; mades = l.counts.mades }) l.entries ≡ counted (no_counts l.fn.first) l.fn.entries;
  lines : l.counts.lines.next + steps_in l.entries ≤ 1000000000;
  mades : l.counts.mades.next + steps_in l.entries ≤ 1000000001;
}

abbrev pub decreases-loop-entry : goal.decreases-loop-entry
decreases-loop-entry l = length l.entries
