use Rattle.std.proofs.Common.{◌≡◌, length}
use Rattle.streams.specs.RangeEntries.{without}
use Rattle.streams.proofs.by_end.drop_between.Given as goal

abbrev pub invariant-loop-end : goal.invariant-loop-end
invariant-loop-end g l = without l.low l.high l.map.entries ≡ without l.low l.high l.initial.map.entries

abbrev pub decreases-loop-end : goal.decreases-loop-end
decreases-loop-end g l = length l.map.entries
