use Rattle.std.proofs.Common.{◌≡◌, ◌+◌, ◌-◌, drop, length}
use Rattle.streams.specs.Views.{leading_received}
use Rattle.streams.proofs.byte_places.leading_received.Given as goal

abbrev pub invariant-loop-count : goal.invariant-loop-count
invariant-loop-count l = leading_received l.marks ≡ l.count + leading_received (drop l.count l.marks)

abbrev pub decreases-loop-count : goal.decreases-loop-count
decreases-loop-count l = length l.marks - l.count
