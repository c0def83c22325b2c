use Rattle.std.proofs.Common.{◌≡◌, ◌+◌, ℕ, length}
use Rattle.tables.specs.Queues.{standing}
use Rattle.tables.proofs.queue.drop_empty.Given as goal

abbrev pub invariant-loop-slots : goal.invariant-loop-slots
invariant-loop-slots g l = record {
  same : (n : ℕ) → standing n l.initial.slots.items ≡ standing (n + l.count) l.slots.items;
  count : length l.initial.slots.items ≡ l.count + length l.slots.items;
}

abbrev pub decreases-loop-slots : goal.decreases-loop-slots
decreases-loop-slots g l = length l.slots.items
