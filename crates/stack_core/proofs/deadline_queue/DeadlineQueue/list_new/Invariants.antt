use Rattle.std.proofs.Common.{◌-◌, length}
use Rattle.stack_core.specs.DeadlineQueues.{IsGrown}
use Rattle.stack_core.proofs.deadline_queue.DeadlineQueue.list_new.Given as goal

abbrev pub invariant-loop-endpoint : goal.invariant-loop-endpoint
invariant-loop-endpoint l = IsGrown (length l.body.endpoints) l.initial.self.looked l.initial.self.entries.keys l.self.looked l.self.entries.keys

abbrev pub decreases-loop-endpoint : goal.decreases-loop-endpoint
decreases-loop-endpoint l = length l.body.endpoints - l.self.looked
