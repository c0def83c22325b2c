use Rattle.std.proofs.Common.{◌-◌, ◌≤◌}
use Rattle.answer_stream.proofs.batch.TakenCases.take.Given as goal

abbrev pub invariant-loop-self : goal.invariant-loop-self
invariant-loop-self g l = record { few : l.self.count ≤ 32 }

abbrev pub decreases-loop-self : goal.decreases-loop-self
decreases-loop-self g l = 32 - l.self.count
