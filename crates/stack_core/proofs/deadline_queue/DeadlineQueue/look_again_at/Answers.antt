use Rattle.std.proofs.Common.{refl, inr, arith}
use Rattle.stack_core.proofs.deadline_queue.DeadlineQueue.look_again_at.Goals as goal

pub returns-then-self-place : goal.returns-then-self-place
returns-then-self-place c = let over = c.if-self-place.true in inr (refl, λ w is. is, λ less. absurd (omega arith))

pub returns-then-list : goal.returns-then-list
returns-then-list c = let joined = c.list.ensures.yes c.if-list.true in inr (c.list.ensures.looked, joined.0, λ less. joined.1)
