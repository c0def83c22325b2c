use Rattle.std.proofs.Common.{List, inr, subst, ◌∙◌}
use Rattle.stack_core.specs.declared.deadline_queue.Deadline.{Deadline}
use Rattle.stack_core.specs.DeadlineQueues.{AreStill}
use Rattle.stack_core.proofs.deadline_queue.DeadlineQueue.renew.Goals as goal

pub returns-then-list-clause-renewed : goal.returns-then-list-clause-renewed
returns-then-list-clause-renewed c =
    let joined = c.list.ensures.yes c.if-list.true in
    inr (
      c.list.ensures.looked ∙ c.leave.ensures.looked,
      subst (λ (l : List Deadline). AreStill l c.list.new.self.entries.keys) c.leave.ensures.rest joined.0,
      joined.1,
    )
