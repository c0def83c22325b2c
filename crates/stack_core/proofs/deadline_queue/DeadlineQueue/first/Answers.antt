use Rattle.stack_core.proofs.DeadlineQueueLemmas.{earliest_first}
use Rattle.stack_core.proofs.deadline_queue.DeadlineQueue.first.Goals as goal

pub returns-in-Some-clause-earliest : goal.returns-in-Some-clause-earliest
returns-in-Some-clause-earliest c = earliest_first c.in-Some.wake.now c.args.self.now.entries.keys c.in-Some.ensures.all_from
