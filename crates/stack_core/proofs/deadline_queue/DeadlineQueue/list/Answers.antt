use Rattle.stack_core.proofs.DeadlineQueueLemmas.{inserted}
use Rattle.stack_core.proofs.deadline_queue.DeadlineQueue.list.Goals as goal

pub returns-in-Ok-clause-yes : goal.returns-in-Ok-clause-yes
returns-in-Ok-clause-yes c = λ is. inserted c.args.self.now.entries.keys c.insert.new.self.keys c.args.wake c.in-Ok.ensures.keys
