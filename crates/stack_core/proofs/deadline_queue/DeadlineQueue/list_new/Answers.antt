use Rattle.std.proofs.Common.{sym}
use Rattle.stack_core.proofs.DeadlineQueueLemmas.{entries_inside, entries_outside, grows_one}
use Rattle.stack_core.proofs.deadline_queue.DeadlineQueue.list_new.Goals as goal

pub loop-endpoint-preserved : goal.loop-endpoint-preserved
loop-endpoint-preserved c =
    grows_one _ c.args.self.now.looked c.args.self.now.entries.keys c.loop-endpoint.self.looked c.list.new.self.looked
    c.loop-endpoint.self.entries.keys c.list.new.self.entries.keys c.loop-endpoint.invariant c.list.ensures.looked
    (entries_inside c.args.body.now.endpoints c.loop-endpoint.self.looked _ (sym c.in-Some.ensures)) (c.list.ensures.yes c.if-list.true)

pub returns-clause-all : goal.returns-clause-all
returns-clause-all c = λ is. entries_outside c.args.body.now.endpoints c.loop-endpoint.self.looked (sym c.in_default.ensures)
