use Rattle.stack_core.proofs.TendedLemmas.{again_slow}
use Rattle.stack_core.proofs.timers.again_due.Goals as goal

pub returns : goal.returns
returns c = again_slow c.args.header.now c.args.endpoint.now c.due_since.result c.due_since.ensures
