use Rattle.std.proofs.Common.{arith}
use Rattle.tables.proofs.QueueLemmas.{none_below, none_beyond}
use Rattle.tables.proofs.queue.place_in.Goals as goal

pub returns-then-number-first-clause-none : goal.returns-then-number-first-clause-none
returns-then-number-first-clause-none g c = none_below c.args.number c.args.first c.args.slots.now.items (omega arith)

pub returns-then-place-len-clause-none : goal.returns-then-place-len-clause-none
returns-then-place-len-clause-none g c = none_beyond c.args.number c.args.first c.args.slots.now.items (omega arith)
