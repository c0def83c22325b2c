use Rattle.streams.proofs.RunLemmas.{expand-push}
use Rattle.streams.proofs.runs.grow.Goals as goal

pub returns : goal.returns
returns c = rw c.push_back_reserved.ensures.items (expand-push c.args.runs.now.items (record { count = c.args.count; moment = c.args.moment }))
