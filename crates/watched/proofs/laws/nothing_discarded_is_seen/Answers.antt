use Rattle.watched.proofs.ForgetLemmas.{observe-forget}
use Rattle.watched.proofs.laws.nothing_discarded_is_seen.Goals as goal

pub returns : goal.returns
returns c = observe-forget
