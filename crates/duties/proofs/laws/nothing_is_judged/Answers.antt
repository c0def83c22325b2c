use Rattle.duties.proofs.SlackLemmas.{nothing_is_judged}
use Rattle.duties.proofs.laws.nothing_is_judged.Goals as goal

pub returns : goal.returns
returns c = nothing_is_judged
