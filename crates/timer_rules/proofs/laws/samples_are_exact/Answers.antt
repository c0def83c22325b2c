use Rattle.timer_rules.proofs.TimeoutLemmas.{sample_exact}
use Rattle.timer_rules.proofs.laws.samples_are_exact.Goals as goal

pub returns : goal.returns
returns c = sample_exact
