use Rattle.window_rules.proofs.ControlLemmas.{counts_stay}
use Rattle.window_rules.proofs.laws.control_counts.Goals as goal

pub returns : goal.returns
returns c = counts_stay
