use Rattle.window_rules.proofs.Judging.{not_read}
use Rattle.window_rules.proofs.laws.no_profile_is_read.Goals as goal

pub returns : goal.returns
returns c = not_read
