use Rattle.window_rules.proofs.Judging.{allows_more}
use Rattle.window_rules.proofs.laws.less_judged_is_more_allowed.Goals as goal

pub returns : goal.returns
returns c = allows_more
