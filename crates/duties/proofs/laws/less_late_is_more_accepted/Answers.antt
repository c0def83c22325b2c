use Rattle.duties.proofs.SlackLemmas.{less_late}
use Rattle.duties.proofs.laws.less_late_is_more_accepted.Goals as goal

pub returns : goal.returns
returns c = less_late
