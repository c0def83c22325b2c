use Rattle.checker.proofs.LessLateLemmas.{less_late_stays_yes}
use Rattle.checker.proofs.laws.less_late_stays_yes.Goals as goal

pub returns : goal.returns
returns c = less_late_stays_yes
