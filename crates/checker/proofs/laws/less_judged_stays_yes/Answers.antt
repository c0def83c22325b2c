use Rattle.checker.proofs.JudgedLemmas.{yes_stays}
use Rattle.checker.proofs.laws.less_judged_stays_yes.Goals as goal

pub returns : goal.returns
returns c = yes_stays
