use Rattle.watched.proofs.LevelRuns.{case_alike}
use Rattle.watched.proofs.laws.case_judged_alike.Goals as goal

pub returns : goal.returns
returns c = case_alike
