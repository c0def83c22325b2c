use Rattle.watched.proofs.LevelObservations.{shows_the_same}
use Rattle.watched.proofs.laws.less_judged_shows_the_same.Goals as goal

pub returns : goal.returns
returns c = shows_the_same
