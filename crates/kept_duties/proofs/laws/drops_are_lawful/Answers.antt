use Rattle.kept_duties.proofs.Drops.{drops_lawful}
use Rattle.kept_duties.proofs.Runs.{run_of}
use Rattle.kept_duties.proofs.laws.drops_are_lawful.Goals as goal

pub returns : goal.returns
returns c = λ t w slack e given. drops_lawful t w slack (run_of t w slack given e.run e.duties)
