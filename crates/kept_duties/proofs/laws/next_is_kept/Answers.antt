use Rattle.kept_duties.proofs.Drops.{next_kept}
use Rattle.kept_duties.proofs.Runs.{run_of}
use Rattle.kept_duties.proofs.laws.next_is_kept.Goals as goal

pub returns : goal.returns
returns c = λ t w slack e given. next_kept t w slack (run_of t w slack given e.run e.duties)
