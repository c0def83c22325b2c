use Rattle.kept_duties.proofs.Runs.{run_of}
use Rattle.kept_duties.proofs.Segments.{end_fine}
use Rattle.kept_duties.proofs.Expiries.{expiries_in_time}
use Rattle.kept_duties.proofs.laws.expiries_are_in_time.Goals as goal

pub returns : goal.returns
returns c = λ t w slack e given.
    expiries_in_time t w slack (run_of t w slack given e.run e.duties) e.placed (end_fine t w slack given e.in_time)
