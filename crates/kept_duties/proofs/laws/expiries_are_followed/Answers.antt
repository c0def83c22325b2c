use Rattle.kept_duties.proofs.Followed.{expiries_followed_always}
use Rattle.kept_duties.proofs.Runs.{run_of}
use Rattle.kept_duties.proofs.Segments.{end_fine}
use Rattle.kept_duties.proofs.laws.expiries_are_followed.Goals as goal

pub returns : goal.returns
returns c = λ t w slack e given.
    expiries_followed_always t w slack (run_of t w slack given e.run e.duties) e.placed (end_fine t w slack given e.in_time)
