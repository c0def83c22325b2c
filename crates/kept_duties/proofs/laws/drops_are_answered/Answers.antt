use Rattle.kept_duties.proofs.Asking.{drops_answered}
use Rattle.kept_duties.proofs.Runs.{run_of}
use Rattle.kept_duties.proofs.Segments.{end_fine}
use Rattle.kept_duties.proofs.laws.drops_are_answered.Goals as goal

pub returns : goal.returns
returns c = λ t w slack e given plain.
    drops_answered t w slack (run_of t w slack given e.run e.duties) plain e.placed (end_fine t w slack given e.in_time)
