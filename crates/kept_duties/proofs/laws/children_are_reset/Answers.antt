use Rattle.kept_duties.proofs.Children.{children_reset}
use Rattle.kept_duties.proofs.Runs.{run_of}
use Rattle.kept_duties.proofs.Segments.{end_fine}
use Rattle.kept_duties.proofs.laws.children_are_reset.Goals as goal

pub returns : goal.returns
returns c = λ t w slack e given.
    children_reset t w slack (run_of t w slack given e.run e.duties) e.placed (end_fine t w slack given e.in_time)
