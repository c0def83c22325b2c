use Rattle.kept_duties.proofs.Runs.{run_of}
use Rattle.kept_duties.proofs.Segments.{end_fine}
use Rattle.kept_duties.proofs.Soon.{probes_sent}
use Rattle.kept_duties.proofs.laws.probes_are_sent.Goals as goal

pub returns : goal.returns
returns c = λ t w slack e given plain.
    probes_sent t w slack (run_of t w slack given e.run e.duties) e.placed (end_fine t w slack given e.in_time) plain
