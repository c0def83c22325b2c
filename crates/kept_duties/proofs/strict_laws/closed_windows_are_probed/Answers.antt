use Rattle.kept_duties.proofs.Probed.{windows_probed}
use Rattle.kept_duties.proofs.Runs.{run_of}
use Rattle.kept_duties.proofs.Segments.{end_fine}
use Rattle.kept_duties.proofs.strict_laws.closed_windows_are_probed.Goals as goal

pub returns : goal.returns
returns c = λ t w slack e given six.
    windows_probed t w slack (run_of t w slack given e.run e.duties) e.placed (end_fine t w slack given e.in_time) six
