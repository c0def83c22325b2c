use Rattle.std.proofs.Common.{ap}
use Rattle.spec_duties.specs.Resent.{judges_windows}
use Rattle.kept_duties.proofs.Repeats.{repeats_within}
use Rattle.kept_duties.proofs.Runs.{run_of}
use Rattle.kept_duties.proofs.laws.repeats_stay_within.Goals as goal

pub returns : goal.returns
returns c = λ t w slack e given old judged.
    repeats_within t w slack (run_of t w slack given e.run e.duties) old (ap judges_windows judged)
