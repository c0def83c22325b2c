use Rattle.kept_duties.proofs.Repeats.{judged_repeats, nothing_resent_twice}
use Rattle.kept_duties.proofs.Runs.{run_of}
use Rattle.kept_duties.proofs.laws.nothing_is_resent_twice.Goals as goal

pub returns : goal.returns
returns c = λ t w slack e given old judged.
    nothing_resent_twice t w slack (run_of t w slack given e.run e.duties) old (judged_repeats t.header.congestion judged)
