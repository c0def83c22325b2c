use Rattle.kept_duties.proofs.Counts.{few}
use Rattle.kept_duties.proofs.laws.acknowledgments_are_few.Goals as goal

pub returns : goal.returns
returns c = λ t w slack e given. λ me. few t w slack given e.run e.duties e.placed me
