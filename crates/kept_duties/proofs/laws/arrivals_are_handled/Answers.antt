use Rattle.kept_duties.proofs.Segments.{arrivals_handled}
use Rattle.kept_duties.proofs.laws.arrivals_are_handled.Goals as goal

pub returns : goal.returns
returns c = λ t w slack trace e given. arrivals_handled t w slack given e.run e.duties trace e.placed e.in_time
