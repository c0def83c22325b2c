use Rattle.kept_duties.proofs.Segments.{sendings_fresh}
use Rattle.kept_duties.proofs.laws.sendings_are_fresh.Goals as goal

pub returns : goal.returns
returns c = λ t w slack e given. sendings_fresh t w slack given e.run e.duties
