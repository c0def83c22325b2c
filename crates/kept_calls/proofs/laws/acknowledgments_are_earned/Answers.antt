use Rattle.kept_calls.proofs.Earned.{earned_before}
use Rattle.kept_calls.proofs.laws.acknowledgments_are_earned.Goals as goal

pub returns : goal.returns
returns c = λ t w slack e given six moments me. earned_before t w slack given e.run e.duties six e.placed moments me
