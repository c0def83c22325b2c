use Rattle.kept_calls.proofs.Measured.{samples_taken}
use Rattle.kept_calls.proofs.laws.samples_are_taken.Goals as goal

pub returns : goal.returns
returns c = λ t w slack e given six. samples_taken t w slack given e.run e.duties six
