use Rattle.kept_calls.proofs.Calls.{calls_answered}
use Rattle.kept_calls.proofs.laws.calls_are_answered.Goals as goal

pub returns : goal.returns
returns c = λ t w slack e given six. calls_answered t w slack given e.run e.duties six e.placed e.in_time
