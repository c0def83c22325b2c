use Rattle.kept_duties.proofs.StrictAsking.{drops_answered_after}
use Rattle.kept_duties.proofs.strict_laws.drops_are_answered_after.Goals as goal

pub returns : goal.returns
returns c = λ t w slack e given six. drops_answered_after t w slack given e.run e.duties e.placed six e.in_time
