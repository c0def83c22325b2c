use Rattle.kept_duties.proofs.Answered.{receipts_answered_after}
use Rattle.kept_duties.proofs.strict_laws.receipts_are_answered_after.Goals as goal

pub returns : goal.returns
returns c = λ t w slack e given six. receipts_answered_after t w slack given e.run e.duties e.placed six e.in_time
