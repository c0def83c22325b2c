use Rattle.std.proofs.Common.{rules}
use Rattle.checker.proofs.turns.late_fault.Goals as goal

pub returns-in-Ok-clause-fault : goal.returns-in-Ok-clause-fault
returns-in-Ok-clause-fault g c = λ left fails. let met = fails c.in-Text.fault c.in-Text.is in search rules
