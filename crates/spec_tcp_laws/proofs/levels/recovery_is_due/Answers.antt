use Rattle.spec_tcp_laws.proofs.LevelLemmas.{recovery_is_due}
use Rattle.spec_tcp_laws.proofs.levels.recovery_is_due.Goals as goal

pub returns : goal.returns
returns c = recovery_is_due
