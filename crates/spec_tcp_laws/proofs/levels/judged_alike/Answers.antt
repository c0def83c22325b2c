use Rattle.spec_tcp_laws.proofs.LevelLemmas.{judged_alike}
use Rattle.spec_tcp_laws.proofs.levels.judged_alike.Goals as goal

pub returns : goal.returns
returns c = judged_alike
