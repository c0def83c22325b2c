use Rattle.spec_tcp_laws.proofs.LevelLemmas.{refused_alike}
use Rattle.spec_tcp_laws.proofs.levels.refused_alike.Goals as goal

pub returns : goal.returns
returns c = refused_alike
