use Rattle.spec_tcp_laws.proofs.Carried.{were_carried}
use Rattle.spec_tcp_laws.proofs.laws.reads_were_carried.Goals as goal

pub returns : goal.returns
returns c h steps may = were_carried h steps may
