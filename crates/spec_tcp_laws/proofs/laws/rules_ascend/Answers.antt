use Rattle.spec_tcp_laws.proofs.Ascending.{rules_ascend}
use Rattle.spec_tcp_laws.proofs.laws.rules_ascend.Goals as goal

pub returns : goal.returns
returns c = rules_ascend
