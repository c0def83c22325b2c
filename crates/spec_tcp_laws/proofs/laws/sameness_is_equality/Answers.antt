use Rattle.spec_tcp_laws.proofs.Sameness.{sameness}
use Rattle.spec_tcp_laws.proofs.laws.sameness_is_equality.Goals as goal

pub returns : goal.returns
returns c = sameness
