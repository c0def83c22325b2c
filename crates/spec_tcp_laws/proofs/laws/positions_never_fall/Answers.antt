use Rattle.spec_tcp_laws.proofs.Transitions.{none_falls}
use Rattle.spec_tcp_laws.proofs.laws.positions_never_fall.Goals as goal

pub returns : goal.returns
returns c h steps x run may = none_falls h steps x run may
