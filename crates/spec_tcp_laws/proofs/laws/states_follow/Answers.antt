use Rattle.spec_tcp_laws.proofs.Transitions.{states_lead}
use Rattle.spec_tcp_laws.proofs.laws.states_follow.Goals as goal

pub returns : goal.returns
returns c h moment w step = states_lead h moment w step
