use Rattle.endpoint_state.proofs.Forgets.{kept_later}
use Rattle.endpoint_state.proofs.Bodies.{kept_body_later}
use Rattle.endpoint_state.proofs.laws.kept_longer.Goals as goal

pub returns : goal.returns
returns c = record { endpoint = kept_later; body = kept_body_later }
