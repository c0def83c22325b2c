use Rattle.endpoint_state.proofs.Bodies.{body_keeps, starts_kept}
use Rattle.endpoint_state.proofs.laws.acts_keep.Goals as goal

pub returns : goal.returns
returns c = record { starts = starts_kept; acts = body_keeps }
