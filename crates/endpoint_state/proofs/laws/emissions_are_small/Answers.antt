use Rattle.endpoint_state.proofs.Segments.{heard_small, resets_small, sent_small}
use Rattle.endpoint_state.proofs.laws.emissions_are_small.Goals as goal

pub returns : goal.returns
returns c = record { resets = resets_small; goes = sent_small; comes = heard_small }
