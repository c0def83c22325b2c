use Rattle.std.proofs.Common.{refl}
use Rattle.endpoint_state.proofs.host_pair.Hosts.new.Goals as goal

pub returns : goal.returns
returns c = λ h. rw (c.new.ensures h, c.new-2.ensures h) refl
