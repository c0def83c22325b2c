use Rattle.spec_tcp_laws.proofs.Old.{old_is_bad}
use Rattle.spec_tcp_laws.proofs.laws.old_copies_are_refused.Goals as goal

pub returns : goal.returns
returns c e m own old = old_is_bad e m own old
