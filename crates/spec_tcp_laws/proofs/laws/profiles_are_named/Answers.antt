use Rattle.spec_tcp_laws.proofs.Profiles.{named}
use Rattle.spec_tcp_laws.proofs.laws.profiles_are_named.Goals as goal

pub returns : goal.returns
returns c h steps may = named h steps may
