-- The value of a host that is mutably borrowed: what is written there, and the other host's as it was.
use Rattle.std.specs.Borrow.{Lends, RattleType, MutBor, Fml}
use Rattle.case_forms.specs.declared.calls.Host.{Host}
use Rattle.spec_network.specs.Tables.{Both, with_host}
use Rattle.duties.specs.contracts.per_host.PerHost.{the_row}

abbrev pub LendsHost : (T : RattleType) → MutBor (Both T.Denot) → Host → MutBor T.Denot → Fml
LendsHost T s host r = Lends (the_row T) T s r (with_host s.now host)
