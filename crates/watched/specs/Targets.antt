-- What may process a segment, by place.
use Rattle.std.specs.Option.{option_map_or}
use Rattle.std.specs.Prelude.{slice_get}
use Rattle.spec_tcp.specs.Arrives.{Taker, Nobody, AtListener, AtEndpoint}
use Rattle.spec_tcp.specs.HostTcp.{HostTcp}
use Rattle.duties.specs.declared.dropped.Target.{Target}
use Rattle.duties.specs.declared.dropped.Target.TheVariants as targets

abbrev pub taker_at : HostTcp → Target → Taker
taker_at b targets.Nobody = Nobody
taker_at b (targets.Listener l) = AtListener l
taker_at b (targets.Endpoint i) = option_map_or (λ e. AtEndpoint i e) (slice_get b.endpoints i) Nobody
