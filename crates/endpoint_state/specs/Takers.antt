-- What a segment finds, by place.
use Rattle.std.specs.Prelude.{◌≡◌, ◌&&◌, ℕ, false, if◌then◌else◌, Option, None, Some, slice_get}
use Rattle.std.specs.Option.{option_map_or, IsSomeAnd}
use Rattle.spec_tcp.specs.HostTcp.{HostTcp}
use Rattle.spec_tcp.specs.declared.endpoint.Emission.{Emission}
use Rattle.spec_tcp.specs.declared.endpoint.Endpoint.{Endpoint}
use Rattle.case_forms.specs.States.{is_closed, is_syn_received}
use Rattle.spec_tcp.specs.Arrives.OtherStates.Ack.{acknowledges_syn}
use Rattle.spec_tcp.specs.Arrives.{Taker, Nobody, AtListener, AtEndpoint}
use Rattle.endpoint_state.specs.declared.host_tcp.arrives.Found.{Found}
use Rattle.endpoint_state.specs.declared.host_tcp.arrives.Found.TheVariants as found

abbrev pub taker_found : HostTcp → Option Found → Taker
taker_found b None = Nobody
taker_found b (Some (found.Listener l)) = AtListener l
taker_found b (Some (found.Endpoint i)) = option_map_or (λ e. AtEndpoint i e) (slice_get b.endpoints i) Nobody

-- an endpoint that is found is not CLOSED
abbrev pub IsOpen : HostTcp → Found → Type 0
IsOpen b (found.Endpoint i) = IsSomeAnd (slice_get b.endpoints i) (λ e. is_closed e.state ≡ false)
IsOpen b (found.Listener l) = Unit

-- the listener whose queue an endpoint joins by a segment as it reads it
abbrev pub joins_by : Endpoint → Emission → Option ℕ
joins_by e m = if is_syn_received e.state && acknowledges_syn e m then e.listener else None
