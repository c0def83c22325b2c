-- What a block reports to an endpoint was taken by its peer before, if both hosts are recorded (RFC 2018, 3).
use Rattle.std.specs.Prelude.{◌≡◌, ◌<◌, ◌+◌, ◌^◌, ℕ, List, Option, Some}
use Rattle.std.specs.Option.{option_and_then}
use Rattle.case_forms.specs.declared.trace.Header.{Header}
use Rattle.spec_network.specs.Hosts.{Stamped}
use Rattle.spec_tcp.specs.Machine.{tcp_shape}
use Rattle.spec_tcp.specs.declared.endpoint.EndpointId.{EndpointId}
use Rattle.spec_tcp_laws.specs.Consequences.{find}
use Rattle.spec_duties.specs.declared.observations.Arrival.{Arrival}
use Rattle.kept_flights.specs.Holding.{Has}
use Rattle.kept_flights.specs.Places.{observed, world_before}
use Rattle.kept_flights.specs.Reported.{IsReported}

-- the endpoint whose SYN it took
abbrev pub peer_before : Header → List (Stamped tcp_shape) → (place : ℕ) → EndpointId → Option EndpointId
peer_before h xs place me = option_and_then (λ e. e.stream.peer) (find (world_before h xs place).hosts me)

-- the segment acknowledges less than 2^31 positions below the end of all that the endpoint sent. In an older one, the
-- number of a position below the peer's RCV.NXT may read as the position 2^32 above it (RFC 9293, 3.4)
abbrev pub IsYoung : (snd_max : ℕ) → Arrival → Type 0
IsYoung snd_max arrival = snd_max < arrival.ack + 2 ^ 31

-- the endpoint has a peer, which has the position: it is below the peer's RCV.NXT, or a step of the peer kept it before
abbrev pub PeerHas : Header → List (Stamped tcp_shape) → (place : ℕ) → EndpointId → (position : ℕ) → Type 0
PeerHas h xs place me position =
    (peer : EndpointId) × (peer_before h xs place me ≡ Some peer) × Has h xs place peer position

-- whatever is reported
abbrev pub ReportsAreTaken : Header → List (Stamped tcp_shape) → Type 0
ReportsAreTaken h xs =
    (place position : ℕ) (me : EndpointId) (arrival : Arrival) → (r : IsReported h xs place me position)
    → (observed h xs place).arrival ≡ Some arrival → IsYoung r.before.snd_max arrival → PeerHas h xs place me position
