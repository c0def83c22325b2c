-- Which endpoint is the peer of an endpoint: the sender of the SYN that it took first.
use Rattle.std.specs.Prelude.{◌≡◌, ◌⊎◌, ℕ, true, List, take, slice_get, Option, None, Some}
use Rattle.std.specs.Option.{option_map_or}
use Rattle.case_forms.specs.declared.trace.Header.{Header}
use Rattle.case_forms.specs.declared.trace.Trace.{Trace}
use Rattle.case_forms.specs.declared.steps.Witness.{Witness}
use Rattle.spec_network.specs.Tables.{Both, pick, waiting}
use Rattle.spec_network.specs.Hosts.{HostState, World, Step, At, Takes, Stamped}
use Rattle.spec_network.specs.HostSteps.{after}
use Rattle.spec_tcp.specs.declared.endpoint.EndpointId.{EndpointId}
use Rattle.spec_tcp.specs.declared.endpoint.Endpoint.{Endpoint}
use Rattle.spec_tcp.specs.declared.endpoint.Emission.{Emission}
use Rattle.case_forms.specs.declared.steps.TakeChoice.{TakeChoice}
use Rattle.spec_tcp.specs.Arrives.{taker, AtListener, AtEndpoint}
use Rattle.spec_tcp.specs.Machine.{tcp, tcp_shape}
use Rattle.spec_tcp_laws.specs.Runs.{world_at_end}
use Rattle.spec_tcp_laws.specs.Consequences.{find}
use Rattle.checker.specs.Consequences.{steps_of, EachStep}

-- the peer of the endpoint of that name; none if the endpoint doesn't exist
abbrev pub peer_of : Both (HostState tcp_shape) → EndpointId → Option EndpointId
peer_of hosts me = option_map_or (λ e. e.stream.peer) (find hosts me) None

-- the segment goes to that endpoint, or, if it doesn't exist yet, to a listener, whose child the endpoint then is
abbrev pub GoesTo : Both (HostState tcp_shape) → EndpointId → Emission → Type 0
GoesTo hosts me m =
    ((e : Endpoint) × (find hosts me ≡ Some e) × (taker (pick hosts me.host).body m ≡ AtEndpoint me.number e))
    ⊎ ((l : ℕ) × (find hosts me ≡ None) × (taker (pick hosts me.host).body m ≡ AtListener l))

-- the step takes a segment with SYN for that endpoint, which this other endpoint made
pub record TakesSynOf (w : World tcp_shape) (step : Step tcp_shape) (me sender : EndpointId) : Type 0 where
  pub line : ℕ
  pub how : TakeChoice
  pub segment : Emission
  pub takes : step ≡ At me.host (Takes line how)
  pub waits : waiting line (pick w.hosts me.host).inbox ≡ Some segment
  pub syn : segment.flags.syn ≡ true
  pub made : segment.sender ≡ sender
  pub goes : GoesTo w.hosts me segment

-- what a step does with the peer of each endpoint: it stays as it is; or there was none, and the step takes the SYN of
-- the endpoint that then is the peer
abbrev pub PeersAreMet : Header → List (Stamped tcp_shape) → Stamped tcp_shape → Type 0
PeersAreMet h before x = (me : EndpointId)
    → (peer_of (after (tcp h) x.moment (world_at_end h before) x.step).hosts me
    ≡ peer_of (world_at_end h before).hosts me)
    ⊎ ((peer_of (world_at_end h before).hosts me ≡ None)
    × (q : EndpointId) × (peer_of (after (tcp h) x.moment (world_at_end h before) x.step).hosts me ≡ Some q)
    × TakesSynOf (world_at_end h before) x.step me q)

-- each step of a witness does so
abbrev pub AllPeersAreMet : Trace → Witness → Type 0
AllPeersAreMet t w = EachStep (steps_of t w) (λ before x. PeersAreMet t.header before x)

-- if an endpoint has a peer at the end of a run, some step took the peer's SYN for it, and before that step it had none
abbrev pub PeersWereMet : Header → List (Stamped tcp_shape) → Type 0
PeersWereMet h steps = (me q : EndpointId) → peer_of (world_at_end h steps).hosts me ≡ Some q
    → (place : ℕ) × (x : Stamped tcp_shape) × (slice_get steps place ≡ Some x)
    × (peer_of (world_at_end h (take place steps)).hosts me ≡ None)
    × TakesSynOf (world_at_end h (take place steps)) x.step me q

abbrev pub EachPeerWasMet : Trace → Witness → Type 0
EachPeerWasMet t w = PeersWereMet t.header (steps_of t w)
