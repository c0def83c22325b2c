-- What follows for streams from every run of the model: what reads return, and what is acknowledged (RFC 9293, 3.4 and
-- 3.10).
use Rattle.std.specs.Prelude.{◌≡◌, ◌⊎◌, ◌<◌, ℕ, true, List, [], Option, None, Some, slice_get}
use Rattle.case_forms.specs.declared.trace.Header.{Header}
use Rattle.streams.specs.declared.cell.Cell.{Cell}
use Rattle.streams.specs.Lists.{IsPrefixOf}
use Rattle.streams.specs.Received.{received}
use Rattle.streams.specs.Sent.{cells}
use Rattle.spec_network.specs.Tables.{Both, pick}
use Rattle.spec_network.specs.Hosts.{HostState, Stamped}
use Rattle.spec_network.specs.HostSteps.{after}
use Rattle.spec_tcp.specs.declared.endpoint.EndpointId.{EndpointId}
use Rattle.spec_tcp.specs.declared.endpoint.Stream.{Stream}
use Rattle.spec_tcp.specs.declared.endpoint.Endpoint.{Endpoint}
use Rattle.spec_tcp.specs.Machine.{tcp, tcp_shape}
use Rattle.spec_tcp_laws.specs.Runs.{world_at_end, is_socket_of, told_to, was_told_end, accepted_by, was_ended}

-- the endpoint with an identity, if it exists
abbrev pub find : Both (HostState tcp_shape) → EndpointId → Option Endpoint
find hosts me = slice_get (pick hosts me.host).body.endpoints me.number

-- the endpoint with this identity exists, and its streams have this property
abbrev pub HasStream : Both (HostState tcp_shape) → EndpointId → (Stream → Type 0) → Type 0
HasStream hosts me P = (e : Endpoint) × (find hosts me ≡ Some e) × P e.stream

-- what reads returned is a prefix of what the sends of the peer accepted
pub record BeginsWhatPeerSent (h : Header) (steps : List (Stamped tcp_shape)) (socket : ℕ)
    (peer : EndpointId) : Type 0 where
  pub accepted : HasStream (world_at_end h steps).hosts peer (λ t. accepted_by h peer steps ≡ t.accepted)
  pub prefix : IsPrefixOf (told_to h socket steps) (accepted_by h peer steps)

-- reads on an endpoint's socket number returned what the endpoint received: nothing if there is no peer, else a prefix
-- of the peer's bytes
pub record ReadsInOrder (h : Header) (steps : List (Stamped tcp_shape)) (socket : ℕ) (s : Stream) : Type 0 where
  pub told : told_to h socket steps ≡ received s.receive
  pub peer : ((s.peer ≡ None) × (told_to h socket steps ≡ []))
      ⊎ ((q : EndpointId) × (s.peer ≡ Some q) × BeginsWhatPeerSent h steps socket q)

-- this holds at each socket number that names an endpoint
abbrev pub ReceivedIsAPrefix : Header → List (Stamped tcp_shape) → Type 0
ReceivedIsAPrefix h steps = (socket : ℕ) (me : EndpointId) → is_socket_of (world_at_end h steps).hosts socket me ≡ true
    → HasStream (world_at_end h steps).hosts me (λ s. ReadsInOrder h steps socket s)

-- reads returned all that the peer's sends accepted, and the peer's sending was ended, by a step of the run
pub record HasAllOfPeer (h : Header) (steps : List (Stamped tcp_shape)) (socket : ℕ) (peer : EndpointId) : Type 0 where
  pub whole : told_to h socket steps ≡ accepted_by h peer steps
  pub ended : HasStream (world_at_end h steps).hosts peer (λ t. t.ended ≡ true)
  pub by_step : was_ended h peer steps ≡ true

-- if a read on a socket number returned the end, at whatever step, it names an endpoint with a peer, and all of this
-- holds at the end of the run
abbrev pub EndIsWhole : Header → List (Stamped tcp_shape) → Type 0
EndIsWhole h steps = (socket : ℕ) → was_told_end h socket steps ≡ true
    → (me : EndpointId) × (is_socket_of (world_at_end h steps).hosts socket me ≡ true)
    × HasStream (world_at_end h steps).hosts me (λ s. (q : EndpointId) × (s.peer ≡ Some q)
    × HasAllOfPeer h steps socket q)

-- the endpoint with this identity has a peer, whose peer it is, and which received at this position what the endpoint
-- sends there
abbrev pub TookFrom : Both (HostState tcp_shape) → EndpointId → Stream → ℕ → Type 0
TookFrom hosts me s position = (q : EndpointId) × (s.peer ≡ Some q)
    × HasStream hosts q (λ t. (t.peer ≡ Some me) × (cell : Cell)
    × (slice_get t.receive.taken position ≡ Some (Some cell)) ×
    (slice_get (cells s.accepted s.ended) position ≡ Some cell))

-- each position below the oldest unacknowledged one after a step, except the SYN's, was received by the peer before it;
-- nothing is claimed for the SYN, since a segment of an older connection may acknowledge it
abbrev pub AcknowledgedWasTaken : Header → List (Stamped tcp_shape) → Stamped tcp_shape → Type 0
AcknowledgedWasTaken h steps x =
    (me : EndpointId) (f : Endpoint) → find (after (tcp h) x.moment (world_at_end h steps) x.step).hosts me ≡ Some f
    → (position : ℕ) → 0 < position → position < f.stream.snd_una
    → TookFrom (world_at_end h steps).hosts me f.stream position
