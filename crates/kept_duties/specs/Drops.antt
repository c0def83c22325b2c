-- What a yes with a slack says of segments that are dropped: neither to process nor to answer them was required; and of
-- those that are processed: what is next in order was kept (RFC 9293, 3.10.7).
use Rattle.std.specs.Prelude.{◌≡◌, ◌⊎◌, ◌+◌, ◌<◌, ◌≤◌, ℕ, Bool, true, false, slice_get, Option, None, Some, is_some}
use Rattle.seqno.specs.Near.{near_position}
use Rattle.seqno.specs.Numbers.{number_of}
use Rattle.seqno.specs.declared.word.Word.{Word}
use Rattle.segment.specs.Reading.{timestamps}
use Rattle.segment.specs.declared.options.TimestampPair.{TimestampPair}
use Rattle.case_forms.specs.States.{is_syn_sent}
use Rattle.case_forms.specs.Versions.{is_half, says_sender}
use Rattle.case_forms.specs.declared.calls.Host.{Host}
use Rattle.case_forms.specs.declared.calls.State.{State}
use Rattle.case_forms.specs.declared.calls.State.TheVariants as states
use Rattle.case_forms.specs.declared.steps.Label.TheVariants as labels
use Rattle.case_forms.specs.declared.steps.TakeChoice.{TakeChoice}
use Rattle.case_forms.specs.declared.steps.Witness.{Witness}
use Rattle.case_forms.specs.declared.trace.Trace.{Trace}
use Rattle.verdict.specs.Rules.{first_broken}
use Rattle.verdict.specs.declared.rule.Rule.{Rule}
use Rattle.verdict.specs.declared.rule.Rule.TheVariants.{Unacceptable}
use Rattle.spec_network.specs.HostRules.{step_rules}
use Rattle.spec_network.specs.Hosts.{Answers, At, Takes}
use Rattle.spec_network.specs.Tables.{pick, waiting}
use Rattle.spec_tcp.specs.Arrives.{AtEndpoint, AtListener, taker}
use Rattle.spec_tcp.specs.Endpoints.{rcv_nxt, receive_window, segment_length}
use Rattle.spec_tcp.specs.Heard.{as_read}
use Rattle.spec_tcp.specs.HostTcp.{HostTcp}
use Rattle.spec_tcp.specs.Machine.{tcp}
use Rattle.spec_tcp.specs.Same.{same_word}
use Rattle.spec_tcp.specs.declared.endpoint.Emission.{Emission}
use Rattle.spec_tcp.specs.declared.endpoint.Endpoint.{Endpoint}
use Rattle.spec_tcp.specs.declared.endpoint.Listener.{Listener}
use Rattle.spec_duties.specs.Watching.{listening_at}
use Rattle.spec_flights.specs.Clocks.{are_stamped, is_older}
use Rattle.spec_flights.specs.Flights.{flight_at}
use Rattle.spec_flights.specs.declared.clocks.Clocks.{Clocks}
use Rattle.kept_duties.specs.Happens.{known_before, world_before}
use Rattle.kept_duties.specs.Places.{IsStep}

-- how many children of a listener are neither accepted nor CLOSED, as duties count them
abbrev pub children_before : Trace → Witness → (place : ℕ) → Host → (listener : ℕ) → ℕ
children_before t w place host l = (listening_at (pick (known_before t w place).duties.listening host) l).children

-- a host, as it is before the step at a place
abbrev pub host_before : Trace → Witness → (place : ℕ) → Host → HostTcp
host_before t w place host = (pick (world_before t w place).hosts host).body

-- the least rule of the model that `T host line 0 0 0` would break at this place
abbrev pub processing_breaks : Trace → Witness → (place moment : ℕ) → Host → (line : ℕ) → Option Rule
processing_breaks t w place moment host line =
    first_broken (step_rules (tcp t.header) moment (world_before t w place)
    (At host (Takes line (record { cwnd = 0; keep = false; sample = false }))))

-- the same for `R host line`; whether it may be done doesn't depend on the moment
abbrev pub answering_breaks : Trace → Witness → (place : ℕ) → Host → (line : ℕ) → Option Rule
answering_breaks t w place host line =
    first_broken (step_rules (tcp t.header) 0 (world_before t w place) (At host (Answers line)))

-- the segment's number is the next one expected
abbrev pub IsNext : Endpoint → Emission → Type 0
IsNext e m = (irs : Word) × (e.irs ≡ Some irs) × (same_word m.seq (number_of irs (rcv_nxt e)) ≡ true)

-- what an endpoint of a host knows of timestamps
abbrev pub clocks_before : Trace → Witness → (place : ℕ) → Host → (endpoint : ℕ) → Clocks
clocks_before t w place host endpoint = (flight_at (known_before t w place).flights host endpoint).clocks

-- in version 6, both SYNs had timestamps, and the segment has none, or its clock is older than the newest that came
-- (PAWS: RFC 7323, 3.2 and 5.3, R1)
pub record IsMistimed (t : Trace) (w : Witness) (place : ℕ) (host : Host) (m : Emission) : Type 0 where
  pub at : ℕ
  pub endpoint : Endpoint
  pub comes : taker (host_before t w place host) m ≡ AtEndpoint at endpoint
  pub six : says_sender t.header.version ≡ true
  pub knows : is_syn_sent endpoint.state ≡ false
  pub no_reset : m.flags.rst ≡ false
  pub stamped : are_stamped (clocks_before t w place host at) ≡ true
  pub fails : (timestamps m.bytes ≡ None)
      ⊎ ((stamps : TimestampPair) × (newest : Word) × (timestamps m.bytes ≡ Some stamps)
      × ((clocks_before t w place host at).most ≡ Some newest) × (is_older stamps.value newest ≡ true))

-- what could be processed need not be: a reset that isn't next is challenged (RFC 5961, 3.2), or what doesn't fit meets
-- a closed receive window (RFC 9293, 3.10.7.4, first); or the listener's backlog is reached (3.9.1.2)
pub data IsDroppable (t : Trace) (w : Witness) (place : ℕ) (host : Host) (m : Emission) : Type 0 where
  IsChallenged : (i : ℕ) (e : Endpoint) → taker (host_before t w place host) m ≡ AtEndpoint i e
      → is_syn_sent e.state ≡ false → m.flags.rst ≡ true → (IsNext e m → ⊥) → IsDroppable t w place host m
  MeetsClosedWindow : (i : ℕ) (e : Endpoint) → taker (host_before t w place host) m ≡ AtEndpoint i e
      → is_syn_sent e.state ≡ false → receive_window e ≡ 0 → 0 < segment_length m → IsDroppable t w place host m
  -- in version 6, it acknowledges less than is acknowledged: one that is far too old is dropped (RFC 5961, 5.2)
  AcknowledgesLess : (i : ℕ) (e : Endpoint) → says_sender t.header.version ≡ true
      → taker (host_before t w place host) m ≡ AtEndpoint i e → m.flags.ack ≡ true → m.flags.rst ≡ false
      → (as_read t.header.version e m).ack < e.stream.snd_una → IsDroppable t w place host m
  ByClock : IsMistimed t w place host m → IsDroppable t w place host m
  ByListener : (l : ℕ) (x : Listener) → taker (host_before t w place host) m ≡ AtListener l
      → slice_get (host_before t w place host).listeners l ≡ Some x → x.backlog ≤ children_before t w place host l
      → IsDroppable t w place host m

-- in a half case of version 6, its number is below the peer's initial one, so it is an old one
pub record HasOldNumber (t : Trace) (w : Witness) (place : ℕ) (host : Host) (m : Emission) : Type 0 where
  pub at : ℕ
  pub endpoint : Endpoint
  pub irs : Word
  pub comes : taker (host_before t w place host) m ≡ AtEndpoint at endpoint
  pub six : says_sender t.header.version ≡ true
  pub half : is_half t.header.version ≡ true
  pub first : endpoint.irs ≡ Some irs
  pub below : near_position (rcv_nxt endpoint) irs m.seq ≡ None

-- the segment of that line may be dropped at this place
pub record MayBeDropped (t : Trace) (w : Witness) (place moment : ℕ) (host : Host) (line : ℕ) : Type 0 where
  pub segment : Emission
  pub waits : waiting line (pick (world_before t w place).hosts host).inbox ≡ Some segment
  -- to process it would break a rule of the model, or the segment need not be processed
  pub processing : (is_some (processing_breaks t w place moment host line) ≡ true)
      ⊎ IsDroppable t w place host segment
  -- to answer it with a reset would break one, or the segment is unacceptable or an old one, so that an acknowledgment
  -- is as good; or timestamps forbid to process it
  pub answering : (is_some (answering_breaks t w place host line) ≡ true)
      ⊎ (processing_breaks t w place moment host line ≡ Some Unacceptable)
      ⊎ HasOldNumber t w place host segment ⊎ IsMistimed t w place host segment

-- each `K` step drops a segment that may be dropped
abbrev pub DropsAreLawful : Trace → Witness → Type 0
DropsAreLawful t w =
    (place moment line : ℕ) (host : Host) → IsStep w place moment (labels.K host line)
    → MayBeDropped t w place moment host line

-- the states in which what is next in order is kept
abbrev pub keeps_next : State → Bool
keeps_next states.SynReceived = true
keeps_next states.Established = true
keeps_next states.FinWait1 = true
keeps_next states.FinWait2 = true
keeps_next state = false

-- the segment holds the next position expected, and there is room for it; once the socket is closed, a reset may answer
-- (3.6.1)
pub record HoldsNext (e : Endpoint) (m : Emission) : Type 0 where
  pub in_state : keeps_next e.state ≡ true
  pub open_yet : e.closed ≡ false
  pub no_reset : m.flags.rst ≡ false
  pub room : rcv_nxt e < e.window.rcv_adv
  pub begins : m.pos ≤ rcv_nxt e
  pub ends : rcv_nxt e < m.pos + segment_length m

-- a `T` step keeps something of a segment that holds what is next in order (3.10.7.4, seventh)
abbrev pub NextIsKept : Trace → Witness → Type 0
NextIsKept t w =
    (place moment line i : ℕ) (host : Host) (choice : TakeChoice) (m : Emission) (e : Endpoint)
    → IsStep w place moment (labels.T host line choice)
    → waiting line (pick (world_before t w place).hosts host).inbox ≡ Some m
    → taker (host_before t w place host) m ≡ AtEndpoint i e
    → HoldsNext e (as_read t.header.version e m) → choice.keep ≡ true
