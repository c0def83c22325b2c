-- All that duties read of the world at a step.
use Rattle.std.specs.Prelude.{ℕ, suc, nat_eq, Bool, true, false, not, ◌&&◌, if◌then◌else◌, List, [], ◌∷◌, length}
use Rattle.std.specs.Prelude.{Option, None}
use Rattle.std.specs.Prelude.{Some, slice_get}
use Rattle.std.specs.Map.{lookup}
use Rattle.std.specs.Option.{option_map, option_map_or}
use Rattle.segment.specs.Reading.{permits_sack}
use Rattle.case_forms.specs.States.{is_closed, is_syn_received, is_syn_sent}
use Rattle.case_forms.specs.TakenLines.{timer_of}
use Rattle.case_forms.specs.Versions.{says_sender}
use Rattle.case_forms.specs.declared.calls.Answer.{Answer}
use Rattle.case_forms.specs.declared.calls.Answer.TheVariants as answers
use Rattle.case_forms.specs.declared.calls.Call.{Call}
use Rattle.case_forms.specs.declared.calls.Call.TheVariants as calls
use Rattle.case_forms.specs.declared.calls.Host.{Host}
use Rattle.case_forms.specs.declared.steps.TakeChoice.{TakeChoice}
use Rattle.case_forms.specs.declared.trace.Header.{Header}
use Rattle.case_forms.specs.declared.trace.Wire.{Wire}
use Rattle.case_forms.specs.declared.version.Version.{Version}
use Rattle.verdict.specs.declared.rule.Rule.{Rule}
use Rattle.spec_network.specs.HostRules.{aim_of}
use Rattle.spec_network.specs.Hosts as network
use Rattle.spec_network.specs.Hosts.{World, HostState, HostStep, Step, Turn, Idle, Called, Answered, turn_of}
use Rattle.spec_network.specs.Tables.{on, pick, waiting}
use Rattle.spec_tcp.specs.Arrives.{Taker, Nobody, AtListener, AtEndpoint, taker}
use Rattle.spec_tcp.specs.Endpoints.{segment_length}
use Rattle.spec_tcp.specs.Same.{same_word}
use Rattle.spec_tcp.specs.declared.endpoint.Emission.{Emission}
use Rattle.spec_tcp.specs.declared.endpoint.Endpoint.{Endpoint}
use Rattle.spec_tcp.specs.declared.endpoint.SocketTarget.{SocketTarget}
use Rattle.spec_tcp.specs.declared.endpoint.SocketTarget.TheVariants.{ListenerAt, EndpointAt}
use Rattle.spec_tcp.specs.HostTcp.{HostTcp, has_ended, place_of, socket_target, queue_of}
use Rattle.spec_tcp.specs.Machine.{tcp, tcp_shape, aim}
use Rattle.spec_tcp.specs.Wire.{is_before_text}
use Rattle.spec_duties.specs.Views.{View, view_of, unborn}
use Rattle.spec_duties.specs.Events as events
use Rattle.spec_duties.specs.Events.{Event}
use Rattle.spec_duties.specs.Dropped.{taking_breaks, answering_breaks, droppable_by, dropping_of, has_content}
use Rattle.spec_duties.specs.Dropped.{asks, earns_by_dropping, earns_by_taking}
use Rattle.spec_duties.specs.Dropped.{discards_at, is_old, reads_old_numbers}
use Rattle.spec_duties.specs.Sampling.{sampling_at}
use Rattle.spec_duties.specs.Blocks.{blocks_taken, no_blocks}
use Rattle.spec_duties.specs.Kept.{kept_at, nothing_kept}
use Rattle.spec_duties.specs.Arrivals.{acked_at_ports, acked_sent, arrival_at, stamps_read}
use Rattle.spec_duties.specs.Answering.{CallChange, answering, beginning, judged_call, judged_socket, socket_changing}
use Rattle.spec_duties.specs.declared.answering.CallChange.TheVariants as call_change
use Rattle.spec_duties.specs.declared.answering.SocketChange.TheVariants as socket_change
use Rattle.spec_duties.specs.declared.observations.Sampling.TheVariants as sampling
pub use Rattle.spec_duties.specs.declared.observations.InboxChange.{InboxChange}
use Rattle.spec_duties.specs.declared.observations.InboxChange.TheVariants as inbox_change
pub use Rattle.spec_duties.specs.declared.observations.BuiltChange.{BuiltChange}
use Rattle.spec_duties.specs.declared.observations.BuiltChange.TheVariants as built_change
pub use Rattle.spec_duties.specs.declared.observations.Queueing.{Queueing}
use Rattle.spec_duties.specs.declared.observations.Queueing.TheVariants as queueing
pub use Rattle.spec_duties.specs.declared.observations.SynChange.{SynChange}
use Rattle.spec_duties.specs.declared.observations.SynChange.TheVariants as syn_change
pub use Rattle.spec_duties.specs.declared.observations.TouchedEndpoint.{TouchedEndpoint}
pub use Rattle.spec_duties.specs.declared.observations.Observation.{Observation}

-- nothing that duties watch
abbrev pub unseen : Observation
unseen = record {
  touched = None;
  inbox_change = inbox_change.Nothing;
  built_change = built_change.Nothing;
  queueing = queueing.Nothing;
  dropping = None;
  discards = false;
  sampling = sampling.Nothing;
  earns = false;
  syn_change = syn_change.Nothing;
  blocks = no_blocks;
  kept = nothing_kept;
  stamps = None;
  arrival = None;
  acked = 0;
  call_change = call_change.Nothing;
  socket_change = socket_change.Nothing;
}

abbrev pub touching : Option TouchedEndpoint → Observation
touching touched = record unseen { touched = touched }

-- a step touches the endpoint at a place
abbrev pub at_place : Host → HostTcp → Event → ℕ → Option TouchedEndpoint
at_place host b event i =
    option_map (λ e. record { host = host; place = i; event = event; before = view_of e }) (slice_get b.endpoints i)

abbrev pub at_ports : Host → HostTcp → Event → (lport rport : ℕ) → Option TouchedEndpoint
at_ports host b event lport rport = option_map_or (at_place host b event) (place_of b lport rport) None

-- a new endpoint, in the next place
abbrev pub at_next : Host → HostTcp → Event → Option TouchedEndpoint
at_next host b event = Some (record { host = host; place = length b.endpoints; event = event; before = unborn })

-- the sender of a segment, which its line shows like this; a reset in answer to a segment has none
abbrev pub sending_of : Wire → Emission → Event
sending_of wire m =
    events.Sends (record {
      flags = m.flags;
      pos = m.pos;
      length = segment_length m;
      before_text = is_before_text wire m;
    })

abbrev pub at_sender : Host → HostTcp → Wire → Emission → Option TouchedEndpoint
at_sender host b wire m = if m.is_reset_reply then None else at_place host b (sending_of wire m) m.sender.number

-- the target of a segment that is processed; a listener creates an endpoint
abbrev pub processing_of : Emission → Event
processing_of m = events.Processes (segment_length m) m.flags.rst

abbrev pub at_target : Host → HostTcp → Emission → Taker → Option TouchedEndpoint
at_target host b m Nobody = None
at_target host b m (AtListener l) = at_next host b (processing_of m)
at_target host b m (AtEndpoint i e) = at_place host b (processing_of m) i

-- the target of one that is dropped
abbrev pub at_drop : Version → Host → HostTcp → Emission → (taking : Option Rule) → Taker → Option TouchedEndpoint
at_drop v host b m taking Nobody = None
at_drop v host b m taking (AtListener l) = None
at_drop v host b m taking (AtEndpoint i e) =
    at_place host b (events.Drops (asks (reads_old_numbers v) m taking e) (has_content m)) i

-- ---- what a step does with a SYN, in version 6

-- an endpoint's own SYN goes out with these bytes
abbrev pub syn_sent : Version → Emission → (bytes : List ℕ) → SynChange
syn_sent v m bytes =
    if says_sender v && m.flags.syn && not m.is_reset_reply then syn_change.Sends (permits_sack bytes)
    else syn_change.Nothing

-- the peer's SYN is processed
abbrev pub takes_syn : Version → Emission → Bool
takes_syn v m = says_sender v && m.flags.syn && not m.flags.rst

abbrev pub syn_taken : Version → Emission → Taker → SynChange
syn_taken v m Nobody = syn_change.Nothing
syn_taken v m (AtListener l) =
    if takes_syn v m then syn_change.Takes (permits_sack m.bytes) false else syn_change.Nothing
syn_taken v m (AtEndpoint i e) =
    if takes_syn v m && is_syn_sent e.state then syn_change.Takes (permits_sack m.bytes) (not m.flags.ack)
    else syn_change.Nothing

-- the segment is the SYN that the endpoint took: it has no other flag, and the same number
abbrev pub is_same_syn : Endpoint → Emission → Bool
is_same_syn e m =
    is_syn_received e.state && m.flags.syn && not m.flags.ack && not m.flags.rst && not m.flags.fin
    && option_map_or (λ irs. same_word m.seq irs) e.irs false

-- a segment is dropped
abbrev pub syn_dropped : Version → Emission → Taker → SynChange
syn_dropped v m Nobody = syn_change.Nothing
syn_dropped v m (AtListener l) = syn_change.Nothing
syn_dropped v m (AtEndpoint i e) =
    if says_sender v && is_same_syn e m then syn_change.ComesAgain else syn_change.Nothing

-- a segment leaves the inbox because it is processed, or because it is dropped
abbrev pub observe_taking : Header → Host → HostTcp → (line : ℕ) → TakeChoice → Emission → Taker → Observation
observe_taking h host b line how m t =
    record unseen {
      touched = at_target host b m t;
      inbox_change = inbox_change.Leaves line;
      discards = discards_at h.version how m t;
      sampling = sampling_at h.version how m t;
      earns = earns_by_taking h.version m t;
      syn_change = syn_taken h.version m t;
      blocks = blocks_taken h.version m t;
      kept = kept_at h.version how m t;
      stamps = stamps_read h.version m.bytes;
      arrival = arrival_at h.version m t;
    }

abbrev pub observe_dropping : Version → Host → HostTcp → (line : ℕ) → (taking answering : Option Rule) → Emission
    → Taker → Observation
observe_dropping v host b line taking answering m t =
    record unseen {
      touched = at_drop v host b m taking t;
      inbox_change = inbox_change.Leaves line;
      dropping = Some (dropping_of host taking answering (droppable_by v b m t) (is_old v m t));
      earns = earns_by_dropping v m taking t;
      syn_change = syn_dropped v m t;
      stamps = stamps_read v m.bytes;
      arrival = arrival_at v m t;
    }

-- of a step of a host; `fresh` is the number of the next segment to be built
abbrev pub observe_host_step : Header → (moment : ℕ) → World tcp_shape → (fresh : ℕ) → Host → HostState tcp_shape
    → HostStep tcp_shape → Observation
observe_host_step h moment w fresh host s (network.Does x) =
    touching (at_ports host s.body (events.Recovers x.change) x.lport x.rport)
observe_host_step h moment w fresh host s (network.Expires line x) =
    touching (at_ports host s.body (events.Expires (timer_of x.expired)) x.lport x.rport)
observe_host_step h moment w fresh host s (network.Makes m) =
    record unseen {
      touched = at_ports host s.body (events.Builds m) m.lport m.rport;
      built_change = built_change.Builds fresh;
      acked = acked_at_ports h.version s.body m moment;
    }
observe_host_step h moment w fresh host s (network.Sends line number wire) =
    on (lookup (nat_eq number) s.made) unseen
    (λ m. record unseen {
      touched = at_sender host s.body wire m.emission;
      built_change = built_change.Sends number;
      syn_change = syn_sent h.version m.emission wire.bytes;
      stamps = stamps_read h.version wire.bytes;
      acked = acked_sent h.version wire m.emission;
    })
observe_host_step h moment w fresh host s (network.Gets line copied wire) =
    record unseen { inbox_change = inbox_change.Enters line }
observe_host_step h moment w fresh host s (network.Hears line wire) =
    record unseen { inbox_change = inbox_change.Enters line }
observe_host_step h moment w fresh host s (network.Takes line how) =
    on (waiting line s.inbox) unseen (λ m. observe_taking h host s.body line how m (taker s.body m))
observe_host_step h moment w fresh host s (network.Drops line) =
    on (waiting line s.inbox) unseen
    (λ m. observe_dropping h.version host s.body line (taking_breaks h moment w host line)
    (answering_breaks h w host line) m
    (taker s.body m))
observe_host_step h moment w fresh host s (network.Answers line) =
    record unseen { inbox_change = inbox_change.Leaves line; built_change = built_change.Builds fresh }

-- a call on a live socket number of an endpoint
abbrev pub is_done : Answer → Bool
is_done answers.Done = true
is_done answer = false

-- a listener loses the first child of its queue, unless that is CLOSED and counts no more
abbrev pub accepting : Host → HostTcp → (listener : ℕ) → List ℕ → Queueing
accepting host b l [] = queueing.Nothing
accepting host b l (child ∷ queue) =
    option_map_or (λ e. if is_closed e.state then queueing.Nothing else queueing.Accepts host l)
    (slice_get b.endpoints child) queueing.Nothing

-- what a call on a live socket number shows
abbrev pub observe_accept : Host → HostTcp → Answer → SocketTarget → Observation
observe_accept host b (answers.Given n) (ListenerAt l) = record unseen { queueing = accepting host b l (queue_of b l) }
observe_accept host b answer target = unseen

-- a listener ends once: `close` of one that `shut` ended shows nothing more
abbrev pub observe_close : Host → HostTcp → (aborts : Bool) → Answer → SocketTarget → Observation
observe_close host b aborts answer (ListenerAt l) =
    if is_done answer && not (has_ended b l) then record unseen { queueing = queueing.Closes host l } else unseen
observe_close host b aborts answer (EndpointAt i) = touching (at_place host b (events.Calls aborts) i)

abbrev pub observe_other : Host → HostTcp → SocketTarget → Observation
observe_other host b (ListenerAt l) = unseen
observe_other host b (EndpointAt i) = touching (at_place host b (events.Calls false) i)

abbrev pub observe_opened : Host → HostTcp → Answer → Observation
observe_opened host b (answers.Given n) = touching (at_next host b events.Opens)
observe_opened host b answer = unseen

-- a call whose socket number is live at this host
abbrev pub on_target : HostTcp → ℕ → (SocketTarget → Observation) → Observation
on_target b n f = on (socket_target b n) unseen f

abbrev pub observe_call : Host → HostTcp → Call → Answer → Observation
observe_call host b (calls.Connect x lport rport) answer = observe_opened host b answer
observe_call host b (calls.Accept n) answer = on_target b n (observe_accept host b answer)
observe_call host b (calls.Send n bytes) answer = on_target b n (observe_other host b)
observe_call host b (calls.Shut n) answer = on_target b n (observe_close host b false answer)
observe_call host b (calls.Close n) answer = on_target b n (observe_close host b false answer)
observe_call host b (calls.Abort n) answer = on_target b n (observe_close host b (is_done answer) answer)
observe_call host b call answer = unseen

-- an open call with this answer, at the host that the call applies to
abbrev pub observe_pending : Header → World tcp_shape → Answer → Call → Observation
observe_pending h w answer call =
    on (aim_of (tcp h) w.hosts (aim call)) unseen (λ host. observe_call host (pick w.hosts host).body call answer)

-- with what is judged of answers
abbrev pub observe_open : Header → World tcp_shape → (thread : ℕ) → Answer → Call → Observation
observe_open h w thread answer call =
    record (observe_pending h w answer call) {
      call_change = judged_call h (answering h w thread answer call);
      socket_change = judged_socket h (socket_changing h w answer call);
    }

-- the effect of a thread's call: it is open, and had none yet
abbrev pub observe_effect : Header → World tcp_shape → (thread : ℕ) → Answer → Turn tcp_shape → Observation
observe_effect h w thread answer Idle = unseen
observe_effect h w thread answer (Called call) = observe_open h w thread answer call
observe_effect h w thread answer (Answered given) = unseen

-- a call begins or ends
abbrev pub observe_turn : Header → CallChange → Observation
observe_turn h change = record unseen { call_change = judged_call h change }

-- of a step
abbrev pub observe : Header → (moment : ℕ) → World tcp_shape → Step tcp_shape → Observation
observe h moment w (network.Begin line thread call) = observe_turn h (beginning thread call)
observe h moment w (network.Finish line thread answer) = observe_turn h (call_change.Ends thread)
observe h moment w (network.Effect thread answer) = observe_effect h w thread answer (turn_of thread w.threads)
observe h moment w (network.At host d) = observe_host_step h moment w (suc w.count) host (pick w.hosts host) d

-- the endpoint that a step touched, as it is in this world
abbrev pub view_in : World tcp_shape → Option TouchedEndpoint → View
view_in w touched =
    on touched unborn (λ t. option_map_or view_of (slice_get (pick w.hosts t.host).body.endpoints t.place) unborn)
