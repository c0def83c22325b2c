-- Which segments may be dropped, and which of them ask for an acknowledgment (RFC 9293, 3.10.7); and what may not be
-- discarded.
use Rattle.std.specs.Prelude.{ℕ, ◌+◌, ◌-◌, ◌==◌, nat_le, nat_lt, Bool, true, false, not, ◌&&◌, ◌||◌, if◌then◌else◌}
use Rattle.std.specs.Prelude.{Option}
use Rattle.std.specs.Prelude.{Some, is_some, length, slice_get}
use Rattle.std.specs.Option.{option_map_or}
use Rattle.seqno.specs.Near.{near_position}
use Rattle.seqno.specs.Numbers.{number_of}
use Rattle.case_forms.specs.States.{is_syn_received, is_syn_sent}
use Rattle.case_forms.specs.Versions.{is_half, says_sender}
use Rattle.case_forms.specs.declared.calls.Host.{Host}
use Rattle.case_forms.specs.declared.calls.State.{State}
use Rattle.case_forms.specs.declared.calls.State.TheVariants as states
use Rattle.case_forms.specs.declared.steps.TakeChoice.{TakeChoice}
use Rattle.case_forms.specs.declared.trace.Header.{Header}
use Rattle.case_forms.specs.declared.version.Version.{Version}
use Rattle.verdict.specs.Rules.{first_broken}
use Rattle.verdict.specs.declared.rule.Rule.{Rule}
use Rattle.verdict.specs.declared.rule.Rule.TheVariants as rules
use Rattle.spec_network.specs.HostRules.{step_rules}
use Rattle.spec_network.specs.Hosts as network
use Rattle.spec_network.specs.Hosts.{World}
use Rattle.spec_tcp.specs.Arrives.{Taker, Nobody, AtListener, AtEndpoint}
use Rattle.spec_tcp.specs.Endpoints.{rcv_nxt, receive_window, segment_length}
use Rattle.spec_tcp.specs.declared.endpoint.Emission.{Emission}
use Rattle.spec_tcp.specs.declared.endpoint.Endpoint.{Endpoint}
use Rattle.spec_tcp.specs.Heard.{as_read}
use Rattle.spec_tcp.specs.HostTcp.{HostTcp}
use Rattle.spec_tcp.specs.Machine.{tcp, tcp_shape}
use Rattle.spec_tcp.specs.Same.{same_word}
pub use Rattle.spec_duties.specs.declared.observations.Droppable.{Droppable}
use Rattle.spec_duties.specs.declared.observations.Droppable.TheVariants as droppable
pub use Rattle.spec_duties.specs.declared.observations.Dropping.{Dropping}

-- processing a segment with nothing chosen: `T h k 0 0 0`
abbrev pub bare : TakeChoice
bare = record { cwnd = 0; keep = false; sample = false }

-- the rule of the model that this would break
abbrev pub taking_breaks : Header → (moment : ℕ) → World tcp_shape → Host → (line : ℕ) → Option Rule
taking_breaks h moment w host line =
    first_broken (step_rules (tcp h) moment w (network.At host (network.Takes line bare)))

-- the rule of the model that a reset in answer would break
abbrev pub answering_breaks : Header → World tcp_shape → Host → (line : ℕ) → Option Rule
answering_breaks h w host line = first_broken (step_rules (tcp h) 0 w (network.At host (network.Answers line)))

abbrev pub is_unacceptable : Option Rule → Bool
is_unacceptable (Some rules.Unacceptable) = true
is_unacceptable _ = false

abbrev pub is_number : Option Rule → Bool
is_number (Some rules.Number) = true
is_number _ = false

abbrev pub is_ack_range : Option Rule → Bool
is_ack_range (Some rules.AckRange) = true
is_ack_range _ = false

-- the segment's number is exactly the next one expected
abbrev pub is_next : Endpoint → Emission → Bool
is_next e m = option_map_or (λ irs. same_word m.seq (number_of irs (rcv_nxt e))) e.irs false

-- a reset that may be challenged instead (RFC 5961, 3.2)
abbrev pub is_challenged : Endpoint → Emission → Bool
is_challenged e m = m.flags.rst && not (is_syn_sent e.state) && not (is_next e m)

-- a segment that doesn't fit into a closed receive window (RFC 9293, 3.10.7.4, first)
abbrev pub meets_closed_window : Endpoint → Emission → Bool
meets_closed_window e m = not (is_syn_sent e.state) && receive_window e == 0 && nat_lt 0 (segment_length m)

-- what could be processed need not be: a listener's backlog is reached (RFC 9293, 3.9.1.2), a reset is challenged, or
-- the receive window is closed
abbrev pub droppable_at_listener : HostTcp → (place : ℕ) → Droppable
droppable_at_listener b l =
    option_map_or (λ x. droppable.IfFull l x.backlog) (slice_get b.listeners l) droppable.No

-- an acknowledgment of less than what is unacknowledged; in version 6 one that is far too old must be dropped (RFC
-- 5961, 5.2), and how far that is depends on the windows that the peer offered
abbrev pub acknowledges_less : Version → Endpoint → Emission → Bool
acknowledges_less v e m =
    says_sender v && not (is_syn_sent e.state) && not (is_syn_received e.state) && m.flags.ack && not m.flags.rst
    && nat_lt (as_read v e m).ack e.stream.snd_una

abbrev pub droppable_at_endpoint : Version → Emission → (place : ℕ) → Endpoint → Droppable
droppable_at_endpoint v m i e =
    if is_challenged e m || meets_closed_window e m then droppable.Yes
    else if acknowledges_less v e m then droppable.IfStale i (e.stream.snd_una - (as_read v e m).ack)
    else droppable.No

abbrev pub droppable_by : Version → HostTcp → Emission → Taker → Droppable
droppable_by v b m Nobody = droppable.No
droppable_by v b m (AtListener l) = droppable_at_listener b l
droppable_by v b m (AtEndpoint i e) = droppable_at_endpoint v m i e

-- in half cases of version 6, a number below the peer's initial one is an old one, not one that can't be read
abbrev pub reads_old_numbers : Version → Bool
reads_old_numbers v = says_sender v && is_half v

abbrev pub is_below_irs : Endpoint → Emission → Bool
is_below_irs e m = option_map_or (λ irs. not (is_some (near_position (rcv_nxt e) irs m.seq))) e.irs false

abbrev pub is_old : Version → Emission → Taker → Bool
is_old v m Nobody = false
is_old v m (AtListener l) = false
is_old v m (AtEndpoint i e) = reads_old_numbers v && is_below_irs e m

-- what a step that drops a segment shows of it: it has to be answered with a reset if that is permitted, unless an
-- acknowledgment is as good
abbrev pub dropping_of : Host → (taking answering : Option Rule) → Droppable → (old : Bool) → Dropping
dropping_of host taking answering given old = record {
  host = host;
  takeable = not (is_some taking);
  droppable = given;
  answerable = not (is_some answering) && not (is_unacceptable taking || old);
}

-- the segment has bytes or a FIN
abbrev pub has_content : Emission → Bool
has_content m = nat_lt 0 (length m.payload) || m.flags.fin

-- a dropped segment asks for an acknowledgment: it is unacceptable, or acknowledges what was never sent, or could be
-- processed; a reset only if it could be, and is challenged (RFC 9293, 3.10.7.4, first, second and fifth)
abbrev pub asks : (old_numbers : Bool) → Emission → (taking : Option Rule) → Endpoint → Bool
asks old_numbers m taking e =
    not (is_syn_sent e.state)
    && (if m.flags.rst then not (is_some taking) && is_challenged e m
    else is_unacceptable taking || is_ack_range taking && m.flags.ack || not (is_some taking)
    || old_numbers && is_number taking)

-- processing a segment earns a credit: it holds positions, or acknowledges less than is acknowledged
abbrev pub earns_by_taking : Version → Emission → Taker → Bool
earns_by_taking v m Nobody = false
earns_by_taking v m (AtListener l) = false
earns_by_taking v m (AtEndpoint i e) = says_sender v && (nat_lt 0 (segment_length m) || acknowledges_less v e m)

-- dropping it does: it holds positions, or asks for an acknowledgment
abbrev pub earns_by_dropping : Version → Emission → (taking : Option Rule) → Taker → Bool
earns_by_dropping v m taking Nobody = false
earns_by_dropping v m taking (AtListener l) = false
earns_by_dropping v m taking (AtEndpoint i e) =
    says_sender v && (nat_lt 0 (segment_length m) || asks (reads_old_numbers v) m taking e)

-- the states in which what is next in order is kept (RFC 9293, 3.10.7.4, seventh)
abbrev pub keeps_order : State → Bool
keeps_order states.SynReceived = true
keeps_order states.Established = true
keeps_order states.FinWait1 = true
keeps_order states.FinWait2 = true
keeps_order _ = false

-- the segment holds the next position expected
abbrev pub holds_next : Endpoint → Emission → Bool
holds_next e m = nat_le m.pos (rcv_nxt e) && nat_lt (rcv_nxt e) (m.pos + segment_length m)

-- nothing of a segment is kept, though it holds what is next in order, and there is room; once the socket is closed, a
-- reset may answer (RFC 9293, 3.6.1)
abbrev pub discards : TakeChoice → Endpoint → Emission → Bool
discards how e m =
    not how.keep && keeps_order e.state && not e.closed && not m.flags.rst && nat_lt (rcv_nxt e) e.window.rcv_adv
    && holds_next e m

-- the same for whoever processes it; an endpoint reads the segment first
abbrev pub discards_at : Version → TakeChoice → Emission → Taker → Bool
discards_at version how m Nobody = false
discards_at version how m (AtListener l) = false
discards_at version how m (AtEndpoint i e) = discards how e (as_read version e m)
