-- A segment is built: all rules in their order, the segment, and its endpoint afterwards (RFC 9293, 3.8 and 3.10).
pub mod Kind
pub mod Payload
pub mod Edges
use Rattle.std.specs.Prelude.{ℕ, ◌+◌, nat_lt, max, Bool, false, not, ◌&&◌, if◌then◌else◌, List, [], ◌∷◌, None, is_some}
use Rattle.std.specs.Option.{option_or}
use Rattle.case_forms.specs.declared.steps.SegmentPlan.{SegmentPlan}
use Rattle.case_forms.specs.declared.timer.Timer.TheVariants.{Rto}
use Rattle.case_forms.specs.declared.version.Version.{Version}
use Rattle.verdict.specs.declared.rule.Rule.{Rule}
use Rattle.verdict.specs.declared.rule.Rule.TheVariants as rules
use Rattle.streams.specs.Transmissions.{made}
use Rattle.streams.specs.Sent.{piece}
use Rattle.timer_rules.specs.Timers.{armed}
use Rattle.timer_rules.specs.declared.timers.Timers.{Timers}
use Rattle.spec_tcp.specs.Endpoints.{EndpointId, Endpoint, Emission, rcv_nxt, is_scaling}
use Rattle.spec_tcp.specs.Calls.Close.{shut_down}
use Rattle.spec_tcp.specs.Makes.Kind.{may_make, makes_nothing, is_bad_iss, given_shift, word_zero, seq_of}
use Rattle.spec_tcp.specs.Makes.Payload.{making_length, has_new_bytes, is_bad_payload, is_bad_place}
use Rattle.spec_tcp.specs.Makes.Edges.{is_bad_ack, raised_at, own_window, is_beyond_offer, is_congesting}

-- the rules of building a segment, at the endpoint at these ports
abbrev pub making_rules : Version → Endpoint → SegmentPlan → List (Rule × Bool)
making_rules v e m =
    (rules.NoEndpoint, makes_nothing e m) ∷ (rules.State, not (may_make e m)) ∷ (rules.Iss, is_bad_iss e m)
    ∷ (rules.PayloadRange, is_bad_payload e m) ∷ (rules.AckField, is_bad_ack e m) ∷ (rules.OldData, is_bad_place v e m)
    ∷ (rules.Offered, is_beyond_offer e m) ∷ (rules.Congestion, is_congesting e m)
    ∷ (rules.Size, nat_lt e.control.values.smss m.len) ∷ []

-- the segment at its moment: the accepted bytes at its position, and the next position expected as its acknowledgment,
-- both also as numbers
abbrev pub emission_of : EndpointId → Endpoint → SegmentPlan → ℕ → Emission
emission_of me e m moment = record {
  sender = me;
  peer_at_send = e.stream.peer;
  lport = m.lport;
  rport = m.rport;
  pos = m.pos;
  ack = if m.flags.ack then rcv_nxt e else 0;
  seq = seq_of (option_or e.iss m.iss) m.pos;
  ack_seq = if m.flags.ack then seq_of e.irs (rcv_nxt e) else word_zero;
  raised = raised_at e m moment;
  flags = m.flags;
  window = m.window;
  payload = piece e.stream.accepted m.pos m.len;
  shift = given_shift e m;
  scaled = is_scaling e;
  is_reset_reply = false;
  bytes = [];
  mss = None;
  scale = None;
  moment = 0;
}

-- a segment that has positions arms the retransmission timer, if it isn't armed (RFC 6298, 5.1)
abbrev pub timed : Timers → SegmentPlan → ℕ → Timers
timed t m moment = if nat_lt 0 (making_length m) && not (is_some t.rto_armed) then armed t Rto moment else t

-- the endpoint afterwards
abbrev pub endpoint_made : Endpoint → SegmentPlan → ℕ → Endpoint
endpoint_made e m moment = record e {
  iss = option_or e.iss m.iss;
  shift = given_shift e m;
  transmissions = made e.transmissions m.pos (making_length m) moment;
  window =
      record e.window {
        rcv_adv = if m.flags.ack then max e.window.rcv_adv (rcv_nxt e + own_window e m)
            else e.window.rcv_adv;
      };
  probe_due = e.probe_due && not (has_new_bytes e m);
  timers = timed e.timers m moment;
}

-- a reset closes the endpoint, and is no longer due
abbrev pub after_making : Endpoint → SegmentPlan → ℕ → Endpoint
after_making e m moment =
    if m.flags.rst then record (shut_down (endpoint_made e m moment)) { reset_due = false }
    else endpoint_made e m moment
