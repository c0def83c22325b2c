-- A segment arrives in any other state: all rules in their order, and the endpoint afterwards (RFC 9293, 3.10.7.4; the
-- wording of the tests is specific to this profile).
pub mod Peer
pub mod Sequence
pub mod Reset
pub mod Ack
pub mod Window
pub mod Fin
pub mod Text
pub mod Timers
use Rattle.std.specs.Prelude.{ℕ, ◌+◌, nat_le, nat_lt, Bool, false, not, ◌&&◌, if◌then◌else◌, List, [], ◌∷◌, length}
use Rattle.std.specs.Prelude.{slice_get, is_some}
use Rattle.std.specs.Option.{option_map_or}
use Rattle.case_forms.specs.States.{is_syn_received}
use Rattle.case_forms.specs.Versions.{is_half}
use Rattle.case_forms.specs.declared.steps.TakeChoice.{TakeChoice}
use Rattle.case_forms.specs.declared.trace.Header.{Header}
use Rattle.verdict.specs.declared.rule.Rule.{Rule}
use Rattle.verdict.specs.declared.rule.Rule.TheVariants as rules
use Rattle.spec_tcp.specs.Endpoints.{EndpointId, Endpoint, Emission, snd_max}
use Rattle.spec_tcp.specs.HostTcp.{HostTcp}
use Rattle.spec_tcp.specs.Arrives.OtherStates.Peer.{is_from_peer}
use Rattle.spec_tcp.specs.Arrives.OtherStates.Sequence.{is_bad_number, is_acceptable}
use Rattle.spec_tcp.specs.Arrives.OtherStates.Ack.{is_bad_ack_range, is_new_ack, may_sample}
use Rattle.window_rules.specs.Control.{greatest, after}
use Rattle.spec_tcp.specs.Signals.{at_moment, signal_of}
use Rattle.spec_tcp.specs.Arrives.OtherStates.Window.{is_unread, window_after_segment, opens_window}
use Rattle.spec_tcp.specs.Arrives.OtherStates.Text.{stream_after_segment, text_after_segment, state_after_segment}
use Rattle.spec_tcp.specs.Arrives.OtherStates.Timers.{timers_after_segment}

-- the child would join a full queue (specific to this profile: `extra` more than the backlog)
abbrev pub is_queue_full : Header → HostTcp → ℕ → Bool
is_queue_full h b l = option_map_or (λ x. nat_le (x.backlog + h.extra) (length x.queue)) (slice_get b.listeners l) false

abbrev pub joins_full_queue : Header → HostTcp → Endpoint → Emission → Bool
joins_full_queue h b e m =
    is_syn_received e.state && not m.flags.rst && option_map_or (is_queue_full h b) e.listener false

-- the rules in the other states, given whether the child would join a full queue
abbrev pub rules_with_queue : Header → (full : Bool) → EndpointId → Endpoint → TakeChoice → Emission
    → (moment : ℕ) → List (Rule × Bool)
rules_with_queue h full me e how m moment =
    (rules.NotPeer, not (is_half h.version) && not (is_from_peer me e m)) ∷ (rules.Number, is_bad_number e m)
    ∷ (rules.Unacceptable, not (is_acceptable e m))
    ∷ (rules.AckRange, is_bad_ack_range e m) ∷ (rules.QueueFull, full)
    ∷ (rules.Growth, nat_lt ((greatest e.control (signal_of e m) (at_moment e moment)).0) how.cwnd)
    ∷ (rules.Sample, how.sample && not (may_sample h.version e m))
    ∷ (rules.ScaleUnread, is_unread e m) ∷ []

abbrev pub connected_rules : Header → HostTcp → EndpointId → Endpoint → TakeChoice → Emission → (moment : ℕ)
    → List (Rule × Bool)
connected_rules h b me e how m moment = rules_with_queue h (joins_full_queue h b e m) me e how m moment

-- a segment without RST is processed, in all states but SYN-SENT
abbrev pub taken : Header → Endpoint → TakeChoice → Emission → ℕ → Endpoint
taken h e how m moment = record e {
  state = state_after_segment e how m;
  stream = stream_after_segment e how m;
  window = window_after_segment e m;
  text = text_after_segment e how m moment;
  control = after e.control (signal_of e m) (at_moment e moment) how.cwnd e.control.values.ssthresh;
  recover = if opens_window e m && is_some e.timers.persist_armed then snd_max e else e.recover;
  probe_due = e.probe_due && not (opens_window e m);
  timers = timers_after_segment h e how m moment;
  unanswered_expiries = 0;
  backoffs = if is_new_ack e m then 0 else e.backoffs;
}
