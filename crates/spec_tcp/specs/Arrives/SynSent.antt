-- A segment arrives in SYN-SENT: what may be processed, and the endpoint afterwards (RFC 9293, 3.10.7.3).
use Rattle.std.specs.Prelude.{ℕ, ◌==◌, nat_lt, max, Bool, false, not, ◌&&◌, ◌||◌, if◌then◌else◌, List, [], ◌∷◌}
use Rattle.std.specs.Prelude.{Some}
use Rattle.std.specs.Option.{option_map_or}
use Rattle.seqno.specs.Numbers.{number_of}
use Rattle.case_forms.specs.declared.calls.State.TheVariants as states
use Rattle.case_forms.specs.declared.steps.TakeChoice.{TakeChoice}
use Rattle.case_forms.specs.declared.trace.Header.{Header}
use Rattle.verdict.specs.declared.rule.Rule.{Rule}
use Rattle.verdict.specs.declared.rule.Rule.TheVariants as rules
use Rattle.streams.specs.Transmissions.{retransmitted}
use Rattle.streams.specs.Received.{met}
use Rattle.timer_rules.specs.declared.timers.Timers.{Timers}
use Rattle.spec_tcp.specs.Endpoints.{Endpoint, Emission, snd_max}
use Rattle.spec_tcp.specs.Same.{same_word}
use Rattle.window_rules.specs.Control.{greatest, after}
use Rattle.spec_tcp.specs.Signals.{at_moment, signal_of}
use Rattle.spec_tcp.specs.Arrives.OtherStates.Window.{is_unread, persist_after_window}
use Rattle.spec_tcp.specs.Arrives.OtherStates.Timers.{timeout_after_ack, rto_after_ack}

-- in SYN-SENT: it acknowledges the SYN, which is all that was sent (RFC 9293, 3.10.7.3)
abbrev pub answers_syn : Endpoint → Emission → Bool
answers_syn e m =
    m.flags.ack && snd_max e == 1 && option_map_or (λ iss. same_word m.ack_seq (number_of iss 1)) e.iss false

-- in SYN-SENT: a SYN or a reset; an acknowledgment must be of the own SYN (RFC 9293, 3.10.7.3)
abbrev pub syn_sent_rules : Endpoint → TakeChoice → Emission → (moment : ℕ) → List (Rule × Bool)
syn_sent_rules e how m moment =
    (rules.State, not (m.flags.syn || m.flags.rst))
    ∷ (rules.AckRange, (m.flags.ack || m.flags.rst) && not (answers_syn e m))
    ∷ (rules.Growth, nat_lt ((greatest e.control (signal_of e m) (at_moment e moment)).0) how.cwnd)
    ∷ (rules.Sample, how.sample && (m.flags.rst || not m.flags.ack || retransmitted e.transmissions e.stream.snd_una 1))
    ∷ (rules.ScaleUnread, is_unread e m) ∷ []

-- the oldest unacknowledged position after the peer's SYN was received in SYN-SENT; an acknowledgment is of the own SYN
abbrev pub snd_una_after_syn : Endpoint → Emission → ℕ
snd_una_after_syn e m = if m.flags.ack then max e.stream.snd_una 1 else e.stream.snd_una

-- the timers afterwards; a round trip is that of the own SYN, if it was not acknowledged before
abbrev pub timers_after_syn : Header → Endpoint → TakeChoice → Emission → ℕ → Timers
timers_after_syn h e how m moment =
    persist_after_window (rto_after_ack (timeout_after_ack h e (how.sample && m.flags.ack
    && e.stream.snd_una == 0) 1 m.flags.ack moment) (snd_una_after_syn e m == snd_max e) false moment) m.window moment

-- in SYN-SENT the peer's SYN is received: ESTABLISHED with an acknowledgment, else SYN-RECEIVED
abbrev pub on_syn : Header → Endpoint → TakeChoice → Emission → ℕ → Endpoint
on_syn h e how m moment = record e {
  state = if m.flags.ack then states.Established else states.SynReceived;
  irs = Some m.seq;
  peer_shift = m.scale;
  stream = record e.stream { peer = Some m.sender; receive = met; snd_una = snd_una_after_syn e m };
  window = record e.window { snd_wnd = m.window; snd_wl1 = m.pos; snd_wl2 = if m.flags.ack then 1 else 0 };
  control = after e.control (signal_of e m) (at_moment e moment) how.cwnd e.control.values.ssthresh;
  timers = timers_after_syn h e how m moment;
  unanswered_expiries = 0;
  backoffs = if m.flags.ack then 0 else e.backoffs;
}
