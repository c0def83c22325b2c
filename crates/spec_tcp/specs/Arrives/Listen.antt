-- A segment arrives in LISTEN: what may be processed, and the child it creates (RFC 9293, 3.10.7.2).
use Rattle.std.specs.Prelude.{ℕ, nat_lt, Bool, not, ◌&&◌, List, [], ◌∷◌, Some}
use Rattle.case_forms.specs.declared.calls.State.TheVariants as states
use Rattle.case_forms.specs.declared.steps.TakeChoice.{TakeChoice}
use Rattle.verdict.specs.declared.rule.Rule.{Rule}
use Rattle.verdict.specs.declared.rule.Rule.TheVariants as rules
use Rattle.streams.specs.Received.{met}
use Rattle.spec_tcp.specs.Endpoints.{Endpoint, Emission, new_endpoint}
use Rattle.spec_tcp.specs.Arrives.OtherStates.Window.{persist_after_window}
use Rattle.window_rules.specs.Control.{after}
use Rattle.window_rules.specs.declared.control.Profile.{Profile}
use Rattle.window_rules.specs.declared.control.Signal.TheVariants.{Syn}
use Rattle.spec_tcp.specs.Signals.{at_moment, told_smss}

-- a listener processes a SYN that is neither acknowledgment nor reset (RFC 9293, 3.10.7.2)
abbrev pub listener_rules : TakeChoice → Emission → List (Rule × Bool)
listener_rules how m =
    (rules.State, not (m.flags.syn && not m.flags.ack && not m.flags.rst)) ∷ (rules.Growth, nat_lt 0 how.cwnd)
    ∷ (rules.Sample, how.sample) ∷ []

-- a child of a listener: it knows the peer, and received its SYN
abbrev pub child : Profile → ℕ → TakeChoice → Emission → ℕ → Endpoint
child profile l how m moment =
    let fresh : Endpoint = new_endpoint m.rport m.lport (Some l) states.SynReceived profile in
    record fresh {
      irs = Some m.seq;
      peer_shift = m.scale;
      stream = record fresh.stream { peer = Some m.sender; receive = met };
      window = record fresh.window { snd_wnd = m.window; snd_wl1 = m.pos };
      control =
          after fresh.control (Syn (told_smss m.mss)) (at_moment fresh moment) how.cwnd fresh.control.values.ssthresh;
      timers = persist_after_window fresh.timers m.window moment;
    }
