-- What is said of an endpoint's counts holds of it once it took a segment, with one step more.
use Rattle.std.proofs.Common.{◌≡◌, ℕ, suc, ◌^◌, ◌<◌, ◌≤◌, Bool, true, false, None, max, refl, sym, ◌∙◌, arith}
use Rattle.std.specs.Prelude.{◌&&◌, not, if◌then◌else◌}
use Rattle.case_forms.specs.declared.trace.Header.{Header}
use Rattle.case_forms.specs.declared.calls.State.{State}
use Rattle.case_forms.specs.declared.calls.State.TheVariants as states
use Rattle.window_rules.specs.declared.control.Profile.{Profile}
use Rattle.window_rules.specs.declared.control.Signal.TheVariants.{Syn, SynAcked, NewAck, Duplicate, Other}
use Rattle.window_rules.specs.Control.{began}
use Rattle.window_rules.specs.Counts.{IsAcked}
use Rattle.window_rules.proofs.ControlLemmas.{counts_met, counts_stay}
use Rattle.spec_tcp.specs.Signals.{at_moment, signal_at_syn, signal_in_other_states, signal_of, told_smss}
use Rattle.streams.specs.Received.{body_kept}
use Rattle.streams.proofs.Fronts.{next_put_all}
use Rattle.spec_tcp.specs.declared.endpoint.Endpoint.{Endpoint}
use Rattle.spec_tcp.specs.declared.endpoint.Emission.{Emission}
use Rattle.case_forms.specs.States.{is_closed, is_syn_sent}
use Rattle.case_forms.specs.declared.steps.TakeChoice.{TakeChoice}
use Rattle.spec_tcp.specs.Arrives.OtherStates.Ack.{is_new_ack, acknowledges_syn, acked, is_duplicate, fin_acknowledged, acknowledged}
use Rattle.spec_tcp.specs.Arrives.OtherStates.Fin.{finished, keeps_fin}
use Rattle.spec_tcp.specs.Arrives.OtherStates.Text.{kept_start, kept_bytes, state_after_segment}
use Rattle.spec_tcp.specs.Arrives.OtherStates.{taken}
use Rattle.spec_tcp.specs.Arrives.OtherStates.Reset.{was_reset}
use Rattle.spec_tcp.specs.Arrives.SynSent.{on_syn, snd_una_after_syn}
use Rattle.spec_tcp.specs.Arrives.Listen.{child}
use Rattle.spec_tcp.specs.Arrives.{endpoint_taken}
use Rattle.endpoint_state.proofs.Forgets.{IsBounded, bounded_later}

-- 1. states

-- no state becomes SYN-SENT, and CLOSED stays
record Stays (s t : State) : Type 0 where
  pub sent : is_syn_sent t ≡ is_syn_sent s
  pub closed : is_closed t ≡ false → is_closed s ≡ false

stays_either : (c : Bool) (s x y : State) → Stays s x → Stays s y → Stays s (if c then x else y)
stays_either true s x y p q = p
stays_either false s x y p q = q

stays : (s : State) → Stays s s
stays s = record { sent = refl; closed = λ h. h }

acknowledged_stays : (s : State) (e : Endpoint) (m : Emission) → Stays s (acknowledged s e m)
acknowledged_stays states.SynReceived e m =
    stays_either (acknowledges_syn e m) states.SynReceived (if e.stream.ended then states.FinWait1 else states.Established) states.SynReceived
    (stays_either e.stream.ended states.SynReceived states.FinWait1 states.Established
    (record { sent = refl; closed = λ h. refl }) (record { sent = refl; closed = λ h. refl }))
    (stays states.SynReceived)
acknowledged_stays states.FinWait1 e m =
    stays_either (fin_acknowledged e m) states.FinWait1 states.FinWait2 states.FinWait1
    (record { sent = refl; closed = λ h. refl }) (stays states.FinWait1)
acknowledged_stays states.Closing e m =
    stays_either (fin_acknowledged e m) states.Closing states.TimeWait states.Closing
    (record { sent = refl; closed = λ h. refl }) (stays states.Closing)
acknowledged_stays states.LastAck e m =
    stays_either (fin_acknowledged e m) states.LastAck states.Closed states.LastAck
    (record { sent = refl; closed = λ h. refl }) (stays states.LastAck)
acknowledged_stays states.SynSent e m = stays states.SynSent
acknowledged_stays states.Closed e m = stays states.Closed
acknowledged_stays states.Listen e m = stays states.Listen
acknowledged_stays states.Established e m = stays states.Established
acknowledged_stays states.FinWait2 e m = stays states.FinWait2
acknowledged_stays states.CloseWait e m = stays states.CloseWait
acknowledged_stays states.TimeWait e m = stays states.TimeWait

finished_stays : (s : State) (passed : Bool) → Stays s (finished s passed)
finished_stays states.Established true = record { sent = refl; closed = λ h. refl }
finished_stays states.Established false = stays states.Established
finished_stays states.FinWait1 true = record { sent = refl; closed = λ h. refl }
finished_stays states.FinWait1 false = stays states.FinWait1
finished_stays states.FinWait2 true = record { sent = refl; closed = λ h. refl }
finished_stays states.FinWait2 false = stays states.FinWait2
finished_stays states.SynSent passed = stays states.SynSent
finished_stays states.SynReceived passed = stays states.SynReceived
finished_stays states.Closed passed = stays states.Closed
finished_stays states.Listen passed = stays states.Listen
finished_stays states.CloseWait passed = stays states.CloseWait
finished_stays states.Closing passed = stays states.Closing
finished_stays states.LastAck passed = stays states.LastAck
finished_stays states.TimeWait passed = stays states.TimeWait

taken_stays : (e : Endpoint) (how : TakeChoice) (m : Emission) → Stays e.state (state_after_segment e how m)
taken_stays e how m =
    let first = acknowledged_stays e.state e m in
    let second = finished_stays (acknowledged e.state e m) _ in
    record { sent = second.sent ∙ first.sent; closed = λ h. first.closed (second.closed h) }

-- 2. counts

-- what a signal acknowledges lies below the oldest position that is not acknowledged then
acked_in_other_states : (e : Endpoint) (m : Emission) → IsAcked e.stream.snd_una (max e.stream.snd_una m.ack) (signal_in_other_states e m)
acked_in_other_states e m = by (acknowledges_syn e m) (is_new_ack e m) (is_duplicate e m)
  where
    by : (syn new again : Bool)
        → IsAcked e.stream.snd_una (max e.stream.snd_una m.ack)
        (if syn then SynAcked e.control.values.smss e.syn_lost else if new then NewAck (acked e m) else if again
        then Duplicate else Other)
    by true new again = omega arith
    by false true again = omega arith
    by false false true = omega arith
    by false false false = omega arith

acked_at_syn : (e : Endpoint) (m : Emission) → IsAcked e.stream.snd_una (snd_una_after_syn e m) (signal_at_syn e m)
acked_at_syn e m = by (not (m.flags.syn && not m.flags.rst)) m.flags.ack
  where
    by : (other ack : Bool)
        → IsAcked e.stream.snd_una (if ack then max e.stream.snd_una 1 else e.stream.snd_una)
        (if other then Other else if ack then SynAcked (told_smss m.mss) e.syn_lost else Syn (told_smss m.mss))
    by true true = omega arith
    by true false = omega arith
    by false true = omega arith
    by false false = omega arith

acked_taken : (e : Endpoint) (m : Emission) → is_syn_sent e.state ≡ false → IsAcked e.stream.snd_una (max e.stream.snd_una m.ack) (signal_of e m)
acked_taken e m unsent = rw unsent (acked_in_other_states e m)

acked_met : (e : Endpoint) (m : Emission) → is_syn_sent e.state ≡ true → IsAcked e.stream.snd_una (snd_una_after_syn e m) (signal_of e m)
acked_met e m sent = rw sent (acked_at_syn e m)

zero_or : (c : Bool) (n steps : ℕ) → n ≤ steps → (if c then 0 else n) ≤ suc steps
zero_or true n steps h = omega arith
zero_or false n steps h = omega arith

-- 3. segments

taken_bounded : (h : Header) (how : TakeChoice) (m : Emission) (moment steps : ℕ) (e : Endpoint) → m.ack < 2 ^ 63
    → is_syn_sent e.state ≡ false → IsBounded steps e → IsBounded (suc steps) (taken h e how m moment)
taken_bounded h how m moment steps e small unsent b =
    let later = bounded_later steps e b in
    let snd_una = b.snd_una in
    let state = taken_stays e how m in
    let front =
    next_put_all e.stream.receive.taken (kept_start e m)
    (body_kept e.stream.receive.taken (kept_start e m) (kept_bytes e how m) (keeps_fin e how m)) in
    record {
      snd_una = omega arith;
      counts =
          counts_stay e.control (signal_of e m)
          (at_moment e moment) how.cwnd e.control.values.ssthresh steps e.stream.snd_una
          (max e.stream.snd_una m.ack) b.counts (acked_taken e m unsent);
      unanswered_expiries = omega arith;
      backoffs = zero_or (is_new_ack e m) e.backoffs steps b.backoffs;
      accepted = later.accepted;
      met = λ sent closed. let old = b.met unsent (state.closed closed) in omega arith;
      unmet = λ sent. let no = sym unsent ∙ (sym state.sent ∙ sent) in absurd cc;
    }

met_bounded : (h : Header) (how : TakeChoice) (m : Emission) (moment steps : ℕ) (e : Endpoint) → is_syn_sent e.state ≡ true → IsBounded steps e
    → IsBounded (suc steps) (on_syn h e how m moment)
met_bounded h how m moment steps e sent b =
    let later = bounded_later steps e b in
    record {
      snd_una = below m.flags.ack;
      counts =
          counts_stay e.control (signal_of e m)
          (at_moment e moment) how.cwnd e.control.values.ssthresh steps e.stream.snd_una
          (snd_una_after_syn e m) b.counts (acked_met e m sent);
      unanswered_expiries = omega arith;
      backoffs = zero_or m.flags.ack e.backoffs steps b.backoffs;
      accepted = later.accepted;
      met = λ sent closed. omega arith;
      unmet = state m.flags.ack;
    }
  where
    below : (ack : Bool) → (if ack then max e.stream.snd_una 1 else e.stream.snd_una) < 2 ^ 63
    below true = let snd_una = b.snd_una in omega arith
    below false = b.snd_una

    state : {A : Type 0} (ack : Bool) → is_syn_sent (if ack then states.Established else states.SynReceived) ≡ true → A
    state true sent = absurd cc
    state false sent = absurd cc

reset_bounded : (how : TakeChoice) (moment steps : ℕ) (e : Endpoint) → IsBounded steps e → IsBounded (suc steps) (was_reset e how moment)
reset_bounded how moment steps e b =
    let later = bounded_later steps e b in
    record {
      snd_una = b.snd_una;
      counts =
          counts_stay e.control Other (at_moment e moment) how.cwnd e.control.values.ssthresh steps e.stream.snd_una
          e.stream.snd_una b.counts (omega arith);
      unanswered_expiries = omega arith;
      backoffs = later.backoffs;
      accepted = later.accepted;
      met = λ sent closed. absurd cc;
      unmet = λ sent. absurd cc;
    }

pub endpoint_taken_bounded : (h : Header) (how : TakeChoice) (m : Emission) (moment steps : ℕ) (e : Endpoint)
    → m.ack < 2 ^ 63 → IsBounded steps e → IsBounded (suc steps) (endpoint_taken h e how m moment)
endpoint_taken_bounded h how m moment steps e small b = by m.flags.rst (is_syn_sent e.state) refl
  where
    by : (r s : Bool) → is_syn_sent e.state ≡ s
        → IsBounded (suc steps) (if r then was_reset e how moment else if s then on_syn h e how m moment else taken h e how m moment)
    by true s is = reset_bounded how moment steps e b
    by false true is = met_bounded h how m moment steps e is b
    by false false is = taken_bounded h how m moment steps e small is b

pub child_bounded : (p : Profile) (l : ℕ) (how : TakeChoice) (m : Emission) (moment steps : ℕ) → IsBounded steps (child p l how m moment)
child_bounded p l how m moment steps = record {
  snd_una = omega arith;
  counts = counts_met p (told_smss m.mss) (record { moment = moment; srtt = None }) how.cwnd ((began p).values.ssthresh) steps;
  unanswered_expiries = omega arith;
  backoffs = omega arith;
  accepted = omega arith;
  met = λ sent closed. omega arith;
  unmet = λ sent. absurd cc;
}
