-- What an endpoint has once it took a segment: the same is kept of it, whether or not something was discarded before.
use Rattle.std.proofs.Common.{◌≡◌, ℕ, suc, ◌-◌, ◌≤◌, Bool, true, false, length, max, refl, sym, ap, ◌∙◌, arith}
use Rattle.std.specs.Prelude.{◌==◌, ◌&&◌, if◌then◌else◌}
use Rattle.std.proofs.lemmas.Bool.Decides.{nat_tests}
use Rattle.case_forms.specs.declared.trace.Header.{Header}
use Rattle.case_forms.specs.declared.calls.State.{State}
use Rattle.case_forms.specs.declared.calls.State.TheVariants as states
use Rattle.streams.specs.Cells.{front}
use Rattle.streams.specs.Received.{Receiving, is_ended, next}
use Rattle.streams.specs.Transmissions.{once}
use Rattle.streams.specs.Forgetting.{forgotten}
use Rattle.streams.proofs.Covers.{covered-covered, get-covered}
use Rattle.streams.proofs.Fades.{is_fin-fade, length-front-fade}
use Rattle.streams.proofs.Keeping.{kept_forgotten}
use Rattle.spec_tcp.specs.declared.endpoint.Endpoint.{Endpoint}
use Rattle.spec_tcp.specs.declared.endpoint.Emission.{Emission}
use Rattle.case_forms.specs.States.{is_syn_sent}
use Rattle.case_forms.specs.declared.steps.TakeChoice.{TakeChoice}
use Rattle.spec_tcp.specs.Arrives.OtherStates.Ack.{is_new_ack, acknowledges_syn, acknowledged}
use Rattle.spec_tcp.specs.Arrives.OtherStates.Fin.{keeps_fin}
use Rattle.spec_tcp.specs.Arrives.OtherStates.Text.{kept_start, kept_bytes, receive_after, text_after_segment}
use Rattle.spec_tcp.specs.Arrives.OtherStates.Text.{state_after_segment}
use Rattle.spec_tcp.specs.Arrives.OtherStates.Timers.{timeout_after_ack, timers_after_segment}
use Rattle.spec_tcp.specs.Arrives.OtherStates.{taken}
use Rattle.spec_tcp.specs.Arrives.OtherStates.Reset.{reset_fault, was_reset}
use Rattle.spec_tcp.specs.Arrives.SynSent.{timers_after_syn, snd_una_after_syn, on_syn}
use Rattle.spec_tcp.specs.Arrives.{endpoint_taken}
use Rattle.spec_tcp.specs.Forgetting.{forget_endpoint}
use Rattle.spec_tcp_laws.proofs.ForgetReads.{rcv_nxt-forget, snd_max-forget, end_of-forget}
use Rattle.spec_tcp_laws.proofs.ForgetEffects.{Forgets, forgets}

-- what is taken is put behind the same front
pub receive-forgets : (e : Endpoint) (how : TakeChoice) (m : Emission) → forgotten (receive_after (forget_endpoint e) how m) ≡ forgotten (receive_after e how m)
receive-forgets e how m =
    rw (rcv_nxt-forget e) (kept_forgotten e.stream.receive (kept_start e m) (kept_bytes e how m) (keeps_fin e how m))

-- how far it reaches then is not forgotten
next-forgotten : (r : Receiving) → next (forgotten r) ≡ next r
next-forgotten r = length-front-fade (suc r.delivered) r.taken

next-forgets : (e : Endpoint) (how : TakeChoice) (m : Emission) → next (receive_after (forget_endpoint e) how m) ≡ next (receive_after e how m)
next-forgets e how m =
    sym (next-forgotten (receive_after (forget_endpoint e) how m)) ∙ (ap next (receive-forgets e how m) ∙ next-forgotten (receive_after e how m))

-- when text last raised the next position is not forgotten
text-forget : (e : Endpoint) (how : TakeChoice) (m : Emission) (moment : ℕ)
    → text_after_segment (forget_endpoint e) how m moment ≡ text_after_segment e how m moment
text-forget e how m moment = rw (next-forgets e how m, rcv_nxt-forget e) refl

-- whether the peer's FIN was passed is not forgotten
ended-forgotten : (r : Receiving) → is_ended (forgotten r) ≡ is_ended r
ended-forgotten r = rw (length-front-fade (suc r.delivered) r.taken) (is_fin-fade (suc r.delivered) r.taken (length (front r.taken) - 1))

ended-forgets : (e : Endpoint) (how : TakeChoice) (m : Emission) → is_ended (receive_after (forget_endpoint e) how m) ≡ is_ended (receive_after e how m)
ended-forgets e how m =
    sym (ended-forgotten (receive_after (forget_endpoint e) how m)) ∙ (ap is_ended (receive-forgets e how m) ∙ ended-forgotten (receive_after e how m))

acknowledged-forget : (state : State) (e : Endpoint) (m : Emission) → acknowledged state (forget_endpoint e) m ≡ acknowledged state e m
acknowledged-forget states.FinWait1 e m = rw (end_of-forget e) refl
acknowledged-forget states.Closing e m = rw (end_of-forget e) refl
acknowledged-forget states.LastAck e m = rw (end_of-forget e) refl
acknowledged-forget _ e m = refl

state-forget : (e : Endpoint) (how : TakeChoice) (m : Emission) → state_after_segment (forget_endpoint e) how m ≡ state_after_segment e how m
state-forget e how m = rw (acknowledged-forget e.state e m, ended-forgets e how m) refl

-- a sample is of a position that is not acknowledged
timeout-forget : (h : Header) (e : Endpoint) (sample : Bool) (ack : ℕ) (syn : Bool) (moment : ℕ) → (sample ≡ true → e.stream.snd_una ≤ ack - 1)
    → timeout_after_ack h (forget_endpoint e) sample ack syn moment ≡ timeout_after_ack h e sample ack syn moment
timeout-forget h e false ack syn moment unacked = refl
timeout-forget h e true ack syn moment unacked = rw (get-covered (once 0) e.stream.snd_una (ack - 1) e.transmissions (unacked refl)) refl

unacked : (e : Endpoint) (how : TakeChoice) (m : Emission) → (how.sample && is_new_ack e m) ≡ true → e.stream.snd_una ≤ m.ack - 1
unacked e how m new = grind (arith, nat_tests, new)

timers-forget : (h : Header) (e : Endpoint) (how : TakeChoice) (m : Emission) (moment : ℕ)
    → timers_after_segment h (forget_endpoint e) how m moment ≡ timers_after_segment h e how m moment
timers-forget h e how m moment =
    rw (state-forget e how m, timeout-forget h e (how.sample && is_new_ack e m) m.ack (acknowledges_syn e m) moment (unacked e how m), snd_max-forget e) refl

pub taken-forgets : (h : Header) (how : TakeChoice) (m : Emission) (moment : ℕ) → Forgets (λ e. taken h e how m moment)
taken-forgets h how m moment e =
    let snd_una = e.stream.snd_una in
    rw (
      timers-forget h e how m moment,
      state-forget e how m,
      text-forget e how m moment,
      receive-forgets e how m,
      snd_max-forget e,
      covered-covered 0 (snd_una - 1) (max snd_una m.ack - 1) e.stream.accepted (omega arith),
      covered-covered (once 0) snd_una (max snd_una m.ack) e.transmissions (omega arith),
    ) refl

-- the SYN is sampled while it is not acknowledged
syn_unacked : (e : Endpoint) (how : TakeChoice) (m : Emission) → (how.sample && m.flags.ack && e.stream.snd_una == 0) ≡ true → e.stream.snd_una ≤ 1 - 1
syn_unacked e how m new = grind (arith, nat_tests, new)

timers_after_syn-forget : (h : Header) (e : Endpoint) (how : TakeChoice) (m : Emission) (moment : ℕ)
    → timers_after_syn h (forget_endpoint e) how m moment ≡ timers_after_syn h e how m moment
timers_after_syn-forget h e how m moment =
    rw (timeout-forget h e (how.sample && m.flags.ack && e.stream.snd_una == 0) 1 m.flags.ack moment (syn_unacked e how m), snd_max-forget e) refl

una_rises : (e : Endpoint) (m : Emission) → e.stream.snd_una ≤ snd_una_after_syn e m
una_rises e m = by m.flags.ack
  where
    by : (ack : Bool) → e.stream.snd_una ≤ (if ack then max e.stream.snd_una 1 else e.stream.snd_una)
    by true = omega arith
    by false = omega arith

pub met-forgets : (h : Header) (how : TakeChoice) (m : Emission) (moment : ℕ) → Forgets (λ e. on_syn h e how m moment)
met-forgets h how m moment e =
    let snd_una = e.stream.snd_una in
    let higher = una_rises e m in
    rw (
      timers_after_syn-forget h e how m moment,
      snd_max-forget e,
      covered-covered 0 (snd_una - 1) (snd_una_after_syn e m - 1) e.stream.accepted (omega arith),
      covered-covered (once 0) snd_una (snd_una_after_syn e m) e.transmissions higher,
    ) refl

fault-forget : (state : State) (e : Endpoint) → reset_fault state (forget_endpoint e) ≡ reset_fault state e
fault-forget states.SynReceived e = refl
fault-forget _ e = refl

pub reset-forgets : (how : TakeChoice) (moment : ℕ) → Forgets (λ e. was_reset e how moment)
reset-forgets how moment = forgets (λ e. was_reset e how moment) (λ e. rw (fault-forget e.state e) refl)

pub endpoint-forgets : (h : Header) (how : TakeChoice) (m : Emission) (moment : ℕ) → Forgets (λ e. endpoint_taken h e how m moment)
endpoint-forgets h how m moment e = by m.flags.rst (is_syn_sent e.state)
  where
    by : (rst sent : Bool)
        → forget_endpoint (if rst then was_reset (forget_endpoint e) how moment else if sent
        then on_syn h (forget_endpoint e) how m moment else taken h (forget_endpoint e) how m moment)
        ≡ forget_endpoint (if rst then was_reset e how moment else if sent then on_syn h e how m moment else taken h e how m moment)
    by true sent = reset-forgets how moment e
    by false true = met-forgets h how m moment e
    by false false = taken-forgets h how m moment e
