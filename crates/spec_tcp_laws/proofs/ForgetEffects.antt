-- What an endpoint has after an effect: the same is kept of it, whether or not something was discarded before.
use Rattle.std.proofs.Common.{◌≡◌, ℕ, suc, ◌+◌, ◌-◌, Bool, true, false, List, None, length, take, replicate, refl, ap, ◌∙◌, arith}
use Rattle.std.specs.Prelude.{◌==◌, if◌then◌else◌}
use Rattle.std.specs.Option.{option_map_or}
use Rattle.streams.specs.Transmissions.{once}
use Rattle.streams.proofs.Covers.{covered-append, covered-covered}
use Rattle.streams.proofs.Fades.{below-mark, fade-fade}
use Rattle.spec_tcp.specs.declared.endpoint.Endpoint.{Endpoint}
use Rattle.spec_tcp.specs.Calls.Send.{after_send}
use Rattle.spec_tcp.specs.Calls.Receive.{after_recv}
use Rattle.spec_tcp.specs.Calls.Close.{shut_down, after_ending, after_shut, after_close, after_abort, orphaned}
use Rattle.case_forms.specs.States.{is_syn_sent}
use Rattle.case_forms.specs.declared.timer.RecoveryChange.{RecoveryChange}
use Rattle.case_forms.specs.declared.timer.RecoveryChange.TheVariants.{Begins, IsUndone}
use Rattle.case_forms.specs.declared.steps.SegmentPlan.{SegmentPlan}
use Rattle.spec_tcp.specs.Makes.Payload.{making_length}
use Rattle.spec_tcp.specs.Makes.{endpoint_made, after_making}
use Rattle.case_forms.specs.declared.taken_line.Expired.{Expired}
use Rattle.case_forms.specs.declared.taken_line.Expired.TheVariants.{Giveup, Msl2, Persist, Pto, Rto}
use Rattle.spec_tcp.specs.Timeouts.{after_expiry}
use Rattle.spec_tcp.specs.Recovery.{after_recovery}
use Rattle.spec_tcp.specs.Forgetting.{forget_endpoint}
use Rattle.spec_tcp_laws.proofs.ForgetReads.{rcv_nxt-forget, snd_max-forget, forget-forget}

-- an effect leaves the same of what is kept
abbrev pub Forgets : (Endpoint → Endpoint) → Type 0
Forgets f = (e : Endpoint) → forget_endpoint (f (forget_endpoint e)) ≡ forget_endpoint (f e)

-- it does so where it is the same before and after forgetting
pub forgets : (f : Endpoint → Endpoint) → ((e : Endpoint) → f (forget_endpoint e) ≡ forget_endpoint (f e)) → Forgets f
forgets f same e = ap forget_endpoint (same e) ∙ forget-forget (f e)

shut_same : (e : Endpoint) → after_shut (forget_endpoint e) ≡ forget_endpoint (after_shut e)
shut_same e = by (is_syn_sent e.state)
  where
    by : (b : Bool)
        → (if b then shut_down (record (forget_endpoint e) { stream = record (forget_endpoint e).stream { ended = true } })
        else after_ending (forget_endpoint e))
        ≡ forget_endpoint (if b then shut_down (record e { stream = record e.stream { ended = true } }) else after_ending e)
    by true = refl
    by false = refl

close_same : (e : Endpoint) → after_close (forget_endpoint e) ≡ forget_endpoint (after_close e)
close_same e = by (is_syn_sent e.state)
  where
    by : (b : Bool)
        → (let x : Endpoint = record (if b
        then shut_down (record (forget_endpoint e) { stream = record (forget_endpoint e).stream { ended = true } })
        else after_ending (forget_endpoint e)) { closed = true } in x)
        ≡ forget_endpoint (record (if b then shut_down (record e { stream = record e.stream { ended = true } }) else after_ending e) { closed = true })
    by true = refl
    by false = refl

abort_same : (e : Endpoint) → after_abort (forget_endpoint e) ≡ forget_endpoint (after_abort e)
abort_same e = refl

orphaned_same : (l : ℕ) (e : Endpoint) → orphaned l (forget_endpoint e) ≡ forget_endpoint (orphaned l e)
orphaned_same l e = by (option_map_or (λ holder. holder == l) e.listener false)
  where
    by : (b : Bool) → (if b then after_abort (forget_endpoint e) else forget_endpoint e) ≡ forget_endpoint (if b then after_abort e else e)
    by true = refl
    by false = refl

pub shut-forgets : Forgets after_shut
shut-forgets = forgets after_shut shut_same

pub close-forgets : Forgets after_close
close-forgets = forgets after_close close_same

pub abort-forgets : Forgets after_abort
abort-forgets = forgets after_abort abort_same

pub orphaned-forgets : (l : ℕ) → Forgets (orphaned l)
orphaned-forgets l = forgets (orphaned l) (orphaned_same l)

pub adopted-forgets : Forgets (λ e. record e { listener = None })
adopted-forgets = forgets (λ e. record e { listener = None }) (λ e. refl)

pub send-forgets : (bytes : List ℕ) (n : ℕ) → Forgets (after_send bytes n)
send-forgets bytes n e =
    let snd_una = e.stream.snd_una in
    rw (
      covered-append 0 (snd_una - 1) e.stream.accepted (take n bytes),
      covered-covered (once 0) snd_una snd_una e.transmissions (omega arith),
      fade-fade (suc e.stream.receive.delivered) (suc e.stream.receive.delivered) e.stream.receive.taken (omega arith),
    ) refl

pub recv-forgets : (bytes : List ℕ) → Forgets (after_recv bytes)
recv-forgets bytes e =
    let snd_una = e.stream.snd_una in
    rw (
      covered-covered 0 (snd_una - 1) (snd_una - 1) e.stream.accepted (omega arith),
      covered-covered (once 0) snd_una snd_una e.transmissions (omega arith),
      fade-fade (suc e.stream.receive.delivered) (suc (e.stream.receive.delivered + length bytes)) e.stream.receive.taken (omega arith),
    ) refl

made-forgets : (m : SegmentPlan) (moment : ℕ) → Forgets (λ e. endpoint_made e m moment)
made-forgets m moment e =
    let snd_una = e.stream.snd_una in
    let old = length e.transmissions in
    rw (
      rcv_nxt-forget e,
      snd_max-forget e,
      covered-covered 0 (snd_una - 1) (snd_una - 1) e.stream.accepted (omega arith),
      below-mark snd_una m.pos (making_length m) e.transmissions (replicate (m.pos + making_length m - old) (once moment)),
      fade-fade (suc e.stream.receive.delivered) (suc e.stream.receive.delivered) e.stream.receive.taken (omega arith),
    ) refl

-- a reset that is made
abbrev reset_made : Endpoint → Endpoint
reset_made e = record (shut_down e) { reset_due = false }

pub making-forgets : (m : SegmentPlan) (moment : ℕ) → Forgets (λ e. after_making e m moment)
making-forgets m moment e = by m.flags.rst
  where
    by : (b : Bool) → forget_endpoint (if b then reset_made (endpoint_made (forget_endpoint e) m moment) else endpoint_made (forget_endpoint e) m moment)
        ≡ forget_endpoint (if b then reset_made (endpoint_made e m moment) else endpoint_made e m moment)
    by true = ap reset_made (made-forgets m moment e)
    by false = made-forgets m moment e

expiry_same : (x : Expired) (moment : ℕ) (e : Endpoint) → after_expiry (forget_endpoint e) x moment ≡ forget_endpoint (after_expiry e x moment)
expiry_same (Rto growth) moment e = rw (snd_max-forget e) refl
expiry_same Persist moment e = rw (snd_max-forget e) refl
expiry_same Msl2 moment e = refl
expiry_same Giveup moment e = refl
expiry_same Pto moment e = refl

pub expiry-forgets : (x : Expired) (moment : ℕ) → Forgets (λ e. after_expiry e x moment)
expiry-forgets x moment = forgets (λ e. after_expiry e x moment) (expiry_same x moment)

pub recovery-forgets : (change : RecoveryChange) (cwnd ssthresh moment : ℕ) → Forgets (λ e. after_recovery e change cwnd ssthresh moment)
recovery-forgets Begins cwnd ssthresh moment = forgets (λ e. after_recovery e Begins cwnd ssthresh moment) (λ e. rw (snd_max-forget e) refl)
recovery-forgets IsUndone cwnd ssthresh moment = forgets (λ e. after_recovery e IsUndone cwnd ssthresh moment) (λ e. refl)
