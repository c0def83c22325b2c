-- What an endpoint has after an effect doesn't depend on its profile, which stays as it is.
use Rattle.std.proofs.Common.{◌≡◌, ℕ, Bool, true, false, List, None, refl, ap, if◌then◌else◌}
use Rattle.std.specs.Prelude.{◌==◌}
use Rattle.std.specs.Option.{option_map_or}
use Rattle.case_forms.specs.States.{is_syn_sent}
use Rattle.case_forms.specs.declared.timer.RecoveryChange.{RecoveryChange}
use Rattle.case_forms.specs.declared.timer.RecoveryChange.TheVariants.{Begins, IsUndone}
use Rattle.case_forms.specs.declared.calls.State.{State}
use Rattle.case_forms.specs.declared.calls.State.TheVariants as states
use Rattle.case_forms.specs.declared.steps.SegmentPlan.{SegmentPlan}
use Rattle.case_forms.specs.declared.steps.TakeChoice.{TakeChoice}
use Rattle.case_forms.specs.declared.taken_line.Expired.{Expired}
use Rattle.case_forms.specs.declared.taken_line.Expired.TheVariants.{Giveup, Msl2, Persist, Pto, Rto}
use Rattle.case_forms.specs.declared.trace.Header.{Header}
use Rattle.case_forms.specs.declared.version.Judged.{Judged}
use Rattle.window_rules.specs.declared.control.Control.{Control}
use Rattle.window_rules.specs.declared.control.Profile.{Profile}
use Rattle.window_rules.specs.declared.control.Signal.TheVariants.{Other}
use Rattle.window_rules.proofs.Judging.{not_read}
use Rattle.spec_tcp.specs.declared.endpoint.Emission.{Emission}
use Rattle.spec_tcp.specs.declared.endpoint.Endpoint.{Endpoint}
use Rattle.spec_tcp.specs.Arrives.{endpoint_taken}
use Rattle.spec_tcp.specs.Arrives.Listen.{child}
use Rattle.spec_tcp.specs.Arrives.OtherStates.{taken}
use Rattle.spec_tcp.specs.Arrives.OtherStates.Ack.{acknowledged}
use Rattle.spec_tcp.specs.Arrives.OtherStates.Reset.{reset_fault, was_reset}
use Rattle.spec_tcp.specs.Arrives.SynSent.{on_syn}
use Rattle.spec_tcp.specs.Calls.Close.{after_abort, after_close, after_ending, after_shut, orphaned, shut_down}
use Rattle.spec_tcp.specs.Calls.Receive.{after_recv}
use Rattle.spec_tcp.specs.Calls.Send.{after_send}
use Rattle.spec_tcp.specs.Makes.{after_making, endpoint_made}
use Rattle.spec_tcp.specs.Recovery.{after_recovery}
use Rattle.spec_tcp.specs.Signals.{at_moment, recovery_signal, signal_of, timeout_signal}
use Rattle.spec_tcp.specs.Timeouts.{after_expiry, after_rto}
use Rattle.spec_tcp_laws.specs.Judging.{endpoint_by, header_by}

-- the effect is the same by another profile
abbrev pub Keeps : Profile → (f g : Endpoint → Endpoint) → Type 0
Keeps p f g = (e : Endpoint) → f (endpoint_by p e) ≡ endpoint_by p (g e)

pub shut_kept : (p : Profile) → Keeps p after_shut after_shut
shut_kept p e = by (is_syn_sent e.state)
  where
    by : (b : Bool)
        → (if b then shut_down (record (endpoint_by p e) { stream = record (endpoint_by p e).stream { ended = true } }) else after_ending (endpoint_by p e))
        ≡ endpoint_by p (if b then shut_down (record e { stream = record e.stream { ended = true } }) else after_ending e)
    by true = refl
    by false = refl

pub close_kept : (p : Profile) → Keeps p after_close after_close
close_kept p e = by (is_syn_sent e.state)
  where
    by : (b : Bool)
        → (let x : Endpoint =
        record (if b then shut_down (record (endpoint_by p e) { stream = record (endpoint_by p e).stream { ended = true } })
        else after_ending (endpoint_by p e))
        { closed = true } in x)
        ≡ endpoint_by p (record (if b then shut_down (record e { stream = record e.stream { ended = true } }) else after_ending e) { closed = true })
    by true = refl
    by false = refl

pub abort_kept : (p : Profile) → Keeps p after_abort after_abort
abort_kept p e = refl

pub orphaned_kept : (p : Profile) (l : ℕ) → Keeps p (orphaned l) (orphaned l)
orphaned_kept p l e = by (option_map_or (λ holder. holder == l) e.listener false)
  where
    by : (b : Bool) → (if b then after_abort (endpoint_by p e) else endpoint_by p e) ≡ endpoint_by p (if b then after_abort e else e)
    by true = refl
    by false = refl

pub adopted_kept : (p : Profile) → Keeps p (λ e. record e { listener = None }) (λ e. record e { listener = None })
adopted_kept p e = refl

pub send_kept : (p : Profile) (bytes : List ℕ) (n : ℕ) → Keeps p (after_send bytes n) (after_send bytes n)
send_kept p bytes n e = refl

pub recv_kept : (p : Profile) (bytes : List ℕ) → Keeps p (after_recv bytes) (after_recv bytes)
recv_kept p bytes e = refl

-- a reset that is made
abbrev reset_made : Endpoint → Endpoint
reset_made e = record (shut_down e) { reset_due = false }

pub making_kept : (p : Profile) (m : SegmentPlan) (moment : ℕ) → Keeps p (λ e. after_making e m moment) (λ e. after_making e m moment)
making_kept p m moment e = by m.flags.rst
  where
    by : (b : Bool) → (if b then reset_made (endpoint_made (endpoint_by p e) m moment) else endpoint_made (endpoint_by p e) m moment)
        ≡ endpoint_by p (if b then reset_made (endpoint_made e m moment) else endpoint_made e m moment)
    by true = refl
    by false = refl

pub expiry_kept : (p : Profile) (x : Expired) (moment : ℕ) → Keeps p (λ e. after_expiry e x moment) (λ e. after_expiry e x moment)
expiry_kept p (Rto growth) moment e =
    ap (λ (c : Control). record (after_rto e growth moment) { control = c })
    (not_read e.control p (timeout_signal e) (at_moment e moment) growth.cwnd growth.ssthresh)
expiry_kept p Persist moment e = refl
expiry_kept p Msl2 moment e = refl
expiry_kept p Giveup moment e = refl
expiry_kept p Pto moment e = refl

pub recovery_kept : (p : Profile) (change : RecoveryChange) (cwnd ssthresh moment : ℕ)
    → Keeps p (λ e. after_recovery e change cwnd ssthresh moment) (λ e. after_recovery e change cwnd ssthresh moment)
recovery_kept p Begins cwnd ssthresh moment e =
    ap (λ (c : Control). record (after_recovery e Begins cwnd ssthresh moment) { control = c })
    (not_read e.control p (recovery_signal e ssthresh) (at_moment e moment) cwnd ssthresh)
recovery_kept p IsUndone cwnd ssthresh moment e = refl

acknowledged_same : (p : Profile) (state : State) (e : Endpoint) (m : Emission) → acknowledged state (endpoint_by p e) m ≡ acknowledged state e m
acknowledged_same p states.SynReceived e m = refl
acknowledged_same p states.FinWait1 e m = refl
acknowledged_same p states.Closing e m = refl
acknowledged_same p states.LastAck e m = refl
acknowledged_same p _ e m = refl

fault_same : (p : Profile) (state : State) (e : Endpoint) → reset_fault state (endpoint_by p e) ≡ reset_fault state e
fault_same p states.SynReceived e = refl
fault_same p _ e = refl

pub reset_kept : (p : Profile) (how : TakeChoice) (moment : ℕ) → Keeps p (λ e. was_reset e how moment) (λ e. was_reset e how moment)
reset_kept p how moment e =
    rw (fault_same p e.state e)
    (ap (λ (c : Control). record (was_reset e how moment) { control = c })
    (not_read e.control p Other (at_moment e moment) how.cwnd e.control.values.ssthresh))

pub met_kept : (p : Profile) (j : Judged) (h : Header) (how : TakeChoice) (m : Emission) (moment : ℕ)
    → Keeps p (λ e. on_syn (header_by j h) e how m moment) (λ e. on_syn h e how m moment)
met_kept p j h how m moment e =
    ap (λ (c : Control). record (on_syn h e how m moment) { control = c })
    (not_read e.control p (signal_of e m) (at_moment e moment) how.cwnd e.control.values.ssthresh)

pub taken_kept : (p : Profile) (j : Judged) (h : Header) (how : TakeChoice) (m : Emission) (moment : ℕ)
    → Keeps p (λ e. taken (header_by j h) e how m moment) (λ e. taken h e how m moment)
taken_kept p j h how m moment e =
    rw (acknowledged_same p e.state e m)
    (ap (λ (c : Control). record (taken h e how m moment) { control = c })
    (not_read e.control p (signal_of e m) (at_moment e moment) how.cwnd e.control.values.ssthresh))

pub endpoint_kept : (p : Profile) (j : Judged) (h : Header) (how : TakeChoice) (m : Emission) (moment : ℕ)
    → Keeps p (λ e. endpoint_taken (header_by j h) e how m moment) (λ e. endpoint_taken h e how m moment)
endpoint_kept p j h how m moment e = by m.flags.rst (is_syn_sent e.state)
  where
    g : Header
    g = header_by j h

    by : (rst sent : Bool)
        → (if rst then was_reset (endpoint_by p e) how moment else if sent then on_syn g (endpoint_by p e) how m moment else taken g (endpoint_by p e) how m
        moment)
        ≡ endpoint_by p (if rst then was_reset e how moment else if sent then on_syn h e how m moment else taken h e how m moment)
    by true sent = reset_kept p how moment e
    by false true = met_kept p j h how m moment e
    by false false = taken_kept p j h how m moment e

-- a child begins with the profile that it is given
pub child_by : (p q : Profile) (l : ℕ) (how : TakeChoice) (m : Emission) (moment : ℕ) → child p l how m moment ≡ endpoint_by p (child q l how m moment)
child_by p q l how m moment = refl
