-- Effects at one endpoint leave its ports and its listener, so that it is found as before.
use Rattle.std.proofs.Common.{◌≡◌, ℕ, ◌<◌, Bool, true, false, List, Option, None, length, get_or, nat_eq, refl, ap, subst, ◌&&◌, ◌∙◌}
use Rattle.std.specs.Prelude.{if◌then◌else◌, slice_set}
use Rattle.std.specs.List.{All}
use Rattle.std.proofs.lemmas.Option.{none-some}
use Rattle.case_forms.specs.declared.timer.RecoveryChange.{RecoveryChange}
use Rattle.case_forms.specs.declared.trace.Header.{Header}
use Rattle.spec_tcp.specs.declared.endpoint.Endpoint.{Endpoint}
use Rattle.spec_tcp.specs.declared.endpoint.Emission.{Emission}
use Rattle.case_forms.specs.declared.steps.SegmentPlan.{SegmentPlan}
use Rattle.case_forms.specs.declared.steps.TakeChoice.{TakeChoice}
use Rattle.case_forms.specs.States.{is_syn_sent}
use Rattle.spec_tcp.specs.Bounds.{HasRoom}
use Rattle.spec_tcp.specs.Calls.Send.{after_send}
use Rattle.spec_tcp.specs.Calls.Receive.{after_recv}
use Rattle.spec_tcp.specs.Calls.Close.{shut_down, after_ending, after_shut, after_close, after_abort}
use Rattle.spec_tcp.specs.Makes.{endpoint_made, after_making}
use Rattle.spec_tcp.specs.Arrives.OtherStates.{taken}
use Rattle.spec_tcp.specs.Arrives.OtherStates.Reset.{was_reset}
use Rattle.spec_tcp.specs.Arrives.SynSent.{on_syn}
use Rattle.spec_tcp.specs.Arrives.{endpoint_taken}
use Rattle.case_forms.specs.declared.taken_line.Expired.{Expired}
use Rattle.case_forms.specs.declared.taken_line.Expired.TheVariants.{Giveup, Msl2, Persist, Pto, Rto}
use Rattle.spec_tcp.specs.Timeouts.{after_expiry}
use Rattle.spec_tcp.specs.Recovery.{after_recovery}
use Rattle.spec_tcp.specs.Forgetting.{forget_endpoint}
use Rattle.endpoint_state.specs.Indexes.{IsIndexed}
use Rattle.endpoint_state.specs.Changes.{Keeps, changed}
use Rattle.endpoint_state.proofs.IndexLemmas.{indexed_modify}
use Rattle.endpoint_state.proofs.Forgotten.{changed_at, modify_forgets}

pub keeps_same : (e : Endpoint) → Keeps e e
keeps_same e = record { lport = refl; rport = refl; listener = λ l is. is }

-- the index stays, where one endpoint changes so
pub indexed_changed : (find : ℕ → ℕ → Option ℕ) (child : ℕ → ℕ → Bool) (es : List Endpoint) → IsIndexed find child es
    → All HasRoom es → (i : ℕ) (f : Endpoint → Endpoint) → ((e : Endpoint) → Keeps e (f e))
    → IsIndexed find child (changed es i f)
indexed_changed find child es index room i f keeps = rw (modify_forgets es i f room)
    (indexed_modify find child es index i (λ e. forget_endpoint (f e))
    (λ l r e. ap (λ (p : ℕ). nat_eq p l && nat_eq (f e).rport r) (keeps e).lport
    ∙ ap (λ (p : ℕ). nat_eq e.lport l && nat_eq p r) (keeps e).rport) (λ l e is. (keeps e).listener l is))

pub keeps_made : (e : Endpoint) (m : SegmentPlan) (moment : ℕ) → Keeps e (after_making e m moment)
keeps_made e m moment = by m.flags.rst
  where
    by : (b : Bool) → Keeps e (if b then record (shut_down (endpoint_made e m moment)) { reset_due = false } else endpoint_made e m moment)
    by true = record { lport = refl; rport = refl; listener = λ l is. is }
    by false = record { lport = refl; rport = refl; listener = λ l is. is }

pub keeps_expired : (e : Endpoint) (x : Expired) (moment : ℕ) → Keeps e (after_expiry e x moment)
keeps_expired e (Rto growth) moment = record { lport = refl; rport = refl; listener = λ l is. is }
keeps_expired e Persist moment = record { lport = refl; rport = refl; listener = λ l is. is }
keeps_expired e Msl2 moment = record { lport = refl; rport = refl; listener = λ l is. is }
keeps_expired e Giveup moment = record { lport = refl; rport = refl; listener = λ l is. is }
keeps_expired e Pto moment = record { lport = refl; rport = refl; listener = λ l is. is }

pub keeps_recovered : (e : Endpoint) (change : RecoveryChange) (cwnd ssthresh moment : ℕ) → Keeps e (after_recovery e change cwnd ssthresh moment)
keeps_recovered e change cwnd ssthresh moment = record { lport = refl; rport = refl; listener = λ l is. is }

pub keeps_taken : (h : Header) (e : Endpoint) (how : TakeChoice) (m : Emission) (moment : ℕ) → Keeps e (endpoint_taken h e how m moment)
keeps_taken h e how m moment = by m.flags.rst (is_syn_sent e.state)
  where
    by : (b c : Bool) → Keeps e (if b then was_reset e how moment else if c then on_syn h e how m moment else taken h e how m moment)
    by true c = record { lport = refl; rport = refl; listener = λ l is. is }
    by false true = record { lport = refl; rport = refl; listener = λ l is. is }
    by false false = record { lport = refl; rport = refl; listener = λ l is. is }

pub keeps_shut : (e : Endpoint) → Keeps e (after_shut e)
keeps_shut e = by (is_syn_sent e.state)
  where
    by : (b : Bool) → Keeps e (if b then shut_down (record e { stream = record e.stream { ended = true } }) else after_ending e)
    by true = record { lport = refl; rport = refl; listener = λ l is. is }
    by false = record { lport = refl; rport = refl; listener = λ l is. is }

pub keeps_close : (e : Endpoint) → Keeps e (after_close e)
keeps_close e = by (is_syn_sent e.state)
  where
    by : (b : Bool) → Keeps e (record (if b then shut_down (record e { stream = record e.stream { ended = true } }) else after_ending e) { closed = true })
    by true = record { lport = refl; rport = refl; listener = λ l is. is }
    by false = record { lport = refl; rport = refl; listener = λ l is. is }

pub keeps_abort : (e : Endpoint) → Keeps e (after_abort e)
keeps_abort e = record { lport = refl; rport = refl; listener = λ l is. is }

pub keeps_sent : (bytes : List ℕ) (n : ℕ) (e : Endpoint) → Keeps e (after_send bytes n e)
keeps_sent bytes n e = record { lport = refl; rport = refl; listener = λ l is. is }

pub keeps_received : (bytes : List ℕ) (e : Endpoint) → Keeps e (after_recv bytes e)
keeps_received bytes e = record { lport = refl; rport = refl; listener = λ l is. is }

pub keeps_accepted : (e : Endpoint) → Keeps e (record e { listener = None })
keeps_accepted e = record { lport = refl; rport = refl; listener = λ l is. absurd (none-some l is) }

-- the endpoint read at a place, changed and written back, is found as before
pub indexed_at : (find : ℕ → ℕ → Option ℕ) (child : ℕ → ℕ → Bool) (es now : List Endpoint) (i : ℕ) (x y : Endpoint)
    (f : Endpoint → Endpoint) → IsIndexed find child es → es ≡ now → All HasRoom now → i < length es
    → x ≡ get_or es i x → y ≡ forget_endpoint (f x)
    → ((e : Endpoint) → Keeps e (f e)) → IsIndexed find child (slice_set es i y)
indexed_at find child es now i x y f index is room within read new keeps =
    rw (changed_at es now i x y f is room within read new)
    (indexed_changed find child now
    (subst (λ (es : List Endpoint). IsIndexed find child es) is index) room i f keeps)
