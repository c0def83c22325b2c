-- What is said of an endpoint's counts holds of it after each effect, with one step more.
use Rattle.std.proofs.Common.{◌≡◌, ℕ, suc, ◌^◌, ◌<◌, Bool, true, false, List, [], ◌∷◌, None, length, take, refl, sym, subst, ◌∙◌, arith}
use Rattle.std.specs.Prelude.{◌==◌, ◌&&◌, nat_le, if◌then◌else◌}
use Rattle.std.specs.Option.{option_map_or}
use Rattle.std.proofs.lemmas.List.{length-append, length-take}
use Rattle.case_forms.specs.declared.timer.RecoveryChange.{RecoveryChange}
use Rattle.case_forms.specs.declared.timer.RecoveryChange.TheVariants.{Begins, IsUndone}
use Rattle.case_forms.specs.declared.version.Version.{Version}
use Rattle.case_forms.specs.declared.calls.State.{State}
use Rattle.case_forms.specs.declared.calls.State.TheVariants as states
use Rattle.case_forms.specs.declared.calls.Answer.TheVariants as answers
use Rattle.streams.specs.Received as received
use Rattle.window_rules.proofs.ControlLemmas.{counts_stay}
use Rattle.spec_tcp.specs.Signals.{at_moment, recovery_signal, timeout_signal}
use Rattle.spec_tcp.specs.declared.endpoint.Endpoint.{Endpoint}
use Rattle.case_forms.specs.States.{is_closed, is_syn_sent}
use Rattle.spec_tcp.specs.Calls.Receive.{recv_allows, after_recv}
use Rattle.spec_tcp.specs.Calls.Send.{after_send}
use Rattle.spec_tcp.specs.Calls.Close.{shut_down, ended_state, after_ending, after_shut, after_close, after_abort, orphaned}
use Rattle.case_forms.specs.declared.steps.SegmentPlan.{SegmentPlan}
use Rattle.spec_tcp.specs.Makes.{endpoint_made, after_making}
use Rattle.case_forms.specs.declared.taken_line.Expired.{Expired}
use Rattle.case_forms.specs.declared.taken_line.Expired.TheVariants.{Giveup, Msl2, Persist, Pto, Rto}
use Rattle.spec_tcp.specs.Timeouts.{after_expiry}
use Rattle.spec_tcp.specs.Recovery.{after_recovery}
use Rattle.endpoint_state.proofs.Forgets.{IsBounded, bounded_later}

-- 1. calls

shut : (steps : ℕ) (e : Endpoint) → IsBounded steps e → IsBounded steps (shut_down e)
shut steps e b =
    record {
      snd_una = b.snd_una;
      counts = b.counts;
      unanswered_expiries = b.unanswered_expiries;
      backoffs = b.backoffs;
      accepted = b.accepted;
      met = λ sent closed. absurd cc;
      unmet = λ sent. absurd cc;
    }

ended_sent : (s : State) → is_syn_sent (ended_state s) ≡ is_syn_sent s
ended_sent states.Established = refl
ended_sent states.CloseWait = refl
ended_sent _ = refl

ended_closed : (s : State) → is_closed (ended_state s) ≡ is_closed s
ended_closed states.Established = refl
ended_closed states.CloseWait = refl
ended_closed _ = refl

ending_sending : (steps : ℕ) (e : Endpoint) → IsBounded steps e → IsBounded steps (after_ending e)
ending_sending steps e b =
    record {
      snd_una = b.snd_una;
      counts = b.counts;
      unanswered_expiries = b.unanswered_expiries;
      backoffs = b.backoffs;
      accepted = b.accepted;
      met = λ sent closed. b.met (sym (ended_sent e.state) ∙ sent) (sym (ended_closed e.state) ∙ closed);
      unmet = λ sent. b.unmet (sym (ended_sent e.state) ∙ sent);
    }

-- the sending was ended, and nothing else
ending : (steps : ℕ) (e : Endpoint) → IsBounded steps e → IsBounded steps (record e { stream = record e.stream { ended = true } })
ending steps e b =
    record {
      snd_una = b.snd_una;
      counts = b.counts;
      unanswered_expiries = b.unanswered_expiries;
      backoffs = b.backoffs;
      accepted = b.accepted;
      met = b.met;
      unmet = b.unmet;
    }

-- what changes here is not spoken of
closing : (steps : ℕ) (e : Endpoint) → IsBounded steps e → IsBounded steps (record e { closed = true })
closing steps e b =
    record {
      snd_una = b.snd_una;
      counts = b.counts;
      unanswered_expiries = b.unanswered_expiries;
      backoffs = b.backoffs;
      accepted = b.accepted;
      met = b.met;
      unmet = b.unmet;
    }

due : (steps : ℕ) (e : Endpoint) (c : Bool) → IsBounded steps e → IsBounded steps (record e { reset_due = c })
due steps e c b =
    record {
      snd_una = b.snd_una;
      counts = b.counts;
      unanswered_expiries = b.unanswered_expiries;
      backoffs = b.backoffs;
      accepted = b.accepted;
      met = b.met;
      unmet = b.unmet;
    }

either : (steps : ℕ) (c : Bool) (x y : Endpoint) → IsBounded steps x → IsBounded steps y → IsBounded steps (if c then x else y)
either steps true x y p q = p
either steps false x y p q = q

shut_sending : (steps : ℕ) (e : Endpoint) → IsBounded steps e → IsBounded steps (after_shut e)
shut_sending steps e b =
    let gone : Endpoint = record e { stream = record e.stream { ended = true } } in
    either steps (is_syn_sent e.state) (shut_down gone) (after_ending e) (shut steps gone (ending steps e b)) (ending_sending steps e b)

close_bounded : (steps : ℕ) (e : Endpoint) → IsBounded steps e → IsBounded steps (after_close e)
close_bounded steps e b = closing steps (after_shut e) (shut_sending steps e b)

abort_bounded : (steps : ℕ) (e : Endpoint) → IsBounded steps e → IsBounded steps (after_abort e)
abort_bounded steps e b = due steps (shut_down e) _ (shut steps e b)

orphan_bounded : (steps l : ℕ) (e : Endpoint) → IsBounded steps e → IsBounded steps (orphaned l e)
orphan_bounded steps l e b = either steps (option_map_or (λ holder. holder == l) e.listener false) (after_abort e) e (abort_bounded steps e b) b

adopted_bounded : (steps : ℕ) (e : Endpoint) → IsBounded steps e → IsBounded steps (record e { listener = None })
adopted_bounded steps e b =
    record {
      snd_una = b.snd_una;
      counts = b.counts;
      unanswered_expiries = b.unanswered_expiries;
      backoffs = b.backoffs;
      accepted = b.accepted;
      met = b.met;
      unmet = b.unmet;
    }

pub after_shut_bounded : (steps : ℕ) (e : Endpoint) → IsBounded steps e → IsBounded (suc steps) (after_shut e)
after_shut_bounded steps e b = bounded_later steps (after_shut e) (shut_sending steps e b)

pub after_close_bounded : (steps : ℕ) (e : Endpoint) → IsBounded steps e → IsBounded (suc steps) (after_close e)
after_close_bounded steps e b = bounded_later steps (after_close e) (close_bounded steps e b)

pub after_abort_bounded : (steps : ℕ) (e : Endpoint) → IsBounded steps e → IsBounded (suc steps) (after_abort e)
after_abort_bounded steps e b = bounded_later steps (after_abort e) (abort_bounded steps e b)

pub orphaned_bounded : (steps l : ℕ) (e : Endpoint) → IsBounded steps e → IsBounded (suc steps) (orphaned l e)
orphaned_bounded steps l e b = bounded_later steps (orphaned l e) (orphan_bounded steps l e b)

pub accepted_bounded : (steps : ℕ) (e : Endpoint) → IsBounded steps e → IsBounded (suc steps) (record e { listener = None })
accepted_bounded steps e b = bounded_later steps (record e { listener = None }) (adopted_bounded steps e b)

pub after_send_bounded : (bytes : List ℕ) (n : ℕ) → n < 2 ^ 32 → (steps : ℕ) (e : Endpoint) → IsBounded steps e → IsBounded (suc steps) (after_send bytes n e)
after_send_bounded bytes n small steps e b =
    let later = bounded_later steps e b in
    let both = length-append e.stream.accepted (take n bytes) in
    let some = length-take n bytes in
    let old = b.accepted in
    record {
      snd_una = b.snd_una;
      counts = later.counts;
      unanswered_expiries = later.unanswered_expiries;
      backoffs = later.backoffs;
      accepted = omega arith;
      met = b.met;
      unmet = b.unmet;
    }

third_false : (b c : Bool) → (b && c && false) ≡ true → ⊥
third_false true true e = cc
third_false true false e = cc
third_false false c e = cc

-- where nothing was taken no bytes are given
empty_gives : (v : Version) (e : Endpoint) (most : ℕ) (bytes : List ℕ) → e.stream.receive ≡ received.empty
    → recv_allows v e most (answers.Bytes bytes) ≡ true → ⊥
empty_gives v e most [] none h = cc
empty_gives v e most (x ∷ bytes) none h =
    third_false (nat_le 1 (length (x ∷ bytes))) (nat_le (length (x ∷ bytes)) most)
    (subst (λ r. recv_allows v (record e { stream = record e.stream { receive = r } }) most (answers.Bytes (x ∷ bytes)) ≡ true) none h)

pub after_recv_bounded : (v : Version) (most : ℕ) (bytes : List ℕ) (steps : ℕ) (e : Endpoint)
    → recv_allows v e most (answers.Bytes bytes) ≡ true → IsBounded steps e → IsBounded (suc steps) (after_recv bytes e)
after_recv_bounded v most bytes steps e allowed b =
    let later = bounded_later steps e b in
    record {
      snd_una = b.snd_una;
      counts = later.counts;
      unanswered_expiries = later.unanswered_expiries;
      backoffs = later.backoffs;
      accepted = later.accepted;
      met = b.met;
      unmet = λ sent. absurd (empty_gives v e most bytes (b.unmet sent) allowed);
    }

-- 2. making, timers, recovery

made_bounded : (m : SegmentPlan) (moment steps : ℕ) (e : Endpoint) → IsBounded steps e → IsBounded steps (endpoint_made e m moment)
made_bounded m moment steps e b =
    record {
      snd_una = b.snd_una;
      counts = b.counts;
      unanswered_expiries = b.unanswered_expiries;
      backoffs = b.backoffs;
      accepted = b.accepted;
      met = b.met;
      unmet = b.unmet;
    }

pub after_making_bounded : (m : SegmentPlan) (moment steps : ℕ) (e : Endpoint) → IsBounded steps e → IsBounded (suc steps) (after_making e m moment)
after_making_bounded m moment steps e b =
    let made = made_bounded m moment steps e b in
    let gone : Endpoint = record (shut_down (endpoint_made e m moment)) { reset_due = false } in
    bounded_later steps (after_making e m moment)
    (either steps m.flags.rst gone (endpoint_made e m moment)
    (due steps (shut_down (endpoint_made e m moment)) false (shut steps (endpoint_made e m moment) made)) made)

pub after_expiry_bounded : (x : Expired) (moment steps : ℕ) (e : Endpoint) → IsBounded steps e → IsBounded (suc steps) (after_expiry e x moment)
after_expiry_bounded (Rto growth) moment steps e b =
    let later = bounded_later steps e b in
    let unanswered_expiries = b.unanswered_expiries in
    let backoffs = b.backoffs in
    record {
      snd_una = b.snd_una;
      counts =
          counts_stay e.control (timeout_signal e)
          (at_moment e moment) growth.cwnd growth.ssthresh steps e.stream.snd_una e.stream.snd_una b.counts
          (omega arith);
      unanswered_expiries = omega arith;
      backoffs = omega arith;
      accepted = later.accepted;
      met = b.met;
      unmet = b.unmet;
    }
after_expiry_bounded Persist moment steps e b =
    let later = bounded_later steps e b in
    let unanswered_expiries = b.unanswered_expiries in
    record {
      snd_una = b.snd_una;
      counts = later.counts;
      unanswered_expiries = omega arith;
      backoffs = later.backoffs;
      accepted = later.accepted;
      met = b.met;
      unmet = b.unmet;
    }
after_expiry_bounded Msl2 moment steps e b = bounded_later steps (shut_down e) (shut steps e b)
after_expiry_bounded Giveup moment steps e b =
    let later = bounded_later steps (shut_down e) (shut steps e b) in
    record {
      snd_una = b.snd_una;
      counts = later.counts;
      unanswered_expiries = later.unanswered_expiries;
      backoffs = later.backoffs;
      accepted = later.accepted;
      met = later.met;
      unmet = later.unmet;
    }
after_expiry_bounded Pto moment steps e b =
    let later = bounded_later steps e b in
    record {
      snd_una = later.snd_una;
      counts = later.counts;
      unanswered_expiries = later.unanswered_expiries;
      backoffs = later.backoffs;
      accepted = later.accepted;
      met = later.met;
      unmet = later.unmet;
    }

pub after_recovery_bounded : (change : RecoveryChange) (cwnd ssthresh moment steps : ℕ) (e : Endpoint) → IsBounded steps e
    → IsBounded (suc steps) (after_recovery e change cwnd ssthresh moment)
after_recovery_bounded Begins cwnd ssthresh moment steps e b =
    let later = bounded_later steps e b in
    record {
      snd_una = b.snd_una;
      counts =
          counts_stay e.control (recovery_signal e ssthresh)
          (at_moment e moment) cwnd ssthresh steps e.stream.snd_una e.stream.snd_una b.counts (omega arith);
      unanswered_expiries = later.unanswered_expiries;
      backoffs = later.backoffs;
      accepted = later.accepted;
      met = b.met;
      unmet = b.unmet;
    }
after_recovery_bounded IsUndone cwnd ssthresh moment steps e b =
    let later = bounded_later steps e b in
    record {
      snd_una = later.snd_una;
      counts = later.counts;
      unanswered_expiries = later.unanswered_expiries;
      backoffs = later.backoffs;
      accepted = later.accepted;
      met = later.met;
      unmet = later.unmet;
    }
