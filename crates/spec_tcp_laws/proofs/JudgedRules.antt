-- Which rules an endpoint's profile may break: on the congestion window, on its growth and on fast recovery. Where less is judged, none more is broken.
use Rattle.std.proofs.Common.{◌≡◌, ℕ, ◌+◌, ◌≤◌, Bool, true, false, None, inl, refl, arith}
use Rattle.std.specs.Prelude.{nat_lt, ◌&&◌, ◌||◌, ◌==◌, not}
use Rattle.std.specs.List.{AllByRecursion}
use Rattle.std.proofs.lemmas.Bool.Decides.{nat_tests}
use Rattle.case_forms.specs.Versions.{says_sender}
use Rattle.case_forms.specs.declared.timer.RecoveryChange.TheVariants.{Begins, IsUndone}
use Rattle.case_forms.specs.declared.steps.SegmentPlan.{SegmentPlan}
use Rattle.case_forms.specs.declared.steps.TakeChoice.{TakeChoice}
use Rattle.case_forms.specs.declared.taken_line.Expired.{Expired}
use Rattle.case_forms.specs.declared.taken_line.Expired.TheVariants.{Giveup, Msl2, Persist, Pto, Rto}
use Rattle.case_forms.specs.declared.timer.RtoChoice.{RtoChoice}
use Rattle.case_forms.specs.declared.trace.Header.{Header}
use Rattle.case_forms.specs.declared.version.Initial.{Initial}
use Rattle.case_forms.specs.declared.version.Initial.TheVariants as initials
use Rattle.case_forms.specs.declared.version.Judged.{Judged}
use Rattle.case_forms.specs.declared.version.Judged.TheVariants as judged
use Rattle.case_forms.specs.declared.version.Version.{Version}
use Rattle.case_forms.specs.declared.timer.RecoveryChange.{RecoveryChange}
use Rattle.verdict.specs.Rules.{first_broken}
use Rattle.verdict.proofs.RuleLemmas.{all_none, none_all}
use Rattle.window_rules.specs.Control.{control_edge, greatest, may_recover}
use Rattle.window_rules.specs.ControlLaws.{IsLimited}
use Rattle.window_rules.specs.Judging.{AllowsMore, JudgesAtMost, with_profile}
use Rattle.window_rules.specs.declared.control.At.{At}
use Rattle.window_rules.specs.declared.control.Profile.{Profile}
use Rattle.window_rules.specs.declared.control.Signal.{Signal}
use Rattle.window_rules.proofs.ControlLemmas.{threshold_greatest, window_greatest}
use Rattle.window_rules.proofs.Judging.{allows_more}
use Rattle.spec_tcp.specs.declared.endpoint.Emission.{Emission}
use Rattle.spec_tcp.specs.declared.endpoint.Endpoint.{Endpoint}
use Rattle.spec_tcp.specs.declared.endpoint.EndpointId.{EndpointId}
use Rattle.spec_tcp.specs.Arrives.OtherStates.{connected_rules}
use Rattle.spec_tcp.specs.Arrives.SynSent.{syn_sent_rules}
use Rattle.spec_tcp.specs.Endpoints.{snd_max}
use Rattle.spec_tcp.specs.HostTcp.{HostTcp}
use Rattle.spec_tcp.specs.Makes.{making_rules}
use Rattle.spec_tcp.specs.Makes.Payload.{has_new_bytes}
use Rattle.spec_tcp.specs.Recovery.{is_bad_recovery, recovery_rules}
use Rattle.spec_tcp.specs.Signals.{at_moment, profile_named, recovery_signal, signal_of, timeout_signal}
use Rattle.spec_tcp.specs.Timeouts.{expiry_rules, greatest_values, grows_above, is_above}
use Rattle.spec_tcp_laws.specs.Judging.{body_by, endpoint_by, extent, header_by}
use Rattle.spec_tcp_laws.proofs.Rules.{at_most_from, neither, not_false}

-- the words on congestion control judge as much as their profiles do
pub judges_at_most : (v : Version) (i : Initial) (j k : Judged) → extent j ≤ extent k → JudgesAtMost (profile_named v i j) (profile_named v i k)
judges_at_most v i judged.Full judged.Full le = record { windows = λ is. inl refl; duplicates = λ is. is }
judges_at_most v i judged.Full judged.Recovery le = absurd (omega (le, arith))
judges_at_most v i judged.Full judged.NoControl le = absurd (omega (le, arith))
judges_at_most v initials.Rfc5681 judged.Recovery judged.Full le = record { windows = λ is. absurd cc; duplicates = λ is. refl }
judges_at_most v initials.Rfc6928 judged.Recovery judged.Full le = record { windows = λ is. absurd cc; duplicates = λ is. refl }
judges_at_most v i judged.Recovery judged.Recovery le = record { windows = λ is. inl refl; duplicates = λ is. is }
judges_at_most v i judged.Recovery judged.NoControl le = absurd (omega (le, arith))
judges_at_most v i judged.NoControl k le = record { windows = λ is. absurd cc; duplicates = λ is. absurd cc }

-- by this profile less of the endpoint is judged, and its values are such as it allows
pub record MayJudge (p : Profile) (e : Endpoint) : Type 0 where
  pub less : JudgesAtMost p e.control.profile
  pub limited : IsLimited e.control

more : (p : Profile) (e : Endpoint) → MayJudge p e → AllowsMore e.control p
more p e may = allows_more e.control p may.less

-- a value that was not above the greatest isn't above it
window_below : (p : Profile) (e : Endpoint) (s : Signal) (at : At) (cwnd : ℕ) → MayJudge p e → nat_lt ((greatest e.control s at).0) cwnd ≡ false
    → nat_lt ((greatest (with_profile p e.control) s at).0) cwnd ≡ false
window_below p e s at cwnd may below =
    let le = at_most_from ((greatest e.control s at).0) cwnd below in
    let fits = (window_greatest e.control s at may.limited cwnd).1 le in
    let more_le = (more p e may).window s at cwnd fits.1 le in
    grind (arith, nat_tests, more_le)

threshold_below : (p : Profile) (e : Endpoint) (s : Signal) (at : At) (ssthresh : ℕ) → MayJudge p e → nat_lt ((greatest e.control s at).1) ssthresh ≡ false
    → nat_lt ((greatest (with_profile p e.control) s at).1) ssthresh ≡ false
threshold_below p e s at ssthresh may below =
    let le = at_most_from ((greatest e.control s at).1) ssthresh below in
    let fits = (threshold_greatest e.control s at may.limited ssthresh).1 le in
    let more_le = (more p e may).threshold s at ssthresh fits.1 le in
    grind (arith, nat_tests, more_le)

further : (b : Bool) (m n k : ℕ) → m ≤ n → (b && nat_lt m k) ≡ false → (b && nat_lt n k) ≡ false
further true m n k le below = grind (arith, nat_tests)
further false m n k le below = refl

both_false : (b c : Bool) → b ≡ false → c ≡ false → (b || c) ≡ false
both_false true c x y = absurd cc
both_false false c x y = y

pub making_passes : (v : Version) (p : Profile) (e : Endpoint) (m : SegmentPlan) → MayJudge p e → first_broken (making_rules v e m) ≡ None
    → first_broken (making_rules v (endpoint_by p e) m) ≡ None
making_passes v p e m may passed =
    let t = none_all (making_rules v e m) passed in
    let edge = further (has_new_bytes e m) (control_edge e.stream.snd_una e.control) (control_edge e.stream.snd_una (with_profile p e.control)) (m.pos + m.len)
    ((more p e may).edge e.stream.snd_una) t.1.1.1.1.1.1.1.0 in
    all_none (making_rules v (endpoint_by p e) m)
    (t.0, (t.1.0, (t.1.1.0, (t.1.1.1.0, (t.1.1.1.1.0, (t.1.1.1.1.1.0, (t.1.1.1.1.1.1.0, (edge, t.1.1.1.1.1.1.1.1))))))))

pub syn_sent_passes : (p : Profile) (e : Endpoint) (how : TakeChoice) (m : Emission) (moment : ℕ) → MayJudge p e
    → first_broken (syn_sent_rules e how m moment) ≡ None
    → first_broken (syn_sent_rules (endpoint_by p e) how m moment) ≡ None
syn_sent_passes p e how m moment may passed =
    let t = none_all (syn_sent_rules e how m moment) passed in
    let growth = window_below p e (signal_of e m) (at_moment e moment) how.cwnd may t.1.1.0 in
    all_none (syn_sent_rules (endpoint_by p e) how m moment) (t.0, (t.1.0, (growth, t.1.1.1)))

pub connected_passes : (p : Profile) (j : Judged) (h : Header) (b : HostTcp) (me : EndpointId) (e : Endpoint) (how : TakeChoice) (m : Emission) (moment : ℕ)
    → MayJudge p e
    → first_broken (connected_rules h b me e how m moment) ≡ None
    → first_broken (connected_rules (header_by j h) (body_by p b) me (endpoint_by p e) how m moment) ≡ None
connected_passes p j h b me e how m moment may passed =
    let t = none_all (connected_rules h b me e how m moment) passed in
    let growth = window_below p e (signal_of e m) (at_moment e moment) how.cwnd may t.1.1.1.1.1.0 in
    all_none (connected_rules (header_by j h) (body_by p b) me (endpoint_by p e) how m moment)
    (t.0, (t.1.0, (t.1.1.0, (t.1.1.1.0, (t.1.1.1.1.0, (growth, t.1.1.1.1.1.1))))))

above_passes : (p : Profile) (e : Endpoint) (growth : RtoChoice) (moment : ℕ) → MayJudge p e → is_above e growth moment ≡ false
    → is_above (endpoint_by p e) growth moment ≡ false
above_passes p e growth moment may below =
    let parts = neither (nat_lt ((greatest_values e moment).0) growth.cwnd) (nat_lt ((greatest_values e moment).1) growth.ssthresh) below in
    both_false _ _ (window_below p e (timeout_signal e) (at_moment e moment) growth.cwnd may parts.0)
    (threshold_below p e (timeout_signal e) (at_moment e moment) growth.ssthresh may parts.1)

grows_passes : (p : Profile) (e : Endpoint) (x : Expired) (moment : ℕ) → MayJudge p e → grows_above e x moment ≡ false
    → grows_above (endpoint_by p e) x moment ≡ false
grows_passes p e (Rto growth) moment may below = above_passes p e growth moment may below
grows_passes p e Persist moment may below = refl
grows_passes p e Msl2 moment may below = refl
grows_passes p e Giveup moment may below = refl
grows_passes p e Pto moment may below = refl

pub expiry_passes : (p : Profile) (j : Judged) (h : Header) (moment : ℕ) (e : Endpoint) (x : Expired) → MayJudge p e
    → first_broken (expiry_rules h moment e x) ≡ None
    → first_broken (expiry_rules (header_by j h) moment (endpoint_by p e) x) ≡ None
expiry_passes p j h moment e x may passed = by x (none_all (expiry_rules h moment e x) passed)
  where
    by : (x : Expired) → AllByRecursion (λ r. r.1 ≡ false) (expiry_rules h moment e x)
        → first_broken (expiry_rules (header_by j h) moment (endpoint_by p e) x) ≡ None
    by (Rto growth) t =
        all_none (expiry_rules (header_by j h) moment (endpoint_by p e) (Rto growth)) (t.0, (grows_passes p e (Rto growth) moment may t.1.0, t.1.1))
    by Persist t = all_none (expiry_rules (header_by j h) moment (endpoint_by p e) Persist) t
    by Msl2 t = all_none (expiry_rules (header_by j h) moment (endpoint_by p e) Msl2) t
    by Giveup t = all_none (expiry_rules (header_by j h) moment (endpoint_by p e) Giveup) t
    by Pto t = all_none (expiry_rules (header_by j h) moment (endpoint_by p e) Pto) t

not_true_false : (b : Bool) → b ≡ true → not b ≡ false
not_true_false true is = refl
not_true_false false is = absurd cc

bad_passes : (v : Version) (p : Profile) (e : Endpoint) (cwnd ssthresh moment : ℕ) → MayJudge p e → is_bad_recovery v e cwnd ssthresh moment ≡ false
    → is_bad_recovery v (endpoint_by p e) cwnd ssthresh moment ≡ false
bad_passes v p e cwnd ssthresh moment may fine =
    let window =
    neither (not (says_sender v || may_recover e.control) || e.stream.snd_una == snd_max e || nat_lt ((greatest e.control now (at_moment e moment)).1) ssthresh)
    (nat_lt ((greatest e.control now (at_moment e moment)).0) cwnd) fine in
    let threshold =
    neither (not (says_sender v || may_recover e.control) || e.stream.snd_una == snd_max e)
    (nat_lt ((greatest e.control now (at_moment e moment)).1) ssthresh) window.0 in
    let begins = neither (not (says_sender v || may_recover e.control)) (e.stream.snd_una == snd_max e) threshold.0 in
    let recovers = recovers_by (says_sender v) (not_false (says_sender v || may_recover e.control) begins.0) in
    both_false _ _
    (both_false _ _ (both_false _ _ (not_true_false (says_sender v || may_recover (with_profile p e.control)) recovers) begins.1)
    (threshold_below p e now (at_moment e moment) ssthresh may threshold.1))
    (window_below p e now (at_moment e moment) cwnd may window.1)
  where
    now : Signal
    now = recovery_signal e ssthresh

    recovers_by : (b : Bool) → (b || may_recover e.control) ≡ true → (b || may_recover (with_profile p e.control)) ≡ true
    recovers_by true is = refl
    recovers_by false is = (more p e may).recovery is

pub recovery_passes : (v : Version) (p : Profile) (e : Endpoint) (change : RecoveryChange) (cwnd ssthresh moment : ℕ) → MayJudge p e
    → first_broken (recovery_rules v e change cwnd ssthresh moment) ≡ None
    → first_broken (recovery_rules v (endpoint_by p e) change cwnd ssthresh moment) ≡ None
recovery_passes v p e Begins cwnd ssthresh moment may passed =
    let t = none_all (recovery_rules v e Begins cwnd ssthresh moment) passed in
    all_none (recovery_rules v (endpoint_by p e) Begins cwnd ssthresh moment)
    (t.0, (t.1.0, (bad_passes v p e cwnd ssthresh moment may t.1.1.0, t.1.1.1)))
recovery_passes v p e IsUndone cwnd ssthresh moment may passed = passed
