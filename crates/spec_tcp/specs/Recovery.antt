-- Fast recovery begins (RFC 5681, 3.2), or is undone (RFC 4015, 3.2).
use Rattle.std.specs.Prelude.{ℕ, ◌==◌, nat_lt, Bool, true, false, not, ◌||◌, min, List, [], ◌∷◌}
use Rattle.case_forms.specs.States.{is_closed}
use Rattle.case_forms.specs.Versions.{says_sender}
use Rattle.case_forms.specs.declared.timer.RecoveryChange.{RecoveryChange}
use Rattle.case_forms.specs.declared.timer.RecoveryChange.TheVariants.{Begins, IsUndone}
use Rattle.case_forms.specs.declared.version.Version.{Version}
use Rattle.verdict.specs.declared.rule.Rule.{Rule}
use Rattle.verdict.specs.declared.rule.Rule.TheVariants as rules
use Rattle.window_rules.specs.declared.control.Control.{Control}
use Rattle.window_rules.specs.Control.{greatest, after, may_recover}
use Rattle.window_rules.specs.Windows.{greatest_window}
use Rattle.spec_tcp.specs.Endpoints.{Endpoint, snd_max, is_up}
use Rattle.spec_tcp.specs.Signals.{at_moment, recovery_signal}

-- the greatest values with which fast recovery may begin: the window for the greatest threshold, and that threshold
abbrev pub greatest_at_recovery : Endpoint → (moment : ℕ) → ℕ × ℕ
greatest_at_recovery e moment =
    let ssthresh : ℕ = min ((greatest e.control (recovery_signal e 0) (at_moment e moment)).1) greatest_window in
    ((greatest e.control (recovery_signal e ssthresh) (at_moment e moment)).0, ssthresh)

-- fast recovery before the third duplicate acknowledgment, with nothing outstanding, or with a greater ssthresh or cwnd
-- than is permitted (RFC 5681, 3.2, steps 2 and 3); from version 6 on, the model doesn't ask for duplicates
abbrev pub is_bad_recovery : Version → Endpoint → (cwnd ssthresh moment : ℕ) → Bool
is_bad_recovery v e cwnd ssthresh moment =
    not (says_sender v || may_recover e.control) || e.stream.snd_una == snd_max e
    || nat_lt ((greatest e.control (recovery_signal e ssthresh) (at_moment e moment)).1) ssthresh
    || nat_lt ((greatest e.control (recovery_signal e ssthresh) (at_moment e moment)).0) cwnd

-- or a recovery is undone in versions 1 to 5; from version 6 on, the model doesn't ask why
abbrev pub is_bad_change : Version → Endpoint → RecoveryChange → (cwnd ssthresh moment : ℕ) → Bool
is_bad_change v e Begins cwnd ssthresh moment = is_bad_recovery v e cwnd ssthresh moment
is_bad_change v e IsUndone cwnd ssthresh moment = not (says_sender v)

abbrev pub recovery_rules : Version → Endpoint → RecoveryChange → (cwnd ssthresh moment : ℕ) → List (Rule × Bool)
recovery_rules v e change cwnd ssthresh moment =
    (rules.NoEndpoint, is_closed e.state) ∷ (rules.State, not (is_up e))
    ∷ (rules.Recovery, is_bad_change v e change cwnd ssthresh moment) ∷ []

-- ---- its effect; undoing has none, as the model bounds no window from version 6 on

abbrev pub control_changed : RecoveryChange → Endpoint → (cwnd ssthresh moment : ℕ) → Control
control_changed Begins e cwnd ssthresh moment =
    after e.control (recovery_signal e ssthresh) (at_moment e moment) cwnd ssthresh
control_changed IsUndone e cwnd ssthresh moment = e.control

abbrev pub recover_changed : RecoveryChange → Endpoint → ℕ
recover_changed Begins e = snd_max e
recover_changed IsUndone e = e.recover

abbrev pub after_recovery : Endpoint → RecoveryChange → (cwnd ssthresh moment : ℕ) → Endpoint
after_recovery e change cwnd ssthresh moment = record e {
  control = control_changed change e cwnd ssthresh moment;
  recover = recover_changed change e;
}
