-- In each version, an expiry of the retransmission timer is followed by a retransmission.
use Rattle.std.proofs.Common.{◌≡◌, ℕ, ◌+◌, ◌≤◌, ◌⊎◌, inl, inr, Bool, true, false, length, Option, Some, None, refl, ap, sym, subst, arith}
use Rattle.std.specs.Prelude.{◌==◌, ◌&&◌, ◌||◌, if◌then◌else◌}
use Rattle.std.specs.Option.{option_or}
use Rattle.std.proofs.lemmas.Option.{none-some}
use Rattle.case_forms.specs.States.{is_closed}
use Rattle.case_forms.specs.Versions.{says_sender}
use Rattle.case_forms.specs.declared.steps.Witness.{Witness}
use Rattle.case_forms.specs.declared.timer.Timer.TheVariants.{Rto}
use Rattle.case_forms.specs.declared.trace.Trace.{Trace}
use Rattle.verdict.specs.Rules.{first_broken}
use Rattle.interval_order.specs.Orders.{last_moment}
use Rattle.interval_order.specs.Placed.{Placed}
use Rattle.spec_tcp_laws.proofs.Rules.{both_true, neither}
use Rattle.spec_duties.specs.Deadlines.{is_late}
use Rattle.spec_duties.specs.End.{end_rules}
use Rattle.spec_duties.specs.Events.{acknowledges_more, holds}
use Rattle.spec_duties.specs.Probe.{is_probing_segment}
use Rattle.spec_duties.specs.Retransmit.{is_timeout, sends_oldest}
use Rattle.spec_duties.specs.Strict.{sends_oldest_or_probe, strict_after, strict_lates, with_brought}
use Rattle.spec_duties.specs.declared.events.Event.{Event}
use Rattle.spec_duties.specs.declared.events.Event.TheVariants.{Expires, Sends}
use Rattle.spec_duties.specs.declared.observations.Sampling.{Sampling}
use Rattle.spec_duties.specs.declared.owed.Owed.{Owed}
use Rattle.spec_duties.specs.declared.strict.StrictOwed.{StrictOwed}
use Rattle.spec_duties.specs.declared.strict.Unsent.{Unsent}
use Rattle.spec_duties.specs.declared.views.View.{View}
use Rattle.checker.specs.Seen.{moves}
use Rattle.kept_duties.specs.Happens.{act_at, known_before}
use Rattle.kept_duties.specs.Soon.{ExpiriesAreFollowed, IsDoneBy, SendsOldest}
use Rattle.kept_duties.proofs.Excused.{AsSeen, as_event}
use Rattle.kept_duties.proofs.Inbox.{not_late}
use Rattle.kept_duties.proofs.Runs.{Run}
use Rattle.kept_duties.proofs.Soon.{either_true, expiries_followed, or_now, or_true, sends_oldest_from, since_now}
use Rattle.kept_duties.proofs.StrictSince.{StrictDuty, arises_strictly}
use Rattle.kept_duties.proofs.Stricter.{strict_open}

-- what ends the stricter duty ends the plain one
oldest_sent : (event : Event) (before : View) → sends_oldest_or_probe event before ≡ true → sends_oldest event before ≡ true
oldest_sent (Sends s) before is = by (either_true (holds s before.snd_una) (before.snd_wnd == 0 && is_probing_segment s before) is)
  where
    by : (holds s before.snd_una ≡ true) ⊎ ((before.snd_wnd == 0 && is_probing_segment s before) ≡ true)
        → (holds s before.snd_una || before.snd_wnd == 0) ≡ true
    by (inl held) = ap (λ (b : Bool). b || before.snd_wnd == 0) held
    by (inr probes) =
        or_true (holds s before.snd_una) (before.snd_wnd == 0) (both_true (before.snd_wnd == 0) (is_probing_segment s before) probes).0
oldest_sent event before is = absurd cc

ends_plainly : (event : Event) (before after : View) → (sends_oldest_or_probe event before || acknowledges_more before after) ≡ true
    → SendsOldest event before after
ends_plainly event before after is =
    sends_oldest_from event before after (by (either_true (sends_oldest_or_probe event before) (acknowledges_more before after) is))
  where
    by : (sends_oldest_or_probe event before ≡ true) ⊎ (acknowledges_more before after ≡ true)
        → (sends_oldest event before || acknowledges_more before after) ≡ true
    by (inl sends) = ap (λ (b : Bool). b || acknowledges_more before after) (oldest_sent event before sends)
    by (inr more) = or_true (sends_oldest event before) (acknowledges_more before after) more

retransmit_onward : (s : Sampling) (event as_seen : Event) → AsSeen event as_seen → (before after : View) (moment : ℕ) (acknowledged : Option ℕ)
    (sent : Option Unsent) (o : StrictOwed) (since : ℕ) → o.retransmit ≡ Some since
    → SendsOldest event before after ⊎ ((strict_after s as_seen before after moment acknowledged sent o).retransmit ≡ Some since)
retransmit_onward s event as_seen like before after moment acknowledged sent o since is =
    as_event (λ (e : Event). SendsOldest e before after ⊎ ((strict_after s as_seen before after moment acknowledged sent o).retransmit ≡ Some since))
    (λ asks now unlimited q. q) event as_seen like
    (by (is_timeout as_seen) (sends_oldest_or_probe as_seen before || acknowledges_more before after) refl)
  where
    by : (a b : Bool) → (sends_oldest_or_probe as_seen before || acknowledges_more before after) ≡ b
        → SendsOldest as_seen before after
        ⊎ ((if a then option_or o.retransmit (Some moment) else if b then None else o.retransmit) ≡ Some since)
    by true b sends = inr (ap (λ (q : Option ℕ). option_or q (Some moment)) is)
    by false true sends = inl (ends_plainly as_seen before after sends)
    by false false sends = inr is

retransmit_back : (s : Sampling) (as_seen : Event) (before after : View) (moment : ℕ) (acknowledged : Option ℕ) (sent : Option Unsent) (o : StrictOwed)
    (since : ℕ) → (strict_after s as_seen before after moment acknowledged sent o).retransmit ≡ Some since → (since ≡ moment) ⊎ (o.retransmit ≡ Some since)
retransmit_back s as_seen before after moment acknowledged sent o since =
    by (is_timeout as_seen) (sends_oldest_or_probe as_seen before || acknowledges_more before after)
  where
    by : (a b : Bool) → (if a then option_or o.retransmit (Some moment) else if b then None else o.retransmit) ≡ Some since
        → (since ≡ moment) ⊎ (o.retransmit ≡ Some since)
    by true b is = or_now o.retransmit moment since is
    by false true is = absurd (none-some since is)
    by false false is = inr is

retransmit_fine : (grain slack moment : ℕ) (late : Bool) (v : View) (listener : Option ℕ) (o : Owed) (s : StrictOwed) (since : ℕ)
    → (with_brought late (strict_lates grain slack moment v listener o s)).retransmit ≡ false → is_closed v.state ≡ false → s.retransmit ≡ Some since
    → moment ≤ since + 0 + slack
retransmit_fine grain slack moment late v listener o s since none open' is =
    let here = strict_open (λ l. l.retransmit ≡ false) grain slack moment late v listener o s open' none in
    let le = not_late slack since moment s.retransmit is (neither (is_late slack moment s.retransmit) (is_late slack moment s.probe) here).0 in
    omega (arith, le)

retransmit_duty : StrictDuty (λ o. o.retransmit) 0 SendsOldest (λ l. l.retransmit)
retransmit_duty = record {
  nothing = refl;
  onward = retransmit_onward;
  back = retransmit_back;
  rules = λ l all. all.1.1.0;
  either = λ a b. refl;
  fine = retransmit_fine;
}

retransmit_begins : (s : Sampling) (as_seen : Event) → AsSeen (Expires Rto) as_seen → (before after : View) (now : ℕ) (acknowledged : Option ℕ)
    (sent : Option Unsent) (o : StrictOwed) → (since : ℕ) × ((strict_after s as_seen before after now acknowledged sent o).retransmit ≡ Some since)
retransmit_begins s as_seen like before after now acknowledged sent o =
    subst (λ (e : Event). (since : ℕ) × ((strict_after s e before after now acknowledged sent o).retransmit ≡ Some since)) (sym like)
    (since_now o.retransmit now)

module _ (t : Trace) (w : Witness) (slack : ℕ) (r : Run t.header slack (length w.steps) (act_at t w) (known_before t w))
    (placed : Placed t.header t.lines (moves w.steps))
    (late : first_broken (end_rules t.header slack (last_moment (moves w.steps)) (known_before t w (length w.steps)).duties
    (known_before t w (length w.steps)).model) ≡ None) where
  strictly : says_sender t.header.version ≡ true → ExpiriesAreFollowed t w slack
  strictly six place moment me a =
      subst (λ (m : ℕ). IsDoneBy t w place m me SendsOldest) (let e : moment + 0 + slack ≡ moment + slack = omega arith in e)
      (arises_strictly t w slack r placed six me (λ o. o.retransmit) 0 SendsOldest (λ l. l.retransmit) retransmit_duty late place moment (Expires Rto) a
      (λ s as_seen like before after now acknowledged sent o is. retransmit_begins s as_seen like before after now acknowledged sent o))

  pub expiries_followed_always : ExpiriesAreFollowed t w slack
  expiries_followed_always = by (says_sender t.header.version) refl
    where
      by : (b : Bool) → says_sender t.header.version ≡ b → ExpiriesAreFollowed t w slack
      by true six = strictly six
      by false plain = expiries_followed t w slack r placed late plain
