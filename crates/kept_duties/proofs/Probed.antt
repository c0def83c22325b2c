-- In version 6, an expiry of the persist timer is followed by a probe.
use Rattle.std.proofs.Common.{◌≡◌, ℕ, ◌+◌, ◌<◌, ◌≤◌, ◌⊎◌, inl, inr, Bool, true, false, length, Option, Some, None, refl, ap, sym, subst, ◌∙◌, arith}
use Rattle.std.proofs.lemmas.Bool.Decides.{nat_tests}
use Rattle.std.proofs.lemmas.Option.{none-some}
use Rattle.std.specs.Prelude.{◌==◌, ◌&&◌, ◌||◌, if◌then◌else◌, nat_le, nat_lt}
use Rattle.std.specs.Option.{option_or}
use Rattle.case_forms.specs.States.{is_closed}
use Rattle.case_forms.specs.Versions.{says_sender}
use Rattle.case_forms.specs.declared.steps.Witness.{Witness}
use Rattle.case_forms.specs.declared.timer.Timer.TheVariants.{Persist}
use Rattle.case_forms.specs.declared.trace.Trace.{Trace}
use Rattle.verdict.specs.Rules.{first_broken}
use Rattle.interval_order.specs.Orders.{last_moment}
use Rattle.interval_order.specs.Placed.{Placed}
use Rattle.spec_tcp_laws.proofs.Rules.{at_most_to, both_true, neither, number_same, zero_from}
use Rattle.spec_duties.specs.Deadlines.{is_late}
use Rattle.spec_duties.specs.End.{end_rules}
use Rattle.spec_duties.specs.Events.{acknowledges_more, holds}
use Rattle.spec_duties.specs.Retransmit.{is_probe_timeout}
use Rattle.spec_duties.specs.Strict.{opens, sends_probe, strict_after, strict_lates, with_brought}
use Rattle.spec_duties.specs.declared.events.Event.{Event}
use Rattle.spec_duties.specs.declared.events.Event.TheVariants.{Expires, Sends}
use Rattle.spec_duties.specs.declared.observations.Sampling.{Sampling}
use Rattle.spec_duties.specs.declared.owed.Owed.{Owed}
use Rattle.spec_duties.specs.declared.strict.StrictOwed.{StrictOwed}
use Rattle.spec_duties.specs.declared.strict.Unsent.{Unsent}
use Rattle.spec_duties.specs.declared.views.View.{View}
use Rattle.checker.specs.Seen.{moves}
use Rattle.kept_duties.specs.Happens.{act_at, known_before}
use Rattle.kept_duties.specs.Soon.{AcknowledgesMore, ClosedWindowsAreProbed, IsDoneBy, SendsProbe, WindowOpens}
use Rattle.kept_duties.proofs.Excused.{AsSeen, as_event}
use Rattle.kept_duties.proofs.Inbox.{not_late}
use Rattle.kept_duties.proofs.Runs.{Run}
use Rattle.kept_duties.proofs.Soon.{either_true, more_from, or_now, since_now}
use Rattle.kept_duties.proofs.StrictSince.{StrictDuty, arises_strictly}
use Rattle.kept_duties.proofs.Stricter.{strict_open}

-- ---- what duties test is what the law says

opens_from : (before after : View) → opens before after ≡ true → WindowOpens before after
opens_from before after is =
    let both = both_true (before.snd_wnd == 0) (nat_lt 0 after.snd_wnd) is in
    let some : 0 < after.snd_wnd = grind (arith, nat_tests, both.1) in
    (zero_from before.snd_wnd both.0, some)

-- without a segment
ends_otherwise : (before after : View) → (acknowledges_more before after || opens before after) ≡ true
    → AcknowledgesMore before after ⊎ WindowOpens before after
ends_otherwise before after is = by (either_true (acknowledges_more before after) (opens before after) is)
  where
    by : (acknowledges_more before after ≡ true) ⊎ (opens before after ≡ true) → AcknowledgesMore before after ⊎ WindowOpens before after
    by (inl more) = inl (more_from before after more)
    by (inr open') = inr (opens_from before after open')

sends_probe_from : (event : Event) (before after : View)
    → (sends_probe event before ≡ true) ⊎ ((acknowledges_more before after || opens before after) ≡ true) → SendsProbe event before after
sends_probe_from (Sends s) before after (inl is) = by (either_true (s.length == 0 && s.pos + 1 == before.snd_una) (holds s before.snd_una) is)
  where
    by : ((s.length == 0 && s.pos + 1 == before.snd_una) ≡ true) ⊎ (holds s before.snd_una ≡ true) → SendsProbe (Sends s) before after
    by (inl below) =
        let both = both_true (s.length == 0) (s.pos + 1 == before.snd_una) below in
        inr (inl (zero_from s.length both.0, number_same (s.pos + 1) before.snd_una both.1))
    by (inr held) =
        let both = both_true (nat_le s.pos before.snd_una) (nat_lt before.snd_una (s.pos + s.length)) held in
        let high : before.snd_una < s.pos + s.length = grind (arith, nat_tests, both.1) in
        inl (at_most_to s.pos before.snd_una both.0, high)
sends_probe_from (Sends s) before after (inr is) = inr (inr (ends_otherwise before after is))
sends_probe_from event before after (inl is) = absurd cc
sends_probe_from event before after (inr is) = ends_otherwise before after is

-- ---- the duty

probe_onward : (s : Sampling) (event as_seen : Event) → AsSeen event as_seen → (before after : View) (moment : ℕ) (acknowledged : Option ℕ)
    (sent : Option Unsent) (o : StrictOwed) (since : ℕ) → o.probe ≡ Some since
    → SendsProbe event before after ⊎ ((strict_after s as_seen before after moment acknowledged sent o).probe ≡ Some since)
probe_onward s event as_seen like before after moment acknowledged sent o since is =
    as_event (λ (e : Event). SendsProbe e before after ⊎ ((strict_after s as_seen before after moment acknowledged sent o).probe ≡ Some since))
    (λ asks now unlimited q. q) event as_seen like
    (by (is_probe_timeout as_seen) (sends_probe as_seen before) (acknowledges_more before after || opens before after) refl refl)
  where
    by : (a b c : Bool) → sends_probe as_seen before ≡ b → (acknowledges_more before after || opens before after) ≡ c
        → SendsProbe as_seen before after
        ⊎ ((if a then option_or o.probe (Some moment) else if sends_probe as_seen before || acknowledges_more before after || opens before after then None
        else o.probe) ≡ Some since)
    by true b c sends ends = inr (ap (λ (q : Option ℕ). option_or q (Some moment)) is)
    by false true c sends ends = inl (sends_probe_from as_seen before after (inl sends))
    by false false true sends ends = inl (sends_probe_from as_seen before after (inr ends))
    by false false false sends ends = inr (neither_ends ∙ is)
      where
        neither_ends : (if sends_probe as_seen before || acknowledges_more before after || opens before after then None else o.probe) ≡ o.probe
        neither_ends =
            let both = neither (acknowledges_more before after) (opens before after) ends in
            (λ i. if sends i || both.0 i || both.1 i then None else o.probe)

probe_back : (s : Sampling) (as_seen : Event) (before after : View) (moment : ℕ) (acknowledged : Option ℕ) (sent : Option Unsent) (o : StrictOwed)
    (since : ℕ) → (strict_after s as_seen before after moment acknowledged sent o).probe ≡ Some since → (since ≡ moment) ⊎ (o.probe ≡ Some since)
probe_back s as_seen before after moment acknowledged sent o since =
    by (is_probe_timeout as_seen) (sends_probe as_seen before || acknowledges_more before after || opens before after)
  where
    by : (a b : Bool) → (if a then option_or o.probe (Some moment) else if b then None else o.probe) ≡ Some since
        → (since ≡ moment) ⊎ (o.probe ≡ Some since)
    by true b is = or_now o.probe moment since is
    by false true is = absurd (none-some since is)
    by false false is = inr is

probe_fine : (grain slack moment : ℕ) (late : Bool) (v : View) (listener : Option ℕ) (o : Owed) (s : StrictOwed) (since : ℕ)
    → (with_brought late (strict_lates grain slack moment v listener o s)).retransmit ≡ false → is_closed v.state ≡ false → s.probe ≡ Some since
    → moment ≤ since + 0 + slack
probe_fine grain slack moment late v listener o s since none open' is =
    let here = strict_open (λ l. l.retransmit ≡ false) grain slack moment late v listener o s open' none in
    let le = not_late slack since moment s.probe is (neither (is_late slack moment s.retransmit) (is_late slack moment s.probe) here).1 in
    omega (arith, le)

probe_duty : StrictDuty (λ o. o.probe) 0 SendsProbe (λ l. l.retransmit)
probe_duty = record {
  nothing = refl;
  onward = probe_onward;
  back = probe_back;
  rules = λ l all. all.1.1.0;
  either = λ a b. refl;
  fine = probe_fine;
}

probe_begins : (s : Sampling) (as_seen : Event) → AsSeen (Expires Persist) as_seen → (before after : View) (now : ℕ) (acknowledged : Option ℕ)
    (sent : Option Unsent) (o : StrictOwed) → (since : ℕ) × ((strict_after s as_seen before after now acknowledged sent o).probe ≡ Some since)
probe_begins s as_seen like before after now acknowledged sent o =
    subst (λ (e : Event). (since : ℕ) × ((strict_after s e before after now acknowledged sent o).probe ≡ Some since)) (sym like)
    (since_now o.probe now)

pub windows_probed : (t : Trace) (w : Witness) (slack : ℕ) → Run t.header slack (length w.steps) (act_at t w) (known_before t w)
    → Placed t.header t.lines (moves w.steps)
    → first_broken (end_rules t.header slack (last_moment (moves w.steps)) (known_before t w (length w.steps)).duties
    (known_before t w (length w.steps)).model) ≡ None
    → says_sender t.header.version ≡ true → ClosedWindowsAreProbed t w slack
windows_probed t w slack r placed late six place moment me a =
    subst (λ (m : ℕ). IsDoneBy t w place m me SendsProbe) (let e : moment + 0 + slack ≡ moment + slack = omega arith in e)
    (arises_strictly t w slack r placed six me (λ o. o.probe) 0 SendsProbe (λ l. l.retransmit) probe_duty late place moment (Expires Persist) a
    (λ s as_seen like before after now acknowledged sent o is. probe_begins s as_seen like before after now acknowledged sent o))
