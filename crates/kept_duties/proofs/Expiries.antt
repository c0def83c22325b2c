-- An armed retransmission timer expires in time.
use Rattle.std.proofs.Common.{◌≡◌, ℕ, suc, ◌+◌, ◌<◌, ◌≤◌, ◌⊎◌, inl, inr, Bool, true, false, length, Option, Some, None, refl, ap, sym, subst}
use Rattle.std.proofs.Common.{◌∙◌, arith, max}
use Rattle.std.proofs.lemmas.Bool.Decides.{nat_tests}
use Rattle.std.specs.Prelude.{◌==◌, ◌&&◌, ◌||◌, if◌then◌else◌, nat_lt, not}
use Rattle.std.specs.Option.{option_map}
use Rattle.case_forms.specs.Versions.{says_sender}
use Rattle.case_forms.specs.declared.steps.Witness.{Witness}
use Rattle.case_forms.specs.declared.trace.Header.{Header}
use Rattle.case_forms.specs.declared.trace.Trace.{Trace}
use Rattle.verdict.specs.Rules.{first_broken}
use Rattle.interval_order.specs.Orders.{last_moment}
use Rattle.interval_order.specs.Placed.{Placed}
use Rattle.spec_network.specs.Hosts.{Stamped, World}
use Rattle.spec_tcp.specs.Machine.{tcp_shape}
use Rattle.spec_tcp.specs.declared.endpoint.EndpointId.{EndpointId}
use Rattle.spec_tcp_laws.proofs.Rules.{both_true, not_false, zero_from}
use Rattle.spec_cases.specs.Cases.{Known}
use Rattle.spec_duties.specs.End.{end_rules}
use Rattle.spec_duties.specs.Expire.{expiry_due, longest_run, opened_after}
use Rattle.spec_duties.specs.Owed.{lates_of, owed_after}
use Rattle.spec_duties.specs.Observations.{observe}
use Rattle.spec_duties.specs.Strict.{coarse_expiry_due, longest_coarse_run, rebuilds_oldest, strict_after, strict_lates, with_brought}
use Rattle.spec_duties.specs.Watching.{owed_by, strict_by}
use Rattle.spec_duties.specs.declared.events.Event.{Event}
use Rattle.spec_duties.specs.declared.observations.Sampling.{Sampling}
use Rattle.spec_duties.specs.declared.owed.Owed.{Owed}
use Rattle.spec_duties.specs.declared.strict.StrictOwed.{StrictOwed}
use Rattle.spec_duties.specs.declared.strict.Unsent.{Unsent}
use Rattle.spec_duties.specs.declared.views.View.{View}
use Rattle.checker.specs.Seen.{moves}
use Rattle.kept_duties.specs.Happens.{act_at, known_before, seen_before}
use Rattle.kept_duties.specs.Expiries.{ExpiriesAreInTime, IsRestartedBy, Restarts, TimesOut, run_time, runs_on}
use Rattle.kept_duties.specs.Soon.{IsDoneUnless}
use Rattle.kept_duties.proofs.Excused.{AsSeen}
use Rattle.kept_duties.proofs.Judged.{plain_same}
use Rattle.kept_duties.proofs.Inbox.{not_late}
use Rattle.kept_duties.proofs.Repeats.{happens_from, owes_of}
use Rattle.kept_duties.proofs.Runs.{Goes, Run, run_keeps, world_is}
use Rattle.kept_duties.proofs.RunTimes.{builds_oldest, not_opened, plain_run, runs_parts, runs_self, strict_run}
use Rattle.kept_duties.proofs.Segments.{within}
use Rattle.kept_duties.proofs.Since.{Wait, from_step, nothing_first}
use Rattle.kept_duties.proofs.Soon.{late_open, open_or_closed}
use Rattle.kept_duties.proofs.StrictSince.{StrictWait, from_step_strictly, strict_first}
use Rattle.kept_duties.proofs.Stricter.{strict_kept, strict_open, strict_touched}
use Rattle.kept_duties.proofs.Touched.{Touches, seen, touched, touches_or_not}

opened_is : (event : Event) (before after : View) (moment : ℕ) (listener : Option ℕ) (counts : Bool) (o : Owed)
    → (owed_after event before after moment listener counts o).opened ≡ opened_after before after moment o.opened
opened_is event before after moment listener counts o =
    open_or_closed (λ n. n.opened ≡ opened_after before after moment o.opened) event before after moment listener counts o (λ closed. refl) refl

-- ---- versions 1 to 5

plain_wait : (h : Header) (since from slack : ℕ) (first : View) → says_sender h.version ≡ false → since ≤ from
    → Wait (λ o. o.opened ≤ from) (TimesOut h) (λ v. not (runs_on h since first v)) (λ l. l.expire) slack (from + run_time h first + slack)
plain_wait h since from slack first plain low = record { onward = onward'; rules = λ l all. all.1.0; either = λ a b. refl; fine = fine }
  where
    onward' : (event : Event) (before after : View) (moment : ℕ) (listener : Option ℕ) (counts : Bool) (o : Owed)
        → not (runs_on h since first before) ≡ false → o.opened ≤ from
        → TimesOut h event before after ⊎ (not (runs_on h since first after) ≡ true)
        ⊎ ((owed_after event before after moment listener counts o).opened ≤ from)
    onward' event before after moment listener counts o runs opened = test (runs_on h since first after) refl
      where
        test : (b : Bool) → runs_on h since first after ≡ b
            → TimesOut h event before after ⊎ (not (runs_on h since first after) ≡ true)
            ⊎ ((owed_after event before after moment listener counts o).opened ≤ from)
        test false stops = inr (inl (ap not stops))
        test true on' =
            let was = runs_parts h since first before (not_false (runs_on h since first before) runs) in
            let now = runs_parts h since first after on' in
            let same : (owed_after event before after moment listener counts o).opened ≡ o.opened =
            opened_is event before after moment listener counts o
            ∙ ap (λ (b : Bool). if b then moment else o.opened) (not_opened first.snd_wnd before.snd_wnd after.snd_wnd was.window now.window) in
            inr (inr (subst (λ (n : ℕ). n ≤ from) (sym same) opened))

    fine : (moment : ℕ) (v : View) (listener : Option ℕ) (o : Owed) → (lates_of slack moment v listener o).expire ≡ false
        → not (runs_on h since first v) ≡ false → o.opened ≤ from → moment ≤ from + run_time h first + slack
    fine moment v listener o none runs opened =
        let now = runs_parts h since first v (not_false (runs_on h since first v) runs) in
        let due : expiry_due v o.opened ≡ Some (max since o.opened + longest_run v) =
        ap (λ (b : Bool). if b then option_map (λ since. max since o.opened + longest_run v) v.timers.rto_armed else None) now.due
        ∙ ap (option_map (λ since. max since o.opened + longest_run v)) now.armed in
        let le = not_late slack (max since o.opened + longest_run v) moment (expiry_due v o.opened) due
        (late_open (λ l. l.expire ≡ false) slack moment v listener o now.open' none) in
        let time : longest_run v ≡ run_time h first = plain_run h v plain now.due ∙ now.time in
        omega (arith, le, time, opened, low)

-- ---- version 6

strict_wait : (h : Header) (since from slack : ℕ) (first : View) → says_sender h.version ≡ true → since ≤ from
    → StrictWait (λ o q. q.restarted ≤ from) (TimesOut h) (λ v. not (runs_on h since first v)) (λ l. l.expire) h.grain slack
    (from + run_time h first + slack)
strict_wait h since from slack first six low = record {
  onward = onward';
  rules = λ l all. all.1.0;
  either = λ a b. refl;
  fine = fine;
  reads = λ is like q same restarted. restarted;
}
  where
    onward' : (s : Sampling) (event as_seen : Event) → AsSeen event as_seen → (before after : View) (moment : ℕ) (listener : Option ℕ) (counts : Bool)
        (acknowledged : Option ℕ) (sent : Option Unsent) (o : Owed) (q : StrictOwed) → not (runs_on h since first before) ≡ false → q.restarted ≤ from
        → TimesOut h event before after ⊎ (not (runs_on h since first after) ≡ true)
        ⊎ ((strict_after s as_seen before after moment acknowledged sent q).restarted ≤ from)
    onward' s event as_seen like before after moment listener counts acknowledged sent o q runs restarted =
        test (rebuilds_oldest as_seen before) (runs_on h since first after) refl refl
      where
        test : (a b : Bool) → rebuilds_oldest as_seen before ≡ a → runs_on h since first after ≡ b
            → TimesOut h event before after ⊎ (not (runs_on h since first after) ≡ true)
            ⊎ ((strict_after s as_seen before after moment acknowledged sent q).restarted ≤ from)
        test true b builds on' = inl (inr (six, builds_oldest event as_seen like before builds))
        test false false none stops = inr (inl (ap not stops))
        test false true none on' =
            let was = runs_parts h since first before (not_false (runs_on h since first before) runs) in
            let now = runs_parts h since first after on' in
            let shut = not_opened first.snd_wnd before.snd_wnd after.snd_wnd was.window now.window in
            let same : (strict_after s as_seen before after moment acknowledged sent q).restarted ≡ q.restarted =
            (λ i. if none i || shut i then moment else q.restarted) in
            inr (inr (subst (λ (n : ℕ). n ≤ from) (sym same) restarted))

    fine : (moment : ℕ) (late : Bool) (v : View) (listener : Option ℕ) (o : Owed) (q : StrictOwed)
        → (with_brought late (strict_lates h.grain slack moment v listener o q)).expire ≡ false → not (runs_on h since first v) ≡ false
        → q.restarted ≤ from → moment ≤ from + run_time h first + slack
    fine moment late v listener o q none runs restarted =
        let now = runs_parts h since first v (not_false (runs_on h since first v) runs) in
        let here = strict_open (λ l. l.expire ≡ false) h.grain slack moment late v listener o q now.open' none in
        let due : coarse_expiry_due h.grain v q.restarted ≡ Some (max since q.restarted + longest_coarse_run h.grain v) =
        ap (λ (b : Bool). if b then option_map (λ since. max since q.restarted + longest_coarse_run h.grain v) v.timers.rto_armed else None) now.due
        ∙ ap (option_map (λ since. max since q.restarted + longest_coarse_run h.grain v)) now.armed in
        let le = not_late slack (max since q.restarted + longest_coarse_run h.grain v) moment (coarse_expiry_due h.grain v q.restarted) due here in
        let time : longest_coarse_run h.grain v ≡ run_time h first = strict_run h v six ∙ now.time in
        omega (arith, le, time, restarted, low)

-- ---- from the step on

module _ (t : Trace) (w : Witness) (slack : ℕ) (r : Run t.header slack (length w.steps) (act_at t w) (known_before t w)) (me : EndpointId)
    (to from : ℕ) (high : suc to ≤ length w.steps) (by_then : IsRestartedBy t w to from me) where
  abbrev Happening : (j : ℕ) → Stamped tcp_shape → Type 0
  Happening j x = Touches t.header (known_before t w j) x me
      ⊎ ((owed_by (known_before t w (suc j)).duties me.host me.number ≡ owed_by (known_before t w j).duties me.host me.number)
      × ((event : Event) → (observe t.header x.moment (known_before t w j).model x.step).touched ≡ Some (touched (known_before t w j).model me event) → ⊥))

  -- an act that restarts it is early
  restarts : (j : ℕ) (x : Stamped tcp_shape) → j ≤ to → act_at t w j ≡ Some x → (at : Touches t.header (known_before t w j) x me)
      → Restarts t.header at.event (seen (known_before t w j).model me) (seen (known_before t w (suc j)).model me) → x.moment ≤ from
  restarts j x low is at is_so =
      by_then j x.moment at.event low (happens_from t w j x me at.event is at.shows)
      (subst (λ (v : World tcp_shape). Restarts t.header at.event (seen_before t w j me) (seen v me)) (world_is t w (suc j))
      (subst (λ (v : World tcp_shape). Restarts t.header at.event (seen v me) (seen (known_before t w (suc j)).model me)) (world_is t w j) is_so))

  -- one by which the window opens is
  opens_early : (j : ℕ) (x : Stamped tcp_shape) → j ≤ to → act_at t w j ≡ Some x → Touches t.header (known_before t w j) x me
      → ((seen (known_before t w j).model me).snd_wnd == 0 && nat_lt 0 (seen (known_before t w (suc j)).model me).snd_wnd) ≡ true → x.moment ≤ from
  opens_early j x low is at opens =
      let both = both_true ((seen (known_before t w j).model me).snd_wnd == 0) (nat_lt 0 (seen (known_before t w (suc j)).model me).snd_wnd) opens in
      let shut : (seen (known_before t w j).model me).snd_wnd ≡ 0 = zero_from (seen (known_before t w j).model me).snd_wnd both.0 in
      let more : 0 < (seen (known_before t w (suc j)).model me).snd_wnd = grind (arith, nat_tests, both.1) in
      restarts j x low is at (inl (shut, more))

  -- when the window was opened
  opened_low : (owed_by (known_before t w (suc to)).duties me.host me.number).opened ≤ from
  opened_low =
      run_keeps t.header slack (length w.steps) (act_at t w) (known_before t w) r (λ j k. (owed_by k.duties me.host me.number).opened ≤ from)
      (λ j k p. p) 0 (suc to) (omega arith) high
      (let first : (owed_by (known_before t w 0).duties me.host me.number).opened ≡ 0 =
      ap (λ (k : Known). (owed_by k.duties me.host me.number).opened) r.start
      ∙ ap (λ (o : Owed). o.opened) (nothing_first t.header me.host me.number) in omega (arith, first))
      (λ j x low less is goes old. next j x (omega (arith, less)) is old
      (touches_or_not t.header slack (known_before t w j) (known_before t w (suc j)) x me goes))
    where
      next : (j : ℕ) (x : Stamped tcp_shape) → j ≤ to → act_at t w j ≡ Some x → (owed_by (known_before t w j).duties me.host me.number).opened ≤ from
          → Happening j x → (owed_by (known_before t w (suc j)).duties me.host me.number).opened ≤ from
      next j x low is old (inr same) = subst (λ (n : ℕ). n ≤ from) (sym (ap (λ (o : Owed). o.opened) same.0)) old
      next j x low is old (inl at) =
          let before = seen (known_before t w j).model me in
          let after = seen (known_before t w (suc j)).model me in
          let o = owed_by (known_before t w j).duties me.host me.number in
          let owes = owes_of t w slack r j x me at.event is at.shows in
          subst (λ (n : ℕ). n ≤ from)
          (sym (ap (λ (o : Owed). o.opened) owes.rest ∙ opened_is at.event before after x.moment owes.listener owes.counts o))
          (by (before.snd_wnd == 0 && nat_lt 0 after.snd_wnd) refl)
        where
          by : (b : Bool) → ((seen (known_before t w j).model me).snd_wnd == 0 && nat_lt 0 (seen (known_before t w (suc j)).model me).snd_wnd) ≡ b
              → (if b then x.moment else (owed_by (known_before t w j).duties me.host me.number).opened) ≤ from
          by false is' = old
          by true opens = opens_early j x low is at opens

  -- when the timer was restarted in version 6
  restarted_low : (six : says_sender t.header.version ≡ true) → (strict_by (known_before t w (suc to)).duties me.host me.number).restarted ≤ from
  restarted_low six =
      run_keeps t.header slack (length w.steps) (act_at t w) (known_before t w) r (λ j k. (strict_by k.duties me.host me.number).restarted ≤ from)
      (λ j k p. p) 0 (suc to) (omega arith) high
      (let first : (strict_by (known_before t w 0).duties me.host me.number).restarted ≡ 0 =
      ap (λ (k : Known). (strict_by k.duties me.host me.number).restarted) r.start
      ∙ ap (λ (o : StrictOwed). o.restarted) (strict_first t.header me.host me.number) in omega (arith, first))
      (λ j x low less is goes old. next j x (omega (arith, less)) is goes old
      (touches_or_not t.header slack (known_before t w j) (known_before t w (suc j)) x me goes))
    where
      next : (j : ℕ) (x : Stamped tcp_shape) → j ≤ to → act_at t w j ≡ Some x → Goes t.header slack (known_before t w j) (known_before t w (suc j)) x
          → (strict_by (known_before t w j).duties me.host me.number).restarted ≤ from → Happening j x
          → (strict_by (known_before t w (suc j)).duties me.host me.number).restarted ≤ from
      next j x low is goes old (inr same) =
          subst (λ (o : StrictOwed). o.restarted ≤ from)
          (sym (strict_kept t.header slack (known_before t w j) (known_before t w (suc j)) x me goes six same.1)) old
      next j x low is goes old (inl at) =
          subst (λ (o : StrictOwed). o.restarted ≤ from)
          (sym (strict_touched t.header slack (known_before t w j) (known_before t w (suc j)) x me goes six at.event at.shows))
          (by (rebuilds_oldest (goes.sees.judge at.event) (seen (known_before t w j).model me))
          ((seen (known_before t w j).model me).snd_wnd == 0 && nat_lt 0 (seen (known_before t w (suc j)).model me).snd_wnd) refl refl)
        where
          by : (a b : Bool) → rebuilds_oldest (goes.sees.judge at.event) (seen (known_before t w j).model me) ≡ a
              → ((seen (known_before t w j).model me).snd_wnd == 0 && nat_lt 0 (seen (known_before t w (suc j)).model me).snd_wnd) ≡ b
              → (if a || b then x.moment else (strict_by (known_before t w j).duties me.host me.number).restarted) ≤ from
          by true b builds is' =
              restarts j x low is at (inr (
                six,
                builds_oldest at.event (goes.sees.judge at.event) (goes.sees.alike at.event)
                    (seen (known_before t w j).model me) builds,
              ))
          by false true none opens = opens_early j x low is at opens
          by false false none shut = old

module _ (t : Trace) (w : Witness) (slack : ℕ) (r : Run t.header slack (length w.steps) (act_at t w) (known_before t w))
    (placed : Placed t.header t.lines (moves w.steps))
    (late : first_broken (end_rules t.header slack (last_moment (moves w.steps)) (known_before t w (length w.steps)).duties
    (known_before t w (length w.steps)).model) ≡ None) where
  pub expiries_in_time : ExpiriesAreInTime t w slack
  expiries_in_time place moment since from me event a runs low restarted = by (says_sender t.header.version) refl
    where
      first : View
      first = seen_before t w (suc place) me

      runs_now : not (runs_on t.header since first (seen (known_before t w (suc place)).model me)) ≡ false
      runs_now =
          ap (λ (v : World tcp_shape). not (runs_on t.header since first (seen v me))) (world_is t w (suc place))
          ∙ ap not (runs_self t.header since first runs)

      by : (b : Bool) → says_sender t.header.version ≡ b
          → IsDoneUnless t w place (from + run_time t.header first + slack) me (TimesOut t.header) (λ v. not (runs_on t.header since first v))
      by false plain =
          from_step t w slack r placed me (λ o. o.opened ≤ from) (TimesOut t.header) (λ v. not (runs_on t.header since first v)) (λ l. l.expire) place
          (from + run_time t.header first + slack) (plain_wait t.header since from slack first plain low)
          (plain_same (λ l. l.expire) t.header slack plain)
          (λ is like plain rest low. let same : is.opened ≡ like.opened = ap (λ (o : Owed). o.opened) rest in omega (arith, same, low)) late moment event a
          runs_now (opened_low t w slack r me place from (within t w place a.act a.is) restarted)
      by true six =
          from_step_strictly t w slack r placed six me (λ o q. q.restarted ≤ from) (TimesOut t.header) (λ v. not (runs_on t.header since first v))
          (λ l. l.expire) place (from + run_time t.header first + slack) (strict_wait t.header since from slack first six low) late moment event a
          runs_now (restarted_low t w slack r me place from (within t w place a.act a.is) restarted six)
