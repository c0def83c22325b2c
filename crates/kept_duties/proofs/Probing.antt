-- A closed window is probed in time.
use Rattle.std.proofs.Common.{◌≡◌, ℕ, suc, ◌+◌, ◌*◌, ◌^◌, ◌<◌, ◌≤◌, ◌⊎◌, inl, inr, Bool, true, false, length, Option, Some, None, refl, ap, sym, subst}
use Rattle.std.proofs.Common.{◌∙◌, arith, min}
use Rattle.std.proofs.Math.Nat.{mul-le-mul_left, pow-succ'}
use Rattle.std.proofs.lemmas.Bool.Decides.{nat_tests}
use Rattle.std.proofs.lemmas.Option.{none-some}
use Rattle.std.specs.Prelude.{◌==◌, ◌&&◌, if◌then◌else◌, nat_lt, not}
use Rattle.std.specs.Option.{option_map, option_map_or}
use Rattle.case_forms.specs.Versions.{says_sender}
use Rattle.case_forms.specs.States.{is_closed}
use Rattle.case_forms.specs.declared.steps.Witness.{Witness}
use Rattle.case_forms.specs.declared.timer.Timer.TheVariants.{Persist, Rto}
use Rattle.case_forms.specs.declared.trace.Header.{Header}
use Rattle.case_forms.specs.declared.trace.Trace.{Trace}
use Rattle.timer_rules.specs.Timeouts.{longest_rto}
use Rattle.verdict.specs.Rules.{first_broken}
use Rattle.interval_order.specs.Orders.{last_moment}
use Rattle.interval_order.specs.Placed.{Placed}
use Rattle.spec_network.specs.Hosts.{Stamped, Step, World}
use Rattle.spec_network.specs.Tables.{on}
use Rattle.spec_tcp.specs.Machine.{tcp_shape}
use Rattle.spec_tcp.specs.declared.endpoint.EndpointId.{EndpointId}
use Rattle.spec_tcp_laws.proofs.Rules.{both_true, not_false, not_true, number_same}
use Rattle.spec_cases.specs.Cases.{Known}
use Rattle.spec_duties.specs.Deadlines.{is_late}
use Rattle.spec_duties.specs.End.{end_rules}
use Rattle.spec_duties.specs.Owed.{lates_of, once_closed, owed_after, owed_open}
use Rattle.spec_duties.specs.Probe.{first_probing, greatest_factor, is_probe, next_probe_due, probing_due, still_probing}
use Rattle.spec_duties.specs.Observations.{observe}
use Rattle.spec_duties.specs.Strict.{coarse_probing_due, next_coarse_probe_due, strict_lates, with_brought}
use Rattle.spec_duties.specs.Watching.{owed_by}
use Rattle.spec_duties.specs.declared.events.Event.{Event}
use Rattle.spec_duties.specs.declared.events.Event.TheVariants.{Expires, Sends}
use Rattle.spec_duties.specs.declared.owed.Owed.{Owed}
use Rattle.spec_duties.specs.declared.owed.Probing.{Probing}
use Rattle.spec_duties.specs.declared.strict.StrictOwed.{StrictOwed}
use Rattle.spec_duties.specs.declared.observations.TouchedEndpoint.{TouchedEndpoint}
use Rattle.spec_duties.specs.declared.views.View.{View}
use Rattle.checker.specs.Seen.{moves}
use Rattle.kept_duties.specs.Counts.{event_for}
use Rattle.kept_duties.specs.Expiries.{clock_error}
use Rattle.kept_duties.specs.Happens.{act_at, known_before, seen_before, world_before}
use Rattle.kept_duties.specs.Probes.{Probes, ProbesAreInTime, ProbesIt, awaits_probe, is_probing, is_shut, probe_time}
use Rattle.kept_duties.specs.Probes.{probes_after, probes_before, probes_by, still_probed}
use Rattle.kept_duties.specs.Soon.{IsDoneUnless}
use Rattle.kept_duties.proofs.Judged.{plain_same}
use Rattle.kept_duties.proofs.Counts.{event_here, event_of}
use Rattle.kept_duties.proofs.Inbox.{not_late}
use Rattle.kept_duties.proofs.Repeats.{owes_of}
use Rattle.kept_duties.proofs.Runs.{Run, Steps, onward, world_is}
use Rattle.kept_duties.proofs.Segments.{within}
use Rattle.kept_duties.proofs.Since.{Wait, from_step, nothing_first}
use Rattle.kept_duties.proofs.Soon.{late_open}
use Rattle.kept_duties.proofs.StrictSince.{StrictWait, from_step_strictly}
use Rattle.kept_duties.proofs.Stricter.{strict_open}
use Rattle.kept_duties.proofs.Touched.{AsBefore, AsShown, Touches, as_before, seen, touched, touches_or_not}

abbrev probing_of : Probes → Probing
probing_of p = record { since = p.since; factor = min (2 ^ p.count) greatest_factor }

-- doubling a value that was cut at a limit, and cutting again
cut_twice : (limit n m : ℕ) → m ≡ 2 * n → min (2 * min n limit) limit ≡ min m limit
cut_twice limit n m e = omega arith

-- what duties test is what the law says
probing_test : (event : Event) (v : View) → is_probe event v ≡ is_probing event v
probing_test (Expires Rto) v = refl
probing_test (Expires Persist) v = refl
probing_test (Sends s) v = refl
probing_test event v = refl

probing_is : (event : Event) (before after : View) (moment : ℕ) (listener : Option ℕ) (counts : Bool) (o : Owed) (p : Option Probes)
    → o.probing ≡ option_map probing_of p
    → (owed_after event before after moment listener counts o).probing ≡ option_map probing_of (probes_after event before after moment p)
probing_is event before after moment listener counts o p is = by (is_closed after.state) (is_shut after)
  where
    probed : (b : Bool) (q : Probes)
        → (if b then record { since = moment; factor = min (2 * min (2 ^ q.count) greatest_factor) greatest_factor } else probing_of q)
        ≡ probing_of (if b then record { since = moment; count = suc q.count } else q)
    probed true q =
        ap (λ (n : ℕ). let g : Probing = record { since = moment; factor = n } in g)
        (cut_twice greatest_factor (2 ^ q.count) (2 ^ suc q.count) (pow-succ' 2 q.count))
    probed false q = refl

    again : (p : Option Probes)
        → Some (option_map_or (still_probing event before moment) (option_map probing_of p) (first_probing moment))
        ≡ option_map probing_of (Some (option_map_or (still_probed event before moment) p (record { since = moment; count = 0 })))
    again None = refl
    again (Some q) =
        ap (λ (b : Bool). Some (if b then record { since = moment; factor = min (2 * min (2 ^ q.count) greatest_factor) greatest_factor }
        else probing_of q)) (probing_test event before)
        ∙ ap (λ (g : Probing). Some g) (probed (is_probing event before) q)

    by : (c d : Bool)
        → (if c then once_closed (record (owed_open event before after moment listener counts o) {
          probing =
              if d then Some (option_map_or (still_probing event before moment) o.probing (first_probing moment))
              else None;
        })
        else record (owed_open event before after moment listener counts o) {
          probing =
              if d then Some (option_map_or (still_probing event before moment) o.probing (first_probing moment))
              else None;
        }).probing
        ≡ option_map probing_of (if not c && d then Some (option_map_or (still_probed event before moment) p (record { since = moment; count = 0 })) else None)
    by true d = refl
    by false true = ap (λ (g : Option Probing). Some (option_map_or (still_probing event before moment) g (first_probing moment))) is ∙ again p
    by false false = refl

-- what it means that a probe is awaited
record Awaits (rto : ℕ) (v : View) : Type 0 where
  open' : is_closed v.state ≡ false
  work : is_shut v ≡ true
  same : v.timers.rto ≡ rto

awaits_parts : (rto : ℕ) (v : View) → awaits_probe rto v ≡ true → Awaits rto v
awaits_parts rto v is =
    let a = both_true (not (is_closed v.state) && is_shut v) (v.timers.rto == rto) is in
    let b = both_true (not (is_closed v.state)) (is_shut v) a.0 in
    record { open' = not_true (is_closed v.state) b.0; work = b.1; same = number_same v.timers.rto rto a.1 }

-- what was probed before stays so, unless it is probed again
probe_onward : (rto : ℕ) (p : Probes) (event : Event) (before after : View) (moment : ℕ) (listener : Option ℕ) (counts : Bool) (o : Owed)
    → o.probing ≡ Some (probing_of p)
    → ProbesIt event before after ⊎ (not (awaits_probe rto after) ≡ true)
    ⊎ ((owed_after event before after moment listener counts o).probing ≡ Some (probing_of p))
probe_onward rto p event before after moment listener counts o is = by (is_probing event before) (awaits_probe rto after) refl refl
  where
    by : (a b : Bool) → is_probing event before ≡ a → awaits_probe rto after ≡ b
        → ProbesIt event before after ⊎ (not (awaits_probe rto after) ≡ true)
        ⊎ ((owed_after event before after moment listener counts o).probing ≡ Some (probing_of p))
    by true b probes awaits = inl probes
    by false false none stops = inr (inl (ap not stops))
    by false true none awaits =
        let now = awaits_parts rto after awaits in
        inr (inr (probing_is event before after moment listener counts o (Some p) is
        ∙ ap (λ (c : Bool). option_map probing_of (if not c && is_shut after then Some (still_probed event before moment p)
        else None)) now.open'
        ∙ ap (λ (c : Bool). option_map probing_of (if true && c then Some (still_probed event before moment p) else None)) now.work
        ∙ ap (λ (c : Bool). Some (probing_of (if c then record { since = moment; count = suc p.count } else p))) none))

-- the deadline that duties compute is at most that of the law
probe_soon : (rto error slack moment : ℕ) (p : Probes) (due : Option ℕ) → rto * 2 ^ p.count < longest_rto
    → due ≡ (if nat_lt (rto * (probing_of p).factor) longest_rto then Some (p.since + (rto + error) * (probing_of p).factor) else None)
    → is_late slack moment due ≡ false → moment ≤ p.since + (rto + error) * 2 ^ p.count + slack
probe_soon rto error slack moment p due low is none =
    let cut : min (2 ^ p.count) greatest_factor ≤ 2 ^ p.count = omega arith in
    let short = mul-le-mul_left rto cut in
    let below : nat_lt (rto * min (2 ^ p.count) greatest_factor) longest_rto ≡ true = grind (arith, nat_tests, short, low) in
    let le = not_late slack (p.since + (rto + error) * min (2 ^ p.count) greatest_factor) moment due
    (is ∙ ap (λ (b : Bool). if b then Some (p.since + (rto + error) * min (2 ^ p.count) greatest_factor) else None) below) none in
    let long = mul-le-mul_left (rto + error) cut in
    omega (arith, le, long)

plain_wait : (h : Header) (rto slack : ℕ) (p : Probes) → says_sender h.version ≡ false → rto * 2 ^ p.count < longest_rto
    → Wait (λ o. o.probing ≡ Some (probing_of p)) ProbesIt (λ v. not (awaits_probe rto v)) (λ l. l.probe) slack
    (p.since + (rto + clock_error h) * 2 ^ p.count + slack)
plain_wait h rto slack p plain low = record {
  onward = λ event before after moment listener counts o awaits is. probe_onward rto p event before after moment listener counts o is;
  rules = λ l all. all.1.1.1.0;
  either = λ a b. refl;
  fine = fine;
}
  where
    fine : (moment : ℕ) (v : View) (listener : Option ℕ) (o : Owed) → (lates_of slack moment v listener o).probe ≡ false → not (awaits_probe rto v) ≡ false
        → o.probing ≡ Some (probing_of p) → moment ≤ p.since + (rto + clock_error h) * 2 ^ p.count + slack
    fine moment v listener o none awaits is =
        let now = awaits_parts rto v (not_false (awaits_probe rto v) awaits) in
        let same : rto ≡ rto + clock_error h =
        (let e : clock_error h ≡ 0 = ap (λ (b : Bool). if b then 5 * h.grain else 0) plain in omega (arith, e)) in
        probe_soon rto (clock_error h) slack moment p (probing_due v o.probing) low
        (ap (λ (g : Option Probing). option_map_or (next_probe_due v.timers.rto) g None) is
        ∙ ap (λ (n : ℕ). next_probe_due n (probing_of p)) now.same
        ∙ ap (λ (n : ℕ). if nat_lt (rto * (probing_of p).factor) longest_rto then Some (p.since + n * (probing_of p).factor) else None) same)
        (late_open (λ l. l.probe ≡ false) slack moment v listener o now.open' none)

strict_wait : (h : Header) (rto slack : ℕ) (p : Probes) → says_sender h.version ≡ true → rto * 2 ^ p.count < longest_rto
    → StrictWait (λ o q. o.probing ≡ Some (probing_of p)) ProbesIt (λ v. not (awaits_probe rto v)) (λ l. l.probe) h.grain slack
    (p.since + (rto + clock_error h) * 2 ^ p.count + slack)
strict_wait h rto slack p six low = record {
  onward = λ s event as_seen like before after moment listener counts acknowledged sent o q awaits is.
      probe_onward rto p event before after moment listener counts o is;
  rules = λ l all. all.1.1.1.0;
  either = λ a b. refl;
  fine = fine;
  reads = λ is like q same probing. ap (λ (o : Owed). o.probing) same ∙ probing;
}
  where
    fine : (moment : ℕ) (late : Bool) (v : View) (listener : Option ℕ) (o : Owed) (q : StrictOwed)
        → (with_brought late (strict_lates h.grain slack moment v listener o q)).probe ≡ false → not (awaits_probe rto v) ≡ false
        → o.probing ≡ Some (probing_of p) → moment ≤ p.since + (rto + clock_error h) * 2 ^ p.count + slack
    fine moment late v listener o q none awaits is =
        let now = awaits_parts rto v (not_false (awaits_probe rto v) awaits) in
        probe_soon rto (clock_error h) slack moment p (coarse_probing_due h.grain v o.probing) low
        (ap (λ (g : Option Probing). option_map_or (next_coarse_probe_due h.grain v.timers.rto) g None) is
        ∙ ap (λ (n : ℕ). next_coarse_probe_due h.grain n (probing_of p)) now.same
        ∙ ap (λ (b : Bool). if nat_lt (rto * (probing_of p).factor) longest_rto
        then Some (p.since + (rto + (if b then 5 * h.grain else 0)) * (probing_of p).factor) else None) (sym six))
        (strict_open (λ l. l.probe ≡ false) h.grain slack moment late v listener o q now.open' none)

-- a step that does nothing at the endpoint has no event for it
no_event : (h : Header) (moment : ℕ) (v : World tcp_shape) (step : Step tcp_shape) (me : EndpointId)
    → ((event : Event) → (observe h moment v step).touched ≡ Some (touched v me event) → ⊥) → event_for me (observe h moment v step).touched ≡ None
no_event h moment v step me none = by (event_for me (observe h moment v step).touched) refl
  where
    same : (event : Event) (s : TouchedEndpoint) → (observe h moment v step).touched ≡ Some s → s.host ≡ me.host → s.place ≡ me.number → s.event ≡ event
        → AsShown v step s → ⊥
    same event s shows host number is found =
        none event (shows ∙ (λ i. Some (record {
          host = host i;
          place = number i;
          event = is i;
          before = (found.before ∙ (λ i. seen v (record { host = host i; number = number i }))) i;
        })))

    by : (o : Option Event) → event_for me (observe h moment v step).touched ≡ o → o ≡ None
    by None is = refl
    by (Some event) is =
        let s = event_of me (observe h moment v step).touched event is in
        absurd (same event s.0 s.1 s.2 s.3 s.4 (subst (AsBefore v step) s.1 (as_before h moment v step)))

-- ---- from the step on

module _ (t : Trace) (w : Witness) (slack : ℕ) (r : Run t.header slack (length w.steps) (act_at t w) (known_before t w)) where
  -- the probes of a window by what duties keep
  abbrev Agree : EndpointId → ℕ → Type 0
  Agree me j = (owed_by (known_before t w j).duties me.host me.number).probing ≡ option_map probing_of (probes_before t w me j)

  agree_next : (me : EndpointId) (j : ℕ) → j < length w.steps → Agree me j → Agree me (suc j)
  agree_next me j low old = by (act_at t w j) refl (r.each j low)
    where
      before : View
      before = seen (known_before t w j).model me

      after : View
      after = seen (known_before t w (suc j)).model me

      probes : Option Probes
      probes = probes_before t w me j

      touch_or : (x : Stamped tcp_shape) → act_at t w j ≡ Some x
          → Touches t.header (known_before t w j) x me
          ⊎ ((owed_by (known_before t w (suc j)).duties me.host me.number ≡ owed_by (known_before t w j).duties me.host me.number)
          × ((event : Event) → (observe t.header x.moment (known_before t w j).model x.step).touched ≡ Some (touched (known_before t w j).model me event) → ⊥))
          → (owed_by (known_before t w (suc j)).duties me.host me.number).probing ≡ option_map probing_of (probes_by t w me j probes x)
      touch_or x at (inr same) =
          let none = no_event t.header x.moment (known_before t w j).model x.step me same.1 in
          ap (λ (o : Owed). o.probing) same.0 ∙ old
          ∙ ap (λ (o : Option Event). option_map probing_of (on o probes
          (λ event. probes_after event (seen_before t w j me) (seen_before t w (suc j) me) x.moment probes))) (sym none)
          ∙ ap (λ (v : World tcp_shape). option_map probing_of (on (event_for me (observe t.header x.moment v x.step).touched) probes
          (λ event. probes_after event (seen_before t w j me) (seen_before t w (suc j) me) x.moment probes))) (world_is t w j)
      touch_or x at (inl touch) =
          let owes = owes_of t w slack r j x me touch.event at touch.shows in
          let here : event_for me (observe t.header x.moment (known_before t w j).model x.step).touched ≡ Some touch.event =
          ap (event_for me) touch.shows ∙ event_here (known_before t w j).model me touch.event in
          ap (λ (o : Owed). o.probing) owes.rest
          ∙ probing_is touch.event before after x.moment owes.listener owes.counts (owed_by (known_before t w j).duties me.host me.number) probes old
          ∙ ap (λ (v : World tcp_shape). option_map probing_of (probes_after touch.event (seen v me) after x.moment probes)) (world_is t w j)
          ∙ ap (λ (v : World tcp_shape). option_map probing_of (probes_after touch.event (seen_before t w j me) (seen v me) x.moment probes))
          (world_is t w (suc j))
          ∙ ap (λ (o : Option Event). option_map probing_of (on o probes
          (λ event. probes_after event (seen_before t w j me) (seen_before t w (suc j) me) x.moment probes))) (sym here)
          ∙ ap (λ (v : World tcp_shape). option_map probing_of (on (event_for me (observe t.header x.moment v x.step).touched) probes
          (λ event. probes_after event (seen_before t w j me) (seen_before t w (suc j) me) x.moment probes))) (world_is t w j)

      by : (o : Option (Stamped tcp_shape)) → act_at t w j ≡ o → Steps t.header slack (known_before t w j) (known_before t w (suc j)) o → Agree me (suc j)
      by None at same =
          ap (λ (k : Known). (owed_by k.duties me.host me.number).probing) same ∙ old
          ∙ ap (λ (o : Option (Stamped tcp_shape)). option_map probing_of (on o probes (probes_by t w me j probes))) (sym at)
      by (Some x) at goes =
          touch_or x at (touches_or_not t.header slack (known_before t w j) (known_before t w (suc j)) x me goes)
          ∙ ap (λ (o : Option (Stamped tcp_shape)). option_map probing_of (on o probes (probes_by t w me j probes))) (sym at)

  agree_at : (me : EndpointId) (to : ℕ) → to ≤ length w.steps → Agree me to
  agree_at me to high =
      onward (Agree me) 0 to (omega arith)
      (ap (λ (k : Known). (owed_by k.duties me.host me.number).probing) r.start ∙ ap (λ (o : Owed). o.probing) (nothing_first t.header me.host me.number))
      (λ j low less old. agree_next me j (omega (arith, less, high)) old)

  pub probes_in_time : (placed : Placed t.header t.lines (moves w.steps))
      → first_broken (end_rules t.header slack (last_moment (moves w.steps)) (known_before t w (length w.steps)).duties
      (known_before t w (length w.steps)).model) ≡ None
      → ProbesAreInTime t w slack
  probes_in_time placed late place moment me event p a probes low = by (says_sender t.header.version) refl
    where
      first : View
      first = seen_before t w (suc place) me

      old : Option Probes
      old = probes_before t w me place

      -- the step is one of the endpoint
      shows : probes_before t w me (suc place) ≡ probes_after event (seen_before t w place me) first a.act.moment old
      shows =
          ap (λ (o : Option (Stamped tcp_shape)). on o old (probes_by t w me place old)) a.is
          ∙ ap (λ (o : Option TouchedEndpoint). on (event_for me o) old
          (λ event. probes_after event (seen_before t w place me) first a.act.moment old)) a.touches
          ∙ ap (λ (o : Option Event). on o old (λ event. probes_after event (seen_before t w place me) first a.act.moment old))
          (event_here (world_before t w place) me event)

      is_so : (b : Bool) (q : Probes) → (if b then Some q else None) ≡ Some p → b ≡ true
      is_so true q is = refl
      is_so false q is = absurd (none-some p is)

      awaits : awaits_probe first.timers.rto first ≡ true
      awaits =
          let so = is_so (not (is_closed first.state) && is_shut first)
          (option_map_or (still_probed event (seen_before t w place me) a.act.moment) old (record { since = a.act.moment; count = 0 })) (sym shows ∙ probes) in
          let same : (first.timers.rto == first.timers.rto) ≡ true = grind (arith, nat_tests) in
          (λ i. so i && same i)

      awaits_now : not (awaits_probe first.timers.rto (seen (known_before t w (suc place)).model me)) ≡ false
      awaits_now = ap (λ (v : World tcp_shape). not (awaits_probe first.timers.rto (seen v me))) (world_is t w (suc place)) ∙ ap not awaits

      owes : (owed_by (known_before t w (suc place)).duties me.host me.number).probing ≡ Some (probing_of p)
      owes = agree_at me (suc place) (within t w place a.act a.is) ∙ ap (option_map probing_of) probes

      by : (b : Bool) → says_sender t.header.version ≡ b
          → IsDoneUnless t w place (p.since + probe_time t.header first p.count + slack) me ProbesIt (λ v. not (awaits_probe first.timers.rto v))
      by false plain =
          from_step t w slack r placed me (λ o. o.probing ≡ Some (probing_of p)) ProbesIt (λ v. not (awaits_probe first.timers.rto v)) (λ l. l.probe) place
          (p.since + probe_time t.header first p.count + slack) (plain_wait t.header first.timers.rto slack p plain low)
          (plain_same (λ l. l.probe) t.header slack plain) (λ is like plain rest owes. ap (λ (o : Owed). o.probing) rest ∙ owes) late moment event a
          awaits_now owes
      by true six =
          from_step_strictly t w slack r placed six me (λ o q. o.probing ≡ Some (probing_of p)) ProbesIt (λ v. not (awaits_probe first.timers.rto v))
          (λ l. l.probe) place (p.since + probe_time t.header first p.count + slack) (strict_wait t.header first.timers.rto slack p six low) late moment
          event a awaits_now owes
