-- In version 6, what is built is sent in time.
use Rattle.std.proofs.Common.{◌≡◌, ℕ, suc, ◌+◌, ◌<◌, ◌≤◌, ◌⊎◌, inl, inr, Bool, true, false, List, [], ◌∷◌, length, Option, Some, None, refl, ap, sym, subst}
use Rattle.std.proofs.Common.{◌∙◌, nat_eq, arith}
use Rattle.std.specs.Prelude.{◌&&◌, not}
use Rattle.std.specs.Option.{option_map_or}
use Rattle.std.proofs.lemmas.Bool.Decides.{nat_tests}
use Rattle.std.proofs.lemmas.Option.{none-some, same_Some, some_pair_parts}
use Rattle.case_forms.specs.States.{is_time_wait}
use Rattle.case_forms.specs.Versions.{says_sender}
use Rattle.case_forms.specs.declared.calls.Host.{Host}
use Rattle.case_forms.specs.declared.calls.State.{State}
use Rattle.case_forms.specs.declared.calls.State.TheVariants as states
use Rattle.case_forms.specs.declared.named_line.NamedLine.{NamedLine}
use Rattle.case_forms.specs.declared.steps.Label.{Label}
use Rattle.case_forms.specs.declared.steps.Label.TheVariants as labels
use Rattle.case_forms.specs.declared.steps.SegmentPlan.{SegmentPlan}
use Rattle.case_forms.specs.declared.steps.Step as witness
use Rattle.case_forms.specs.declared.steps.Witness.{Witness}
use Rattle.case_forms.specs.declared.trace.Header.{Header}
use Rattle.case_forms.specs.declared.trace.Trace.{Trace}
use Rattle.case_forms.specs.declared.trace.Wire.{Wire}
use Rattle.verdict.proofs.RuleLemmas.{none_all}
use Rattle.interval_order.specs.Orders.{last_moment}
use Rattle.spec_network.specs.HostSteps.{Lawful, after}
use Rattle.spec_network.specs.Hosts.{At, Makes, Sends, Stamped, Step, World}
use Rattle.spec_network.specs.Hosts as model
use Rattle.spec_network.specs.Tables.{waiting}
use Rattle.spec_tcp.specs.Machine.{tcp, tcp_shape}
use Rattle.spec_tcp_laws.proofs.Rules.{both_true, neither}
use Rattle.spec_cases.specs.Cases.{Dutiful, Known, first_known, known_after_all, late_at_end}
use Rattle.spec_duties.specs.End.{any_unsent, end_rules, is_send_late}
use Rattle.spec_duties.specs.Deadlines.{is_late}
use Rattle.spec_duties.specs.Observations.{observe, view_in}
use Rattle.spec_duties.specs.Strict.{is_spared}
use Rattle.spec_duties.specs.Watching.{built_unsent, unsent_after}
use Rattle.spec_duties.specs.declared.events.Event.{Event}
use Rattle.spec_duties.specs.declared.events.Event.TheVariants as events
use Rattle.spec_duties.specs.declared.observations.BuiltChange.{BuiltChange}
use Rattle.spec_duties.specs.declared.observations.BuiltChange.TheVariants as built_change
use Rattle.spec_duties.specs.declared.observations.TouchedEndpoint.{TouchedEndpoint}
use Rattle.spec_duties.specs.declared.strict.Unsent.{Unsent}
use Rattle.spec_duties.specs.declared.views.View.{View}
use Rattle.checker.specs.Seen.{act_of, moves, stamped}
use Rattle.kept_duties.specs.Happens.{act_at, known_before}
use Rattle.kept_duties.specs.Made.{IsSentBy, ResetsTimeWait, WhatIsBuiltIsSent}
use Rattle.kept_duties.specs.Places.{IsStep, builder}
use Rattle.kept_duties.specs.Segments.{EndsBy}
use Rattle.kept_duties.proofs.Built.{WasBuilt, low_number, same_builder, same_place, sent_in_time}
use Rattle.kept_duties.proofs.Excused.{AsSeen, as_event, judged_by}
use Rattle.kept_duties.proofs.Inbox.{not_late}
use Rattle.kept_duties.proofs.Labels.{sends_at}
use Rattle.kept_duties.proofs.Observations.{BuiltChangeOf, built_change_builds, built_change_of, builds, sends, waiting_elsewhere, waiting_here}
use Rattle.kept_duties.proofs.Repeats.{happens_from}
use Rattle.kept_duties.proofs.Runs.{Goes, Run, run_goes, run_keeps, world_is}
use Rattle.kept_duties.proofs.Segments.{count_is, end_fine, run, within}
use Rattle.kept_duties.proofs.Touched.{AsBefore, StepDoes, as_before, name_of, seen}

-- ---- tables

-- what is late of nothing that wasn't sent isn't of one of these
pub unsent_fine : (late : Unsent → Bool) (q : ℕ) (es : List (ℕ × Option Unsent)) → any_unsent late es ≡ false
    → option_map_or late (waiting q es) false ≡ false
unsent_fine late q [] none = refl
unsent_fine late q (e ∷ es) none =
    let both = neither (option_map_or late e.1 false) (any_unsent late es) none in
    by (nat_eq q e.0) refl both.0 (unsent_fine late q es both.1)
  where
    by : (b : Bool) → nat_eq q e.0 ≡ b → option_map_or late e.1 false ≡ false → option_map_or late (waiting q es) false ≡ false
        → option_map_or late (waiting q (e ∷ es)) false ≡ false
    by true same this rest = rw same this
    by false differs this rest = rw differs rest

-- ---- a segment that is built, until it is sent

module _ (h : Header) (slack n : ℕ) (acts : ℕ → Option (Stamped tcp_shape)) (known : ℕ → Known) (r : Run h slack n acts known)
    (six : says_sender h.version ≡ true) where
  -- after this place and by this moment, an act sends the segment of that number
  pub record Sent (from by : ℕ) (host : Host) (number : ℕ) : Type 0 where
    pub place : ℕ
    pub act : Stamped tcp_shape
    pub after : from < place
    pub low : place < n
    pub is : acts place ≡ Some act
    pub sends : sends act.step ≡ Some (host, number)
    pub soon : act.moment ≤ by

  -- what duties see of the endpoint that an act touches
  abbrev pub touched_by : (j : ℕ) (x : Stamped tcp_shape) → Goes h slack (known j) (known (suc j)) x → Option TouchedEndpoint
  touched_by j x goes = judged_by goes.sees.judge (observe h x.moment (known j).model x.step).touched

  abbrev pub view_by : (j : ℕ) (x : Stamped tcp_shape) → Goes h slack (known j) (known (suc j)) x → View
  view_by j x goes = view_in (after (tcp h) x.moment (known j).model x.step) (touched_by j x goes)

  -- what is kept of a segment that an act builds
  abbrev pub kept_of : (j : ℕ) (x : Stamped tcp_shape) → Goes h slack (known j) (known (suc j)) x → Unsent
  kept_of j x goes = built_unsent (view_by j x goes) x.moment (known j).duties (touched_by j x goes)

  pub go_on : (j : ℕ) (x : Stamped tcp_shape) (goes : Goes h slack (known j) (known (suc j)) x) (q : ℕ) (p : BuiltChange)
      → (observe h x.moment (known j).model x.step).built_change ≡ p
      → waiting q (known (suc j)).duties.unsent ≡ waiting q (unsent_after (view_by j x goes) x.moment (known j).duties (touched_by j x goes) p)
  go_on j x goes q p shows =
      ap (waiting q) (goes.unsent six)
      ∙ ap (λ p. waiting q (unsent_after (view_by j x goes) x.moment (known j).duties (touched_by j x goes) p)) shows

  module _ (i : ℕ) (x : Stamped tcp_shape) (host : Host) (number : ℕ) (low : i < n) (is : acts i ≡ Some x) (makes : builds x.step ≡ Some host)
      (count : number ≡ suc (known i).model.count) where
    pub goes_here : Goes h slack (known i) (known (suc i)) x
    goes_here = run_goes h slack n acts known r i x low is

    abbrev pub kept_here : Unsent
    kept_here = kept_of i x goes_here

    abbrev pub was_built : (j : ℕ) → suc i ≤ j → WasBuilt h slack n acts known r j host number
    was_built j behind = record { place = i; act = x; low = omega (arith, behind); is = is; builds = makes; count = count }

    abbrev pub IsSent : ℕ → Known → Type 0
    IsSent j k = Sent i (x.moment + slack) host number ⊎ (waiting number k.duties.unsent ≡ Some kept_here)

    pub begins : waiting number (known (suc i)).duties.unsent ≡ Some kept_here
    begins =
        go_on i x goes_here number (built_change.Builds number)
        (built_change_builds h x.moment (known i).model x.step host makes ∙ ap built_change.Builds (sym count))
        ∙ waiting_here number (Some kept_here) (known i).duties.unsent

    -- it is sent now, or goes on waiting
    pub sent_or_waits : (j : ℕ) (y : Stamped tcp_shape) → suc i ≤ j → j < n → acts j ≡ Some y → Goes h slack (known j) (known (suc j)) y
        → waiting number (known j).duties.unsent ≡ Some kept_here
        → (sends y.step ≡ Some (host, number)) ⊎ (waiting number (known (suc j)).duties.unsent ≡ Some kept_here)
    sent_or_waits j y behind less at goes waits =
        by (observe h y.moment (known j).model y.step).built_change refl (built_change_of h y.moment (known j).model y.step)
      where
        by : (p : BuiltChange) → (observe h y.moment (known j).model y.step).built_change ≡ p → BuiltChangeOf (known j).model.count p y.step
            → (sends y.step ≡ Some (host, number)) ⊎ (waiting number (known (suc j)).duties.unsent ≡ Some kept_here)
        by built_change.Nothing shows of = inr (go_on j y goes number built_change.Nothing shows ∙ waits)
        by (built_change.Builds q) shows of =
            let most = low_number h slack n acts known r j host number (omega (arith, less)) (was_built j behind) in
            let next = of.0 in
            let other : nat_eq number q ≡ false = grind (arith, nat_tests, most, next) in
            inr (go_on j y goes number (built_change.Builds q) shows
            ∙ waiting_elsewhere number q (Some (kept_of j y goes)) (known j).duties.unsent other ∙ waits)
        by (built_change.Sends q) shows of = test (nat_eq number q) refl
          where
            test : (b : Bool) → nat_eq number q ≡ b
                → (sends y.step ≡ Some (host, number)) ⊎ (waiting number (known (suc j)).duties.unsent ≡ Some kept_here)
            test true same =
                let e : q ≡ number = grind (arith, nat_tests, same) in
                let sending : sends y.step ≡ Some (of.0, number) = of.1 ∙ ap (λ (k : ℕ). Some (of.0, k)) e in
                let b = sent_in_time h slack n acts known r j y of.0 number less at sending in
                let one = same_builder h slack n acts known r j of.0 host number (omega (arith, less)) b.0 (was_built j behind) in
                inl (sending ∙ ap (λ (g : Host). Some (g, number)) one)
            test false differs =
                inr (go_on j y goes number (built_change.Sends q) shows ∙ waiting_elsewhere number q None (known j).duties.unsent differs ∙ waits)

    -- the act that sends it is in time
    pub sent_soon : (j : ℕ) (y : Stamped tcp_shape) → suc i ≤ j → j < n → acts j ≡ Some y → sends y.step ≡ Some (host, number)
        → y.moment ≤ x.moment + slack
    sent_soon j y behind less at sending =
        let b = sent_in_time h slack n acts known r j y host number less at sending in
        let here = same_place h slack n acts known r j host host number (omega (arith, less)) b.0 (was_built j behind) in
        let one : b.0.act ≡ x = same_Some b.0.act x (sym b.0.is ∙ ap acts here ∙ is) in
        subst (λ (z : Stamped tcp_shape). y.moment ≤ z.moment + slack) one b.1

    more : (j : ℕ) (y : Stamped tcp_shape) → suc i ≤ j → j < n → acts j ≡ Some y → Goes h slack (known j) (known (suc j)) y
        → IsSent j (known j) → IsSent (suc j) (known (suc j))
    more j y behind less at goes (inl sent) = inl sent
    more j y behind less at goes (inr waits) = by (sent_or_waits j y behind less at goes waits)
      where
        by : (sends y.step ≡ Some (host, number)) ⊎ (waiting number (known (suc j)).duties.unsent ≡ Some kept_here) → IsSent (suc j) (known (suc j))
        by (inl sending) = inl (record {
          place = j;
          act = y;
          after = omega (arith, behind);
          low = less;
          is = at;
          sends = sending;
          soon = sent_soon j y behind less at sending;
        })
        by (inr still) = inr still

    -- it is sent in time, or is there at the end
    pub sent_or_left : IsSent n (known n)
    sent_or_left = run_keeps h slack n acts known r IsSent (λ j k q. q) (suc i) n (omega (arith, low)) (omega arith) (inr begins) more

-- ---- what need not be sent

spared_alike : (event seen : Event) → AsSeen event seen → (before : View) → is_spared seen before ≡ is_spared event before
spared_alike event seen like before =
    as_event (λ (e : Event). is_spared seen before ≡ is_spared e before) (λ asks now unlimited q. q) event seen like refl

time_wait_is : (s : State) → is_time_wait s ≡ true → s ≡ states.TimeWait
time_wait_is states.TimeWait is = refl
time_wait_is states.Closed is = absurd cc
time_wait_is states.Listen is = absurd cc
time_wait_is states.SynSent is = absurd cc
time_wait_is states.SynReceived is = absurd cc
time_wait_is states.Established is = absurd cc
time_wait_is states.FinWait1 is = absurd cc
time_wait_is states.FinWait2 is = absurd cc
time_wait_is states.CloseWait is = absurd cc
time_wait_is states.Closing is = absurd cc
time_wait_is states.LastAck is = absurd cc

spared_is : (event : Event) (before : View) → is_spared event before ≡ true
    → (m : SegmentPlan) × (event ≡ events.Builds m) × (m.flags.rst ≡ true) × (before.state ≡ states.TimeWait)
spared_is (events.Builds m) before is =
    let both = both_true m.flags.rst (is_time_wait before.state) is in (m, refl, both.0, time_wait_is before.state both.1)
spared_is event before is = absurd cc

-- ---- the trace and the witness

-- the step that sends a segment, from what it does with it
pub sends_step : (step : Step tcp_shape) (host : Host) (number : ℕ) → sends step ≡ Some (host, number)
    → (line : ℕ) × (wire : Wire) × (step ≡ At host (Sends line number wire))
sends_step (At g (Sends line k wire)) host number is =
    let same = some_pair_parts g host k number is in (line, wire, λ i. At (same.0 i) (Sends line (same.1 i) wire))
sends_step step host number is = absurd (none-some (host, number) is)

-- the act of a step that builds a segment
building_act : (t : Trace) (w : Witness) (place moment : ℕ) (host : Host) (label : Label NamedLine) → builder label ≡ Some host
    → IsStep w place moment label
    → (x : Stamped tcp_shape) × (act_at t w place ≡ Some x) × (x.moment ≡ moment) × (builds x.step ≡ Some host)
building_act t w place moment host (labels.M g plan) of is = (
  record { moment = moment; step = At g (Makes plan) },
  ap (λ (o : Option witness.Step). option_map_or (act_of t.header t.lines) o None) is.here,
  refl,
  of,
)
building_act t w place moment host (labels.R g line) of is = (
  record { moment = moment; step = At g (model.Answers line) },
  ap (λ (o : Option witness.Step). option_map_or (act_of t.header t.lines) o None) is.here,
  refl,
  of,
)
building_act t w place moment host label of is = absurd (none-some host of)

module _ (t : Trace) (w : Witness) (slack : ℕ) (given : t.header.slack ≡ Some slack)
    (lawful : Lawful (tcp t.header) (first_known t.header).model (stamped t.header t.lines w.steps))
    (dutiful : Dutiful t.header (first_known t.header) (stamped t.header t.lines w.steps)) (six : says_sender t.header.version ≡ true) where
  abbrev acts : ℕ → Option (Stamped tcp_shape)
  acts = act_at t w

  abbrev known : ℕ → Known
  known = known_before t w

  abbrev runs : Run t.header slack (length w.steps) (act_at t w) (known_before t w)
  runs = run t w slack given lawful dutiful

  -- a segment that an act builds and that need not be sent
  resets : (place : ℕ) (x : Stamped tcp_shape) (host : Host) (goes : Goes t.header slack (known place) (known (suc place)) x)
      → act_at t w place ≡ Some x → builds x.step ≡ Some host
      → (kept_of t.header slack (length w.steps) acts known runs six place x goes).spared ≡ true → ResetsTimeWait t w place x.moment host
  resets place x host goes is makes = by (observe t.header x.moment (known place).model x.step).touched refl
      (as_before t.header x.moment (known place).model x.step)
    where
      by : (o : Option TouchedEndpoint) → (observe t.header x.moment (known place).model x.step).touched ≡ o
          → AsBefore (known place).model x.step o
          → option_map_or (λ (t : TouchedEndpoint). is_spared t.event t.before) (judged_by goes.sees.judge o) false ≡ true
          → ResetsTimeWait t w place x.moment host
      by None shows before spared = absurd cc
      by (Some a) shows before spared =
          let s = spared_is a.event a.before (sym (spared_alike a.event (goes.sees.judge a.event) (goes.sees.alike a.event) a.before) ∙ spared) in
          let does : x.step ≡ At a.host (Makes s.0) = subst (λ (e : Event). StepDoes x.step a.host e) s.1 before.does in
          record {
            me = name_of a;
            segment = s.0;
            of = same_Some a.host host (sym (ap builds does) ∙ makes);
            builds =
                happens_from t w place x (name_of a) (events.Builds s.0) is
                (shows ∙ (λ i. Some (record { host = a.host; place = a.place; event = s.1 i; before = before.before i })));
            resets = s.2;
            waits = ap (λ (v : World tcp_shape). (seen v (name_of a)).state) (sym (world_is t w place)) ∙ sym (ap (λ (v : View). v.state) before.before) ∙ s.3;
          }

  pub built_sent : late_at_end t.header (last_moment (moves w.steps)) (known_after_all t.header (first_known t.header) (stamped t.header t.lines w.steps))
      ≡ None → WhatIsBuiltIsSent t w slack
  built_sent late place moment number host b = by (building_act t w place moment host b.label b.builds b.step)
    where
      by : (x : Stamped tcp_shape) × (act_at t w place ≡ Some x) × (x.moment ≡ moment) × (builds x.step ≡ Some host)
          → IsSentBy t w place (moment + slack) host number ⊎ ResetsTimeWait t w place moment host ⊎ EndsBy w (moment + slack)
      by (x, is, time, makes) =
          subst (λ (m : ℕ). IsSentBy t w place (m + slack) host number ⊎ ResetsTimeWait t w place m host ⊎ EndsBy w (m + slack)) time
          (ends (sent_or_left t.header slack (length w.steps) acts known runs six place x host number low is makes count))
        where
          low : place < length w.steps
          low = within t w place x is

          count : number ≡ suc (known place).model.count
          count = b.count ∙ ap (λ (n : ℕ). suc n) (sym (count_is t w slack given lawful dutiful place (omega (arith, low))))

          goes : Goes t.header slack (known place) (known (suc place)) x
          goes = goes_here t.header slack (length w.steps) acts known runs six place x host number low is makes count

          kept : Unsent
          kept = kept_of t.header slack (length w.steps) acts known runs six place x goes

          ends : Sent t.header slack (length w.steps) acts known runs six place (x.moment + slack) host number
              ⊎ (waiting number (known (length w.steps)).duties.unsent ≡ Some kept)
              → IsSentBy t w place (x.moment + slack) host number ⊎ ResetsTimeWait t w place x.moment host ⊎ EndsBy w (x.moment + slack)
          ends (inl sent) =
              let s = sends_step sent.act.step host number sent.sends in
              inl (record {
                later = sent.place;
                moment = sent.act.moment;
                behind = sent.after;
                sends = sends_at t w sent.place sent.act sent.is host s.0 number s.1 s.2;
                soon = sent.soon;
              })
          ends (inr waits) = at_end kept.spared refl (sym (ap (λ (o : Option Unsent). option_map_or (is_send_late slack last) o false) waits)
              ∙ unsent_fine (is_send_late slack last) number (known (length w.steps)).duties.unsent fine)
            where
              last : ℕ
              last = last_moment (moves w.steps)

              fine : any_unsent (is_send_late slack last) (known (length w.steps)).duties.unsent ≡ false
              fine =
                  (none_all (end_rules t.header slack last (known (length w.steps)).duties (known (length w.steps)).model)
                  (end_fine t w slack given late)).1.0

              at_end : (spared : Bool) → kept.spared ≡ spared → (not kept.spared && is_late slack last (Some x.moment)) ≡ false
                  → IsSentBy t w place (x.moment + slack) host number ⊎ ResetsTimeWait t w place x.moment host ⊎ EndsBy w (x.moment + slack)
              at_end true spared none = inr (inl (resets place x host goes is makes spared))
              at_end false spared none =
                  inr (inr (not_late slack x.moment last (Some x.moment) refl
                  (sym (ap (λ (b : Bool). not b && is_late slack last (Some x.moment)) spared) ∙ none)))
