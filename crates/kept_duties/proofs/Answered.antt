-- In version 6, what an endpoint receives is answered by a segment that is built after it.
use Rattle.std.proofs.Common.{◌≡◌, ℕ, suc, ◌+◌, ◌<◌, ◌≤◌, ◌⊎◌, inl, inr, Bool, true, false, length, Option, Some, None, refl, ap, sym, subst, ◌∙◌, arith}
use Rattle.std.specs.Prelude.{◌||◌, if◌then◌else◌}
use Rattle.std.specs.Option.{option_map_or}
use Rattle.std.proofs.lemmas.Option.{same_Some}
use Rattle.case_forms.specs.States.{is_closed}
use Rattle.case_forms.specs.Versions.{says_sender}
use Rattle.case_forms.specs.declared.steps.SegmentPlan.{SegmentPlan}
use Rattle.case_forms.specs.declared.steps.Witness.{Witness}
use Rattle.case_forms.specs.declared.trace.Trace.{Trace}
use Rattle.verdict.proofs.RuleLemmas.{none_all}
use Rattle.interval_order.specs.Orders.{last_moment}
use Rattle.interval_order.specs.Placed.{Placed}
use Rattle.spec_network.specs.HostSteps.{Lawful}
use Rattle.spec_network.specs.Hosts.{Stamped, World}
use Rattle.spec_network.specs.Tables.{on, waiting}
use Rattle.spec_tcp.specs.Machine.{tcp, tcp_shape}
use Rattle.spec_tcp.specs.declared.endpoint.Endpoint.{Endpoint}
use Rattle.spec_tcp.specs.declared.endpoint.EndpointId.{EndpointId}
use Rattle.spec_tcp_laws.specs.Consequences.{find}
use Rattle.spec_tcp_laws.proofs.Rules.{neither}
use Rattle.spec_cases.specs.Cases.{Dutiful, Known, first_known, known_after_all, late_at_end}
use Rattle.spec_duties.specs.Acknowledge.{longest_delay, receives}
use Rattle.spec_duties.specs.End.{any_unsent, end_rules, is_brought_late, lates_of_all}
use Rattle.spec_duties.specs.Observations.{observe}
use Rattle.spec_duties.specs.Strict.{brought_by, builds_answer, is_sent_before_text, taken_over}
use Rattle.spec_duties.specs.Watching.{listener_closed, owed_by, sent_by, strict_by}
use Rattle.spec_duties.specs.declared.events.Event.{Event}
use Rattle.spec_duties.specs.declared.events.Event.TheVariants.{Builds, Processes, Sends}
use Rattle.spec_duties.specs.declared.events.Sending.{Sending}
use Rattle.spec_duties.specs.declared.observations.TouchedEndpoint.{TouchedEndpoint}
use Rattle.spec_duties.specs.declared.owed.Lates.{Lates}
use Rattle.spec_duties.specs.declared.strict.StrictOwed.{StrictOwed}
use Rattle.spec_duties.specs.declared.strict.Unsent.{Unsent}
use Rattle.checker.specs.Seen.{moves, stamped}
use Rattle.kept_duties.specs.Answered.{IsAnsweredBy, ReceiptsAreAnsweredAfter}
use Rattle.kept_duties.specs.Happens.{act_at, known_before, seen_before}
use Rattle.kept_duties.specs.Places.{SendsAt}
use Rattle.kept_duties.specs.Segments.{EndsBy}
use Rattle.kept_duties.specs.Soon.{BecomesBy}
use Rattle.kept_duties.proofs.Acknowledged.{ack_began, ack_begins, ack_fine, ack_returns, ack_stays, brought_fine, due_soon}
use Rattle.kept_duties.proofs.Excused.{AsSeen, as_event, judged_by}
use Rattle.kept_duties.proofs.Labels.{sends_at}
use Rattle.kept_duties.proofs.Made.{begins, goes_here, kept_here, sends_step, sent_or_waits, unsent_fine}
use Rattle.kept_duties.proofs.Observations.{built_change_sends, builds, sends}
use Rattle.kept_duties.proofs.Repeats.{goes_of, happens_from, happens_to}
use Rattle.kept_duties.proofs.Runs.{Goes, Run, Steps, onward, world_is}
use Rattle.kept_duties.proofs.Segments.{count_is, end_fine, run, within}
use Rattle.kept_duties.proofs.Since.{becomes, began_low, moments_rise, steady_at}
use Rattle.kept_duties.proofs.Senders.{Building, building_of, sender_touched, stays_there}
use Rattle.kept_duties.proofs.Soon.{receives_in}
use Rattle.kept_duties.proofs.StrictSince.{end_strictly}
use Rattle.kept_duties.proofs.Stricter.{lates_compared, strict_kept, strict_touched}
use Rattle.kept_duties.proofs.Touched.{Touches, seen, there_after, touched, touches_or_not}

-- an answer that is built
answers_is : (event as_seen : Event) → AsSeen event as_seen → builds_answer as_seen ≡ true
    → (m : SegmentPlan) × (event ≡ Builds m) × ((m.flags.ack || m.flags.rst) ≡ true)
answers_is event as_seen like is =
    by event (sym (as_event (λ (e : Event). builds_answer as_seen ≡ builds_answer e) (λ asks now unlimited q. q) event as_seen like refl) ∙ is)
  where
    by : (event : Event) → builds_answer event ≡ true → (m : SegmentPlan) × (event ≡ Builds m) × ((m.flags.ack || m.flags.rst) ≡ true)
    by (Builds m) is = (m, refl, is)
    by event is = absurd cc

module _ (t : Trace) (w : Witness) (slack : ℕ) (given : t.header.slack ≡ Some slack)
    (lawful : Lawful (tcp t.header) (first_known t.header).model (stamped t.header t.lines w.steps))
    (dutiful : Dutiful t.header (first_known t.header) (stamped t.header t.lines w.steps)) (placed : Placed t.header t.lines (moves w.steps))
    (six : says_sender t.header.version ≡ true)
    (late : late_at_end t.header (last_moment (moves w.steps)) (known_after_all t.header (first_known t.header) (stamped t.header t.lines w.steps))
    ≡ None) where
  abbrev n : ℕ
  n = length w.steps

  abbrev acts : ℕ → Option (Stamped tcp_shape)
  acts = act_at t w

  abbrev known : ℕ → Known
  known = known_before t w

  abbrev r : Run t.header slack (length w.steps) (act_at t w) (known_before t w)
  r = run t w slack given lawful dutiful

  module _ (me : EndpointId) (i : ℕ) (x : Stamped tcp_shape) (here : act_at t w i ≡ Some x) where
    abbrev closed_at : ℕ → Bool
    closed_at j = is_closed (seen (known j).model me).state

    abbrev end_by : ℕ
    end_by = x.moment + longest_delay + slack

    abbrev owed_at : ℕ → Option ℕ
    owed_at j = (strict_by (known j).duties me.host me.number).acknowledge

    abbrev Closes : Type 0
    Closes = BecomesBy t w i end_by me (λ v. is_closed v.state)

    -- the endpoint owes an acknowledgment
    record Owing (j : ℕ) : Type 0 where
      since : ℕ
      early : since ≤ x.moment
      owes : owed_at j ≡ Some since
      open' : closed_at j ≡ false
      there : (e : Endpoint) × (find (known j).model.hosts me ≡ Some e)

    -- it became CLOSED since
    record Closed (j : ℕ) : Type 0 where
      place : ℕ
      act : Stamped tcp_shape
      behind : i ≤ place
      low : place < j
      is : act_at t w place ≡ Some act
      before : closed_at place ≡ false
      after : closed_at (suc place) ≡ true

    -- what is kept of a segment that it built
    abbrev kept : (place : ℕ) → Building t w slack r placed me place → Unsent
    kept place b =
        kept_here t.header slack n acts known r six place b.act me.host (suc (known place).model.count) (within t w place b.act b.is) b.is
        (ap builds b.step) refl

    -- which takes over what the endpoint owes
    takes_over : (place : ℕ) (b : Building t w slack r placed me place) → (b.plan.flags.ack || b.plan.flags.rst) ≡ true
        → (kept place b).acknowledge ≡ owed_at place
    takes_over place b answers =
        let g = goes_here t.header slack n acts known r six place b.act me.host (suc (known place).model.count) (within t w place b.act b.is) b.is
        (ap builds b.step) refl in
        ap (λ (q : Option TouchedEndpoint). on (judged_by g.sees.judge q) None (λ t. taken_over t.event (strict_by (known place).duties t.host
        t.place).acknowledge))
        b.shows
        ∙ ap (λ (e : Event). taken_over e (owed_at place)) (g.sees.alike (Builds b.plan))
        ∙ ap (λ (b : Bool). if b then owed_at place else None) answers

    -- a segment that it built is to be sent
    record Bringing (j : ℕ) : Type 0 where
      place : ℕ
      building : Building t w slack r placed me place
      behind : i < place
      low : place < j
      answers : (building.plan.flags.ack || building.plan.flags.rst) ≡ true
      since : ℕ
      early : since ≤ x.moment
      waits : waiting (suc (known place).model.count) (known j).duties.unsent ≡ Some (kept place building)
      brings : (kept place building).acknowledge ≡ Some since
      state : (closed_at j ≡ false) ⊎ Closed j

    abbrev Goes_on : ℕ → Type 0
    Goes_on j = IsAnsweredBy t w i end_by me ⊎ Closes ⊎ Owing j ⊎ Bringing j

    closed_later : (j : ℕ) → Closed j → Closed (suc j)
    closed_later j c = record {
      place = c.place;
      act = c.act;
      behind = c.behind;
      low = (let low = c.low in omega arith);
      is = c.is;
      before = c.before;
      after = c.after;
    }

    module _ (j : ℕ) (y : Stamped tcp_shape) (behind : suc i ≤ j) (less : j < length w.steps) (at : act_at t w j ≡ Some y) where
      abbrev goes : Goes t.header slack (known j) (known (suc j)) y
      goes = goes_of t w slack r j y at

      abbrev sent_now : Option Unsent
      sent_now = sent_by (known j).duties (observe t.header y.moment (known j).model y.step).built_change

      there_next : (e : Endpoint) → find (known j).model.hosts me ≡ Some e → (e : Endpoint) × (find (known (suc j)).model.hosts me ≡ Some e)
      there_next e is = stays_there t w slack r placed me e j (suc j) (omega arith) (omega (arith, less)) is

      -- an act that leaves the endpoint open leaves it owing
      settle : closed_at j ≡ false
          → ((event : Event) → (observe t.header y.moment (known j).model y.step).touched ≡ Some (touched (known j).model me event) → y.moment ≤ end_by)
          → (since : ℕ) → since ≤ x.moment → owed_at (suc j) ≡ Some since → (e : Endpoint) → find (known j).model.hosts me ≡ Some e → Goes_on (suc j)
      settle open' soon since early owes e there = test (closed_at (suc j)) refl
        where
          test : (c : Bool) → closed_at (suc j) ≡ c → Goes_on (suc j)
          test true closed =
              inr (inl (becomes t w slack r placed me (λ v. is_closed v.state) i end_by j y (omega (arith, behind)) (λ less. open') at closed soon))
          test false open' = inr (inr (inl (record { since = since; early = early; owes = owes; open' = open'; there = there_next e there })))

      closing : (closed_at j ≡ false) ⊎ Closed j → (closed_at (suc j) ≡ false) ⊎ Closed (suc j)
      closing (inr c) = inr (closed_later j c)
      closing (inl open') = test (closed_at (suc j)) refl
        where
          test : (c : Bool) → closed_at (suc j) ≡ c → (closed_at (suc j) ≡ false) ⊎ Closed (suc j)
          test true closed =
              inr (record { place = j; act = y; behind = omega (arith, behind); low = omega arith; is = at; before = open'; after = closed })
          test false open' = inl open'

      -- an endpoint that owes builds a segment
      builds_now : Owing j → (m : SegmentPlan) → (m.flags.ack || m.flags.rst) ≡ true
          → (observe t.header y.moment (known j).model y.step).touched ≡ Some (touched (known j).model me (Builds m)) → Goes_on (suc j)
      builds_now o m answers shows = inr (inr (inr (record {
        place = j;
        building = b;
        behind = omega (arith, behind);
        low = omega arith;
        answers = answers_too;
        since = o.since;
        early = o.early;
        waits =
            begins t.header slack n acts known r six j b.act me.host (suc (known j).model.count) (within t w j b.act b.is) b.is (ap builds b.step) refl;
        brings = takes_over j b answers_too ∙ o.owes;
        state = closing (inl o.open');
      })))
        where
          b : Building t w slack r placed me j
          b = building_of t w slack r placed me j y at m shows

          same_act : b.act ≡ y
          same_act = same_Some b.act y (sym b.is ∙ at)

          shows_too : (observe t.header y.moment (known j).model y.step).touched ≡ Some (touched (known j).model me (Builds b.plan))
          shows_too =
              subst (λ (z : Stamped tcp_shape). (observe t.header z.moment (known j).model z.step).touched ≡ Some (touched (known j).model me (Builds b.plan)))
              same_act b.shows

          same_event : Builds m ≡ Builds b.plan
          same_event =
              ap (λ (t : TouchedEndpoint). t.event)
              (same_Some (touched (known j).model me (Builds m)) (touched (known j).model me (Builds b.plan)) (sym shows ∙ shows_too))

          answers_too : (b.plan.flags.ack || b.plan.flags.rst) ≡ true
          answers_too = subst (λ (e : Event). builds_answer e ≡ true) same_event answers

      from_owing : Owing j → Goes_on (suc j)
      from_owing o = by_step (touches_or_not t.header slack (known j) (known (suc j)) y me goes)
        where
          by_step : Touches t.header (known j) y me
              ⊎ ((owed_by (known (suc j)).duties me.host me.number ≡ owed_by (known j).duties me.host me.number)
              × ((event : Event) → (observe t.header y.moment (known j).model y.step).touched ≡ Some (touched (known j).model me event) → ⊥))
              → Goes_on (suc j)
          by_step (inr same) =
              settle o.open' (λ event shows. absurd (same.1 event shows)) o.since o.early
              (ap (λ (s : StrictOwed). s.acknowledge) (strict_kept t.header slack (known j) (known (suc j)) y me goes six same.1) ∙ o.owes) o.there.0 o.there.1
          by_step (inl touch) = test (builds_answer (goes.sees.judge touch.event)) refl
            where
              soon : y.moment ≤ end_by
              soon =
                  let fine = ack_fine t.header.grain slack y.moment _ (seen (known j).model me)
                  (listener_closed (known j).duties me.host (seen (known j).model me)) (owed_by (known j).duties me.host me.number)
                  (strict_by (known j).duties me.host me.number) o.since
                  (lates_compared t.header slack (known j) (known (suc j)) y me goes six touch.event touch.shows).0 o.open' o.owes in
                  let early = o.early in
                  omega (arith, fine, early)

              test : (b : Bool) → builds_answer (goes.sees.judge touch.event) ≡ b → Goes_on (suc j)
              test true answers =
                  let m = answers_is touch.event (goes.sees.judge touch.event) (goes.sees.alike touch.event) answers in
                  builds_now o m.0 m.2 (touch.shows ∙ ap (λ (e : Event). Some (touched (known j).model me e)) m.1)
              test false none =
                  let q = ack_stays (observe t.header y.moment (known j).model y.step).sampling (goes.sees.judge touch.event) (seen (known j).model me)
                  (seen (known (suc j)).model me) y.moment (owed_by (known j).duties me.host me.number).acknowledged sent_now
                  (strict_by (known j).duties me.host me.number) o.since none o.owes in
                  let early = o.early in
                  let less = q.2 in
                  settle o.open' (λ event shows. soon) q.0 (omega (arith, early, less))
                  (ap (λ (s : StrictOwed). s.acknowledge)
                  (strict_touched t.header slack (known j) (known (suc j)) y me goes six touch.event touch.shows) ∙ q.1) o.there.0 o.there.1

      -- the segment is sent
      sends_now : (b : Bringing j) → sends y.step ≡ Some (me.host, suc (known b.place).model.count) → Goes_on (suc j)
      sends_now b sending = test sent.0.before_text refl
        where
          sent : (s : Sending) × ((observe t.header y.moment (known j).model y.step).touched ≡ Some (touched (known j).model me (Sends s)))
          sent = sender_touched t w slack r placed me b.place b.building j y b.low at sending

          brought : brought_by sent_now ≡ Some b.since
          brought =
              ap (λ p. brought_by (sent_by (known j).duties p))
              (built_change_sends t.header y.moment (known j).model y.step me.host (suc (known b.place).model.count) goes.permitted sending).0
              ∙ ap brought_by b.waits ∙ b.brings

          soon : y.moment ≤ end_by
          soon =
              let fine = brought_fine t.header.grain slack y.moment (brought_by sent_now) (seen (known j).model me)
              (listener_closed (known j).duties me.host (seen (known j).model me)) (owed_by (known j).duties me.host me.number)
              (strict_by (known j).duties me.host me.number) b.since
              (lates_compared t.header slack (known j) (known (suc j)) y me goes six (Sends sent.0) sent.1).0 brought in
              let early = b.early in
              omega (arith, fine, early)

          back : sent.0.before_text ≡ true → (closed_at j ≡ false) ⊎ Closed j → Goes_on (suc j)
          back before (inr c) =
              inr (inl (becomes t w slack r placed me (λ v. is_closed v.state) i end_by c.place c.act c.behind (λ less. c.before) c.is c.after
              (λ event shows. let le = moments_rise t w placed c.place j c.act y c.is at c.low in let top = soon in omega (arith, le, top))))
          back before (inl open') =
              let q = ack_returns (observe t.header y.moment (known j).model y.step).sampling (goes.sees.judge (Sends sent.0)) (seen (known j).model me)
              (seen (known (suc j)).model me) y.moment (owed_by (known j).duties me.host me.number).acknowledged sent_now
              (strict_by (known j).duties me.host me.number) b.since (ap is_sent_before_text (goes.sees.alike (Sends sent.0)) ∙ before) brought in
              let early = b.early in
              let less = q.2 in
              let e = stays_there t w slack r placed me b.building.endpoint b.place j (let low = b.low in omega (arith, low))
              (let top = within t w j y at in omega (arith, top))
              b.building.there in
              settle open' (λ event shows. soon) q.0 (omega (arith, early, less))
              (ap (λ (s : StrictOwed). s.acknowledge) (strict_touched t.header slack (known j) (known (suc j)) y me goes six (Sends sent.0) sent.1) ∙ q.1)
              e.0 e.1

          test : (c : Bool) → sent.0.before_text ≡ c → Goes_on (suc j)
          test true before = back before b.state
          test false with_text =
              let s = sends_step y.step me.host (suc (known b.place).model.count) sending in
              let count = count_is t w slack given lawful dutiful b.place (let low = b.low in omega (arith, low, less)) in
              inl (record {
                built = b.place;
                since = b.building.act.moment;
                segment = b.building.plan;
                behind = b.behind;
                builds = happens_from t w b.place b.building.act me (Builds b.building.plan) b.building.is b.building.shows;
                answers = b.answers;
                later = j;
                moment = y.moment;
                sending = sent.0;
                after = b.low;
                line =
                    subst (λ (q : ℕ). SendsAt t w j y.moment me.host (suc q)) count
                    (sends_at t w j y at me.host s.0 (suc (known b.place).model.count) s.1 s.2);
                sends = happens_from t w j y me (Sends sent.0) at sent.1;
                with_text = with_text;
                soon = soon;
              })

      from_bringing : Bringing j → Goes_on (suc j)
      from_bringing b =
          by (sent_or_waits t.header slack n acts known r six b.place b.building.act me.host (suc (known b.place).model.count)
          (within t w b.place b.building.act b.building.is) b.building.is (ap builds b.building.step) refl j y (let low = b.low in omega (arith, low)) less at
          goes b.waits)
        where
          by : (sends y.step ≡ Some (me.host, suc (known b.place).model.count))
              ⊎ (waiting (suc (known b.place).model.count) (known (suc j)).duties.unsent ≡ Some (kept b.place b.building)) → Goes_on (suc j)
          by (inl sending) = sends_now b sending
          by (inr still) = inr (inr (inr (record {
            place = b.place;
            building = b.building;
            behind = b.behind;
            low = (let low = b.low in omega (arith, low));
            answers = b.answers;
            since = b.since;
            early = b.early;
            waits = still;
            brings = b.brings;
            state = closing b.state;
          })))

      onward_once : Goes_on j → Goes_on (suc j)
      onward_once (inl done) = inl done
      onward_once (inr (inl closed)) = inr (inl closed)
      onward_once (inr (inr (inl owing))) = from_owing owing
      onward_once (inr (inr (inr bringing))) = from_bringing bringing

    -- a step without an act changes nothing
    idle : (j : ℕ) → known (suc j) ≡ known j → Goes_on j → Goes_on (suc j)
    idle j same (inl done) = inl done
    idle j same (inr (inl closed)) = inr (inl closed)
    idle j same (inr (inr (inl o))) = inr (inr (inl (record {
      since = o.since;
      early = o.early;
      owes = ap (λ (k : Known). (strict_by k.duties me.host me.number).acknowledge) same ∙ o.owes;
      open' = ap (λ (k : Known). is_closed (seen k.model me).state) same ∙ o.open';
      there = (o.there.0, ap (λ (k : Known). find k.model.hosts me) same ∙ o.there.1);
    })))
    idle j same (inr (inr (inr b))) = inr (inr (inr (record {
      place = b.place;
      building = b.building;
      behind = b.behind;
      low = (let low = b.low in omega (arith, low));
      answers = b.answers;
      since = b.since;
      early = b.early;
      waits = ap (λ (k : Known). waiting (suc (known b.place).model.count) k.duties.unsent) same ∙ b.waits;
      brings = b.brings;
      state = by b.state;
    })))
      where
        by : (closed_at j ≡ false) ⊎ Closed j → (closed_at (suc j) ≡ false) ⊎ Closed (suc j)
        by (inl open') = inl (ap (λ (k : Known). is_closed (seen k.model me).state) same ∙ open')
        by (inr c) = inr (closed_later j c)

    -- on to the end
    to_end : Goes_on (suc i) → Goes_on (length w.steps)
    to_end begins' =
        onward Goes_on (suc i) (length w.steps) (let low = within t w i x here in omega (arith, low)) begins'
        (λ j behind less q. step j behind less (act_at t w j) refl (r.each j less) q)
      where
        step : (j : ℕ) → suc i ≤ j → j < length w.steps → (o : Option (Stamped tcp_shape)) → act_at t w j ≡ o
            → Steps t.header slack (known j) (known (suc j)) o → Goes_on j → Goes_on (suc j)
        step j behind less None is same q = idle j same q
        step j behind less (Some y) is goes q = onward_once j y behind less is q

    at_end : Goes_on (length w.steps) → IsAnsweredBy t w i end_by me ⊎ Closes ⊎ EndsBy w end_by
    at_end (inl done) = inl done
    at_end (inr (inl closed)) = inr (inl closed)
    at_end (inr (inr (inl o))) =
        let last = last_moment (moves w.steps) in
        let k = known (length w.steps) in
        let none = end_strictly t w slack r placed six (λ (l : Lates). l.acknowledge) (λ a b. refl) (λ l all. all.0) (end_fine t w slack given late) me
        o.there.0 o.there.1 in
        let fine = ack_fine t.header.grain slack last false (seen k.model me) (listener_closed k.duties me.host (seen k.model me))
        (owed_by k.duties me.host me.number) (strict_by k.duties me.host me.number) o.since none o.open' o.owes in
        let early = o.early in
        inr (inr (omega (arith, fine, early)))
    at_end (inr (inr (inr b))) =
        let last = last_moment (moves w.steps) in
        let k = known (length w.steps) in
        let rules = none_all (end_rules t.header slack last k.duties k.model) (end_fine t w slack given late) in
        let none : any_unsent (is_brought_late slack last) k.duties.unsent ≡ false =
        (neither (any_unsent (is_brought_late slack last) k.duties.unsent) ((lates_of_all t.header slack last k.duties k.model).acknowledge) rules.1.1.0).0 in
        let kept_fine : is_brought_late slack last (kept b.place b.building) ≡ false =
        sym (ap (λ (o : Option Unsent). option_map_or (is_brought_late slack last) o false) b.waits)
        ∙ unsent_fine (is_brought_late slack last) (suc (known b.place).model.count) k.duties.unsent none in
        let fine = due_soon slack last (kept b.place b.building).acknowledge b.since kept_fine b.brings in
        let early = b.early in
        inr (inr (omega (arith, fine, early)))

    -- from an event by which the endpoint owes one
    pub answered_from : (event : Event) → (observe t.header x.moment (known i).model x.step).touched ≡ Some (touched (known i).model me event)
        → (since : ℕ) → owed_at (suc i) ≡ Some since → IsAnsweredBy t w i end_by me ⊎ Closes ⊎ EndsBy w end_by
    answered_from event shows since owes = test (closed_at (suc i)) refl
      where
        goes_here' : Goes t.header slack (known i) (known (suc i)) x
        goes_here' = goes_of t w slack r i x here

        there : (e : Endpoint) × (find (known (suc i)).model.hosts me ≡ Some e)
        there =
            let e = there_after t.header x.moment (known i).model x.step me event
            (steady_at t w slack r placed i (let low = within t w i x here in omega (arith, low))) goes_here'.permitted shows in
            (e.0, ap (λ (v : World tcp_shape). find v.hosts me) goes_here'.model ∙ e.1)

        early : since ≤ x.moment
        early =
            began_low t w placed i x here since
            (ack_began t w slack r six (suc i) (let low = within t w i x here in omega (arith, low)) me since owes)

        test : (c : Bool) → closed_at (suc i) ≡ c → IsAnsweredBy t w i end_by me ⊎ Closes ⊎ EndsBy w end_by
        test true closed =
            inr (inl (becomes t w slack r placed me (λ v. is_closed v.state) i end_by i x (omega arith) (λ less. absurd (omega (arith, less))) here closed
            (λ event shows. omega arith)))
        test false open' =
            at_end (to_end (inr (inr (inl (record { since = since; early = early; owes = owes; open' = open'; there = there })))))

    -- from what is received
    answered : (length' : ℕ) → (observe t.header x.moment (known i).model x.step).touched ≡ Some (touched (known i).model me (Processes length' false))
        → 0 < length' → receives (seen (known i).model me).state ≡ true → IsAnsweredBy t w i end_by me ⊎ Closes ⊎ EndsBy w end_by
    answered length' shows some open' =
        let goes = goes_of t w slack r i x here in
        let q = ack_begins (observe t.header x.moment (known i).model x.step).sampling (goes.sees.judge (Processes length' false)) length'
        (goes.sees.alike (Processes length' false)) (seen (known i).model me) (seen (known (suc i)).model me) x.moment
        (owed_by (known i).duties me.host me.number).acknowledged
        (sent_by (known i).duties (observe t.header x.moment (known i).model x.step).built_change) (strict_by (known i).duties me.host me.number)
        some open' in
        answered_from (Processes length' false) shows q.0 (ap (λ (s : StrictOwed). s.acknowledge)
        (strict_touched t.header slack (known i) (known (suc i)) x me goes six (Processes length' false) shows) ∙ q.1)

  pub receipts_answered_after : ReceiptsAreAnsweredAfter t w slack
  receipts_answered_after place moment length' me a some ended =
      subst (λ (m : ℕ). IsAnsweredBy t w place (m + longest_delay + slack) me
      ⊎ BecomesBy t w place (m + longest_delay + slack) me (λ v. is_closed v.state) ⊎ EndsBy w (m + longest_delay + slack)) a.time
      (answered me place a.act a.is length' (happens_to t w place moment me (Processes length' false) a) some
      (ap (λ (v : World tcp_shape). receives (seen v me).state) (world_is t w place) ∙ receives_in (seen_before t w place me).state ended))
