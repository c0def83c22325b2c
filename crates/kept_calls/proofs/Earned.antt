-- Acknowledgments without news are earned: what is kept of an endpoint's credits is what it earned, less what it spent.
use Rattle.std.proofs.Common.{◌≡◌, ℕ, zero, suc, ◌+◌, ◌^◌, ◌<◌, ◌≤◌, ◌⊎◌, inl, inr, Bool, true, false, List, ◌∷◌, length, Option, Some, None, refl}
use Rattle.std.proofs.Common.{ap, sym, subst, ◌∙◌, nat_eq, arith}
use Rattle.std.specs.Prelude.{if◌then◌else◌, ◌==◌, ◌&&◌, ◌||◌, not, slice_get}
use Rattle.std.specs.List.{AllByRecursion, list_any}
use Rattle.std.specs.Option.{option_map_or}
use Rattle.std.proofs.lemmas.Bool.Decides.{nat_tests}
use Rattle.std.proofs.lemmas.Option.{none-some, same_Some}
use Rattle.case_forms.specs.Traces.{line_at}
use Rattle.case_forms.specs.Versions.{says_sender}
use Rattle.case_forms.specs.declared.calls.Host.{Host}
use Rattle.case_forms.specs.declared.calls.Host.TheVariants.{Zero, One}
use Rattle.case_forms.specs.declared.named_line.Extras.{Extras}
use Rattle.case_forms.specs.declared.named_line.Extras.TheVariants.{One as OneExtra}
use Rattle.case_forms.specs.declared.named_line.NamedLine.{NamedLine}
use Rattle.case_forms.specs.declared.steps.Label.{Label}
use Rattle.case_forms.specs.declared.steps.Label.TheVariants as labels
use Rattle.case_forms.specs.declared.steps.SegmentPlan.{SegmentPlan}
use Rattle.case_forms.specs.declared.steps.Step.{Step as WitnessStep}
use Rattle.case_forms.specs.declared.steps.Witness.{Witness}
use Rattle.case_forms.specs.declared.trace.Event as lines
use Rattle.case_forms.specs.declared.trace.Event.TheVariants as seen_events
use Rattle.case_forms.specs.declared.trace.Line.{Line}
use Rattle.case_forms.specs.declared.trace.Header.{Header}
use Rattle.case_forms.specs.declared.trace.Span.{Span}
use Rattle.case_forms.specs.declared.trace.Trace.{Trace}
use Rattle.case_forms.specs.declared.trace.Wire.{Wire}
use Rattle.interval_order.specs.Placed.{Placed}
use Rattle.spec_network.specs.HostSteps.{Lawful, after}
use Rattle.spec_network.specs.Hosts.{Stamped, World}
use Rattle.spec_network.specs.Tables.{Both, on, pick, with_host}
use Rattle.spec_tcp.specs.Machine.{tcp, tcp_shape}
use Rattle.spec_tcp.specs.declared.endpoint.EndpointId.{EndpointId}
use Rattle.spec_tcp_laws.proofs.Rules.{is_not, map_or_true, neither, not_false}
use Rattle.spec_cases.specs.Cases.{Dutiful, Known, first_known, known_after, shown, untrue_at, with_waits}
use Rattle.spec_duties.specs.Credits.{credit_of, earliest_credit, has_credit, needs_credit, spent}
use Rattle.spec_duties.specs.Observations.{observe, view_in}
use Rattle.spec_duties.specs.Watching.{answer_rules, built_by, counts_now, credits_after, credits_earned, credits_spent, duties_after, sends_in_excess}
use Rattle.spec_duties.specs.Watching.{owed_by}
use Rattle.spec_duties.specs.Watching.{lacks_credit, sent_by as unsent_by, strict_by, touched_rules}
use Rattle.spec_duties.specs.Excess.{is_excess}
use Rattle.spec_duties.specs.declared.events.Event.{Event}
use Rattle.spec_duties.specs.declared.events.Event.TheVariants.{Builds, Sends}
use Rattle.spec_duties.specs.declared.events.Sending.{Sending}
use Rattle.spec_duties.specs.declared.observations.BuiltChange.TheVariants as built_change
use Rattle.spec_duties.specs.declared.observations.Observation.{Observation}
use Rattle.spec_duties.specs.declared.observations.TouchedEndpoint.{TouchedEndpoint}
use Rattle.spec_duties.specs.declared.strict.Unsent.{Unsent}
use Rattle.spec_duties.specs.declared.views.View.{View}
use Rattle.checker.specs.Seen.{moves, stamped}
use Rattle.kept_duties.specs.Counts.{count_before, event_at, event_for, number_sent, sent_by}
use Rattle.kept_duties.specs.Happens.{act_at, known_before, seen_before, world_before}
use Rattle.kept_duties.specs.Places.{SendsAt, built_before}
use Rattle.kept_duties.proofs.Built.{WasBuilt, same_builder, same_place}
use Rattle.kept_duties.proofs.Counts.{event_of}
use Rattle.kept_duties.proofs.Excused.{Sees, judged_by, sees}
use Rattle.kept_duties.proofs.Labels.{sending_act}
use Rattle.kept_duties.proofs.Observations.{Unsent as Unsent', built_change_sends, builds, sends}
use Rattle.kept_duties.proofs.Repeats.{goes_of}
use Rattle.kept_duties.proofs.Runs.{Run, onward, world_is}
use Rattle.kept_duties.proofs.Segments.{count_is, run, within}
use Rattle.kept_duties.proofs.Senders.{Building, building_of, sender_touched}
use Rattle.kept_duties.proofs.Touched.{AsBefore, Touches, as_before, seen, touched, touches_or_not}
use Rattle.kept_calls.specs.Earning.{HasMoments, builds_plain, builds_plain_at, earns, earns_at, plain_before, sends_plain_at}
use Rattle.kept_calls.proofs.Acts.{acts, is_at, nothing_done}
use Rattle.kept_calls.proofs.Earns.{does_earn}
use Rattle.kept_calls.proofs.Pending.{all_wait, costs_by}
use Rattle.kept_calls.proofs.Pending as pending
use Rattle.kept_calls.proofs.Purses.{another, held, held_earned, held_left, held_spent}

-- ---- what a step leaves of the credits

credits_next : (h : Header) (slack : ℕ) → h.slack ≡ Some slack → says_sender h.version ≡ true → (k : Known) (x : Stamped tcp_shape)
    (seen : Sees h (observe h x.moment k.model x.step) (shown h x.moment k x.step))
    → (known_after h x.moment k x.step).duties.credits
    ≡ on (judged_by seen.judge (observe h x.moment k.model x.step).touched) k.duties.credits
    (credits_after slack x.moment k.duties (unsent_by k.duties (observe h x.moment k.model x.step).built_change) (shown h x.moment k x.step).earns)
credits_next h slack given six k x seen =
    ap (λ (o : Option ℕ). (on o k.duties (λ slack. with_waits (says_sender h.version) x.moment w e
    (duties_after (says_sender h.version) slack (view_in w e.touched) x.moment e k.duties))).credits) given
    ∙ ap (λ (b : Bool). if b then on e.touched k.duties.credits (credits_after slack x.moment k.duties (unsent_by k.duties e.built_change) e.earns)
    else k.duties.credits) six
    ∙ ap (λ (e : Observation). on e.touched k.duties.credits (credits_after slack x.moment k.duties (unsent_by k.duties e.built_change) e.earns)) seen.is
  where
    w : World tcp_shape
    w = (known_after h x.moment k x.step).model

    e : Observation
    e = shown h x.moment k x.step

-- an endpoint's own step
earned_most : (place credit : ℕ) (earns : Bool) (cs : List ℕ) (moment : ℕ)
    → held place (credits_earned earns moment place cs) ≤ (if earns then suc (held place cs) else held place cs)
earned_most place credit false cs moment = omega arith
earned_most place credit true cs moment = subst (λ (n : ℕ). n ≤ suc (held place cs)) (sym (held_earned place (credit_of place moment) cs)) (by _)
  where
    by : (b : Bool) → (if b then suc (held place cs) else held place cs) ≤ suc (held place cs)
    by true = omega arith
    by false = omega arith

spent_most : (slack place other : ℕ) (sent : Option Unsent) (cs : List ℕ) → held other (credits_spent slack place sent cs) ≤ held other cs
spent_most slack place other None cs = omega arith
spent_most slack place other (Some u) cs = by u.costs
  where
    by : (b : Bool) → held other (if b then spent place (earliest_credit slack u.since) cs else cs) ≤ held other cs
    by true = held_left other place (earliest_credit slack u.since) cs
    by false = omega arith

-- another's step
earned_by_another : (place other moment : ℕ) (earns : Bool) (cs : List ℕ) → (place ≡ other → ⊥) → moment < 2 ^ 64
    → held other (credits_earned earns moment place cs) ≡ held other cs
earned_by_another place other moment false cs differs low = refl
earned_by_another place other moment true cs differs low =
    held_earned other (credit_of place moment) cs
    ∙ ap (λ (b : Bool). if b then suc (held other cs) else held other cs) (another other place moment differs low)

-- ---- what is plain needs a credit

plain_costs : (a b c d e f p q : Bool) → (a && b && c && d && e && f && not p) ≡ true → ((a && b && c && d && e && f) && not (p && q)) ≡ true
plain_costs true true true true true true false q is = refl
plain_costs false b c d e f p q is = absurd (let x : false ≡ true = is in cc)
plain_costs true false c d e f p q is = absurd (let x : false ≡ true = is in cc)
plain_costs true true false d e f p q is = absurd (let x : false ≡ true = is in cc)
plain_costs true true true false e f p q is = absurd (let x : false ≡ true = is in cc)
plain_costs true true true true false f p q is = absurd (let x : false ≡ true = is in cc)
plain_costs true true true true true false p q is = absurd (let x : false ≡ true = is in cc)
plain_costs true true true true true true true q is = absurd (let x : false ≡ true = is in cc)

plain_builds : (event : Event) (before after : View) → builds_plain event before after ≡ true
    → (m : SegmentPlan) × (event ≡ Builds m) × (builds_plain (Builds m) before after ≡ true)
plain_builds (Builds m) before after is = (m, refl, is)
plain_builds event before after is = absurd cc

needs_of : (m : SegmentPlan) (before after : View) (moment : ℕ) (kept_alive : Option ℕ) → builds_plain (Builds m) before after ≡ true
    → needs_credit (Builds m) before after moment kept_alive ≡ true
needs_of m before after moment kept_alive is =
    plain_costs m.flags.ack (not m.flags.syn) (not m.flags.fin) (not m.flags.rst) (m.len == 0) (after.rcv_adv == before.rcv_adv)
    (m.pos + 1 == before.snd_una) _ is

-- one step: how many were sent (`sent`), earned (`won`) and are kept (`left`, then `next`)
tallied : (sends earns wins : Bool) (sent won left spent next : ℕ) → (if sends then suc spent else spent) ≤ left
    → next ≤ (if earns then suc spent else spent) → (earns ≡ true → wins ≡ true) → sent + left ≤ won
    → (if sends then suc sent else sent) + next ≤ (if wins then suc won else won)
tallied true true true sent won left spent next a b c d = omega (arith, a, b, d)
tallied true false true sent won left spent next a b c d = omega (arith, a, b, d)
tallied true false false sent won left spent next a b c d = omega (arith, a, b, d)
tallied false true true sent won left spent next a b c d = omega (arith, a, b, d)
tallied false false true sent won left spent next a b c d = omega (arith, a, b, d)
tallied false false false sent won left spent next a b c d = omega (arith, a, b, d)
tallied sends true false sent won left spent next a b c d = absurd (let x : false ≡ true = c refl in cc)

module _ (t : Trace) (w : Witness) (slack : ℕ) (given : t.header.slack ≡ Some slack)
    (lawful : Lawful (tcp t.header) (first_known t.header).model (stamped t.header t.lines w.steps))
    (dutiful : Dutiful t.header (first_known t.header) (stamped t.header t.lines w.steps)) (six : says_sender t.header.version ≡ true)
    (placed : Placed t.header t.lines (moves w.steps)) (moments : HasMoments w) (me : EndpointId) where
  abbrev h : Header
  h = t.header

  abbrev known : ℕ → Known
  known = known_before t w

  abbrev r : Run t.header slack (length w.steps) (act_at t w) (known_before t w)
  r = run t w slack given lawful dutiful

  -- ---- the step that built one

  record PlainAt (j n : ℕ) : Type 0 where
    place : ℕ
    low : place < j
    builds : builds_plain_at t w me place ≡ true
    number : n ≡ suc (built_before w place)

  plain_found : (j n : ℕ) → list_any (nat_eq n) (plain_before t w me j) ≡ true → PlainAt j n
  plain_found zero n is = absurd cc
  plain_found (suc j) n is = by (builds_plain_at t w me j) refl is (plain_found j n)
    where
      weaken : PlainAt j n → PlainAt (suc j) n
      weaken m = record { place = m.place; low = (let low = m.low in omega arith); builds = m.builds; number = m.number }

      first : (b : Bool) → nat_eq n (suc (built_before w j)) ≡ b → builds_plain_at t w me j ≡ true
          → (b || list_any (nat_eq n) (plain_before t w me j)) ≡ true → (list_any (nat_eq n) (plain_before t w me j) ≡ true → PlainAt j n) → PlainAt (suc j) n
      first true same here is rest = record { place = j; low = omega arith; builds = here; number = grind (arith, nat_tests, same) }
      first false differs here is rest = weaken (rest is)

      by : (b : Bool) → builds_plain_at t w me j ≡ b
          → list_any (nat_eq n) (if b then suc (built_before w j) ∷ plain_before t w me j else plain_before t w me j) ≡ true
          → (list_any (nat_eq n) (plain_before t w me j) ≡ true → PlainAt j n) → PlainAt (suc j) n
      by false here is rest = weaken (rest is)
      by true here is rest = first (nat_eq n (suc (built_before w j))) refl here is rest

  -- what happens at the endpoint touches it
  touched_by : (k : Known) (x : Stamped tcp_shape) (event : Event) → event_for me (observe h x.moment k.model x.step).touched ≡ Some event
      → (observe h x.moment k.model x.step).touched ≡ Some (touched k.model me event)
  touched_by k x event is =
      let e = event_of me (observe h x.moment k.model x.step).touched event is in
      let found = subst (AsBefore k.model x.step) e.1 (as_before h x.moment k.model x.step) in
      e.1 ∙ (λ i. Some (record {
        host = e.2 i;
        place = e.3 i;
        event = e.4 i;
        before = (found.before ∙ (λ i. seen k.model (record { host = e.2 i; number = e.3 i }))) i;
      }))

  record PlainBuilt (place : ℕ) : Type 0 where
    building : Building t w slack r placed me place
    plain : builds_plain (Builds building.plan) (seen (known place).model me) (seen (known (suc place)).model me) ≡ true

  plain_built : (place : ℕ) → builds_plain_at t w me place ≡ true → PlainBuilt place
  plain_built place is =
      let e = map_or_true (event_at t w me place) (λ event. builds_plain event (seen_before t w place me) (seen_before t w (suc place) me)) is in
      let b = plain_builds e.0 (seen_before t w place me) (seen_before t w (suc place) me) e.2 in
      by (act_at t w place) refl b.0 (e.1 ∙ ap (λ (event : Event). Some event) b.1) b.2
    where
      by : (o : Option (Stamped tcp_shape)) → act_at t w place ≡ o → (m : SegmentPlan)
          → on (act_at t w place) None (λ x. event_for me (observe h x.moment (world_before t w place) x.step).touched) ≡ Some (Builds m)
          → builds_plain (Builds m) (seen_before t w place me) (seen_before t w (suc place) me) ≡ true → PlainBuilt place
      by None at m event plain =
          absurd (none-some (Builds m) (sym (ap (λ (o : Option (Stamped tcp_shape)). on o None (λ x. event_for me
          (observe h x.moment (world_before t w place) x.step).touched)) at) ∙ event))
      by (Some x) at m event plain =
          let here : event_for me (observe h x.moment (known place).model x.step).touched ≡ Some (Builds m) =
          ap (λ (v : World tcp_shape). event_for me (observe h x.moment v x.step).touched) (world_is t w place)
          ∙ sym (ap (λ (o : Option (Stamped tcp_shape)). on o None (λ x. event_for me
          (observe h x.moment (world_before t w place) x.step).touched)) at) ∙ event in
          let shows = touched_by (known place) x (Builds m) here in
          let b = building_of t w slack r placed me place x at m shows in
          let one : x ≡ b.act = same_Some x b.act (sym at ∙ b.is) in
          let both : touched (known place).model me (Builds m) ≡ touched (known place).model me (Builds b.plan) =
          same_Some (touched (known place).model me (Builds m)) (touched (known place).model me (Builds b.plan))
          (sym shows ∙ ap (λ (y : Stamped tcp_shape). (observe h y.moment (known place).model y.step).touched) one ∙ b.shows) in
          let plan : m ≡ b.plan = let e : Builds m ≡ Builds b.plan = ap (λ (a : TouchedEndpoint). a.event) both in cc in
          record {
            building = b;
            plain =
                subst (λ (p : SegmentPlan). builds_plain (Builds p) (seen (known place).model me) (seen (known (suc place)).model me) ≡ true) plan
                (subst (λ (v : World tcp_shape). builds_plain (Builds m) (seen (known place).model me) (seen v me) ≡ true) (sym (world_is t w (suc place)))
                (subst (λ (v : World tcp_shape). builds_plain (Builds m) (seen v me) (seen_before t w (suc place) me) ≡ true)
                (sym (world_is t w place)) plain));
          }

  -- ---- the step that sends one

  -- it touches the endpoint, and what duties know of the segment says that it needs a credit
  record Spends (j : ℕ) (y : Stamped tcp_shape) : Type 0 where
    event : Event
    shows : (observe h y.moment (known j).model y.step).touched ≡ Some (touched (known j).model me event)
    unsent : Unsent
    waits : unsent_by (known j).duties (observe h y.moment (known j).model y.step).built_change ≡ Some unsent
    costs : unsent.costs ≡ true

  plain_sent : (j : ℕ) (y : Stamped tcp_shape) → act_at t w j ≡ Some y → (host : Host) (n : ℕ) → sends y.step ≡ Some (host, n) → PlainAt j n → Spends j y
  plain_sent j y is host n sending m =
      record {
        event = Sends touch.0;
        shows = touch.1;
        unsent = p.unsent;
        waits = ap (unsent_by (known j).duties) sent.0 ∙ p.waits;
        costs = p.costs ∙ needed;
      }
    where
      low : j < length w.steps
      low = within t w j y is

      b : Building t w slack r placed me m.place
      b = (plain_built m.place m.builds).building

      count : n ≡ suc (known m.place).model.count
      count =
          m.number ∙ ap (λ (q : ℕ). suc q) (sym (count_is t w slack given lawful dutiful m.place
          (let below = m.low in let top = low in omega (arith, below, top))))

      here_built : WasBuilt h slack (length w.steps) (act_at t w) (known_before t w) r j me.host n
      here_built = record { place = m.place; act = b.act; low = m.low; is = b.is; builds = ap builds b.step; count = count }

      sent : ((observe h y.moment (known j).model y.step).built_change ≡ built_change.Sends n)
          × Unsent' (known j).model host n
      sent = built_change_sends h y.moment (known j).model y.step host n (goes_of t w slack r j y is).permitted sending

      p : pending.Waits h slack (length w.steps) (act_at t w) (known_before t w) r six j (known j) host n
      p = all_wait h slack (length w.steps) (act_at t w) (known_before t w) r six j (let top = low in omega (arith, top)) host n sent.1.made sent.1.there
          sent.1.unsent

      here : host ≡ me.host
      here = same_builder h slack (length w.steps) (act_at t w) (known_before t w) r j host me.host n (let top = low in omega (arith, top)) p.was here_built

      same : p.was.place ≡ m.place
      same = same_place h slack (length w.steps) (act_at t w) (known_before t w) r j host me.host n (let top = low in omega (arith, top)) p.was here_built

      act_same : p.was.act ≡ b.act
      act_same = same_Some p.was.act b.act (sym p.was.is ∙ ap (act_at t w) same ∙ b.is)

      touch : (s : Sending)
          × ((observe h y.moment (known j).model y.step).touched ≡ Some (touched (known j).model me (Sends s)))
      touch = sender_touched t w slack r placed me m.place b j y m.low is
          (sending ∙ (λ i. Some (here i, count i)))

      needed : costs_by h slack (length w.steps) (act_at t w) (known_before t w) r six (known p.was.place) p.was.act ≡ true
      needed =
          let k = known m.place in
          let v = after (tcp h) b.act.moment k.model b.act.step in
          let base : costs_by h slack (length w.steps) (act_at t w) (known_before t w) r six k b.act ≡ true =
          ap (λ (o : Option TouchedEndpoint). pending.costs_of (view_in v o) b.act.moment k.duties o) b.shows
          ∙ ap (λ (u : World tcp_shape). needs_credit (Builds b.plan) (seen k.model me) (seen u me) b.act.moment
          (strict_by k.duties me.host me.number).kept_alive) (sym (goes_of t w slack r m.place b.act b.is).model)
          ∙ needs_of b.plan (seen k.model me) (seen (known (suc m.place)).model me) b.act.moment (strict_by k.duties me.host me.number).kept_alive
          (plain_built m.place m.builds).plain in
          subst (λ (q : ℕ). costs_by h slack (length w.steps) (act_at t w) (known_before t w) r six (known q) p.was.act ≡ true) (sym same)
          (subst (λ (x : Stamped tcp_shape). costs_by h slack (length w.steps) (act_at t w) (known_before t w) r six (known m.place) x ≡ true)
          (sym act_same) base)

  -- the line that is sent
  sent_event : (e : lines.Event) (x : Extras) (n : ℕ) → number_sent e x ≡ Some n
      → (host : Host) × (wire : Wire) × (e ≡ seen_events.Sent host wire) × (x ≡ OneExtra n)
  sent_event (seen_events.Sent host wire) (OneExtra k) n is = (host, wire, refl, ap OneExtra (same_Some k n is))
  sent_event e x n is = absurd (none-some n is)

  sent_line : (j : ℕ) (s : WitnessStep) → slice_get w.steps j ≡ Some s → (n : ℕ) → sent_by t s.label ≡ Some n → (host : Host) × SendsAt t w j s.moment host n
  sent_line j s here n is = at s.moment s.label s.span here is
    where
      with_line : (moment : ℕ) (named : NamedLine) (span : Span) → slice_get w.steps j ≡ Some (record { moment = moment; label = labels.L named; span = span })
          → (o : Option Line) → line_at t.header t.lines named.number ≡ o → option_map_or (λ line. number_sent line.event named.extras) o None ≡ Some n
          → (host : Host) × SendsAt t w j moment host n
      with_line moment named span here None there is = absurd (none-some n is)
      with_line moment named span here (Some line) there is =
          let e = sent_event line.event named.extras n is in (
            e.0,
            record {
              line = named.number;
              shown = line;
              wire = e.1;
              step = record {
                span = span;
                here = here ∙ (λ i. Some (record { moment = moment; label = labels.L (record { number = named.number; extras = e.3 i }); span = span }));
              };
              is = there;
              sends = e.2;
            },
          )

      at : (moment : ℕ) (label : Label NamedLine) (span : Span) → slice_get w.steps j ≡ Some (record { moment = moment; label = label; span = span })
          → sent_by t label ≡ Some n → (host : Host) × SendsAt t w j moment host n
      at moment (labels.L named) span here is = with_line moment named span here (line_at t.header t.lines named.number) refl is
      at moment label span here is = absurd (none-some n is)

  key : (j : ℕ) → sends_plain_at t w me j ≡ true → (y : Stamped tcp_shape) × (act_at t w j ≡ Some y) × Spends j y
  key j is = by (slice_get w.steps j) refl is
    where
      by : (o : Option WitnessStep) → slice_get w.steps j ≡ o
          → on o false (λ s. option_map_or (λ number. list_any (nat_eq number) (plain_before t w me j)) (sent_by t s.label) false) ≡ true
          → (y : Stamped tcp_shape) × (act_at t w j ≡ Some y) × Spends j y
      by None at is = absurd cc
      by (Some s) at is =
          let n = map_or_true (sent_by t s.label) (λ number. list_any (nat_eq number) (plain_before t w me j)) is in
          let a = sent_line j s at n.0 n.1 in
          let x = sending_act t w j s.moment a.0 n.0 a.1 in
          (x.0, x.1, plain_sent j x.0 x.1 a.0 n.0 x.3 (plain_found j n.0 n.2))

  -- ---- the count

  abbrev purse : Known → List ℕ
  purse k = pick k.duties.credits me.host

  abbrev left : ℕ → ℕ
  left j = held me.number (purse (known j))

  abbrev Fits : ℕ → Type 0
  Fits j = count_before (sends_plain_at t w me) j + left j ≤ count_before (earns_at t w me) j

  -- a step that isn't the endpoint's
  less_left : (j : ℕ) → left (suc j) ≤ left j → sends_plain_at t w me j ≡ false → Fits j → Fits (suc j)
  less_left j less none fits = by (sends_plain_at t w me j) (earns_at t w me j) none
    where
      by : (a b : Bool) → a ≡ false
          → (if a then suc (count_before (sends_plain_at t w me) j) else count_before (sends_plain_at t w me) j) + left (suc j)
          ≤ (if b then suc (count_before (earns_at t w me) j) else count_before (earns_at t w me) j)
      by true b e = absurd cc
      by false true e = omega (arith, less, fits)
      by false false e = omega (arith, less, fits)

  pick_here : (both : Both (List ℕ)) (host : Host) (cs : List ℕ) → pick (with_host both host cs) host ≡ cs
  pick_here both Zero cs = refl
  pick_here both One cs = refl

  module _ (j : ℕ) (y : Stamped tcp_shape) (is : act_at t w j ≡ Some y) where
    abbrev s : Observation
    s = observe h y.moment (known j).model y.step

    abbrev e : Observation
    e = shown h y.moment (known j) y.step

    abbrev sees_it : Sees h s e
    sees_it = sees h (known j).flights s

    abbrev sent_now : Option Unsent
    sent_now = unsent_by (known j).duties s.built_change

    -- the credits after it
    after_it : (o : Option TouchedEndpoint) → s.touched ≡ o
        → purse (known (suc j)) ≡ pick (on (judged_by sees_it.judge o) (known j).duties.credits
        (credits_after slack y.moment (known j).duties sent_now e.earns)) me.host
    after_it o shows =
        ap purse (acts t w lawful dutiful j y is).next
        ∙ ap (λ (both : Both (List ℕ)). pick both me.host) (credits_next h slack given six (known j) y sees_it)
        ∙ ap (λ (o : Option TouchedEndpoint). pick (on (judged_by sees_it.judge o) (known j).duties.credits
        (credits_after slack y.moment (known j).duties sent_now e.earns)) me.host) shows

    -- another's step leaves no more
    less_after : ((event : Event) → s.touched ≡ Some (touched (known j).model me event) → ⊥) → left (suc j) ≤ left j
    less_after not' = by s.touched refl (as_before h y.moment (known j).model y.step)
      where
        there : (host : Host) (place : ℕ) → (host ≡ me.host → place ≡ me.number → ⊥)
            → held me.number (pick (with_host (known j).duties.credits host
            (credits_earned e.earns y.moment place (credits_spent slack place sent_now (pick (known j).duties.credits host)))) me.host) ≤ left j
        there host place differs = go host me.host refl refl
          where
            go : (g k : Host) → host ≡ g → me.host ≡ k
                → held me.number (pick (with_host (known j).duties.credits g
                (credits_earned e.earns y.moment place (credits_spent slack place sent_now (pick (known j).duties.credits g)))) k)
                ≤ held me.number (pick (known j).duties.credits k)
            go Zero One a b = omega arith
            go One Zero a b = omega arith
            go Zero Zero a b =
                let least = spent_most slack place me.number sent_now (known j).duties.credits.zero in
                subst (λ (n : ℕ). n ≤ held me.number (known j).duties.credits.zero)
                (sym (earned_by_another place me.number y.moment e.earns (credits_spent slack place sent_now (known j).duties.credits.zero)
                (λ same. differs (a ∙ sym b) same) (moments j y.moment (is_at t w j y is)))) least
            go One One a b =
                let least = spent_most slack place me.number sent_now (known j).duties.credits.one in
                subst (λ (n : ℕ). n ≤ held me.number (known j).duties.credits.one)
                (sym (earned_by_another place me.number y.moment e.earns (credits_spent slack place sent_now (known j).duties.credits.one)
                (λ same. differs (a ∙ sym b) same) (moments j y.moment (is_at t w j y is)))) least

        by : (o : Option TouchedEndpoint) → s.touched ≡ o → AsBefore (known j).model y.step o → left (suc j) ≤ left j
        by None shows before = subst (λ (cs : List ℕ). held me.number cs ≤ left j) (sym (after_it None shows)) (omega arith)
        by (Some a) shows before =
            subst (λ (cs : List ℕ). held me.number cs ≤ left j) (sym (after_it (Some a) shows))
            (there a.host a.place (λ host place. not' a.event (shows ∙ (λ i. Some (record {
              host = host i;
              place = place i;
              event = a.event;
              before = (before.before ∙ (λ i. seen (known j).model (record { host = host i; number = place i }))) i;
            })))))

    -- the endpoint's own step
    own_step : (event : Event) → s.touched ≡ Some (touched (known j).model me event) → Fits j → Fits (suc j)
    own_step event shows fits =
        tallied (sends_plain_at t w me j) e.earns (earns_at t w me j) (count_before (sends_plain_at t w me) j) (count_before (earns_at t w me) j) (left j)
        (held me.number spends) (left (suc j)) (pays (sends_plain_at t w me j) refl)
        (subst (λ (cs : List ℕ). held me.number cs ≤ (if e.earns then suc (held me.number spends) else held me.number spends))
        (sym (after_it (Some (touched (known j).model me event)) shows
        ∙ pick_here (known j).duties.credits me.host (credits_earned e.earns y.moment me.number spends)))
        (earned_most me.number y.moment e.earns spends y.moment))
        wins fits
      where
        spends : List ℕ
        spends = credits_spent slack me.number sent_now (purse (known j))

        wins : e.earns ≡ true → earns_at t w me j ≡ true
        wins earned =
            ap (λ (o : Option (Stamped tcp_shape)). option_map_or (λ x. earns h (world_before t w j) me x.step) o false) is
            ∙ ap (λ (v : World tcp_shape). earns h v me y.step) (sym (world_is t w j))
            ∙ does_earn h y.moment (known j).model (known j).flights me (touched (known j).model me event) refl refl y.step shows earned

        pays : (b : Bool) → sends_plain_at t w me j ≡ b → (if b then suc (held me.number spends) else held me.number spends) ≤ left j
        pays false it = spent_most slack me.number me.number sent_now (purse (known j))
        pays true it =
            let k = key j it in
            let one : k.0 ≡ y = same_Some k.0 y (sym k.1 ∙ is) in
            paid (subst (Spends j) one k.2)
          where
            paid : Spends j y → suc (held me.number spends) ≤ left j
            paid p =
                let rules = (goes_of t w slack r j y is).dutiful.1.1.1.1 in
                let here =
                subst (λ (o : Option TouchedEndpoint). AllByRecursion (λ q. q.1 ≡ false)
                (on o (answer_rules slack y.moment (known j).duties (untrue_at h y.moment (known j) y.step) s.call_change)
                (touched_rules h slack y.moment (known j).duties (counts_now (built_by (known j).duties s.built_change))
                (untrue_at h y.moment (known j) y.step)
                sent_now s.sampling))) shows rules in
                let lacks =
                (neither (is_excess (counts_now (built_by (known j).duties s.built_change)) _)
                (sends_in_excess h slack (known j).duties sent_now (touched (known j).model me event)) here.1.1.1.1.1.1.1.1.0).1 in
                let enough : has_credit me.number (earliest_credit slack p.unsent.since) (purse (known j)) ≡ true =
                not_false (has_credit me.number (earliest_credit slack p.unsent.since) (purse (known j)))
                (sym (ap (λ (b : Bool). b && not (has_credit me.number (earliest_credit slack p.unsent.since) (purse (known j)))) p.costs)
                ∙ sym (ap (λ (o : Option Unsent). option_map_or (lacks_credit slack (known j).duties me.host me.number) o false) p.waits)
                ∙ sym (ap (λ (b : Bool). b && option_map_or (lacks_credit slack (known j).duties me.host me.number) sent_now false) six)
                ∙ lacks) in
                let spent_now : spends ≡ spent me.number (earliest_credit slack p.unsent.since) (purse (known j)) =
                ap (λ (o : Option Unsent). credits_spent slack me.number o (purse (known j))) p.waits
                ∙ ap (λ (b : Bool). if b then spent me.number (earliest_credit slack p.unsent.since) (purse (known j)) else purse (known j)) p.costs in
                let paid_one = held_spent me.number (earliest_credit slack p.unsent.since) (purse (known j)) enough in
                let same = ap (held me.number) spent_now in
                omega (arith, paid_one, same)

  fits_next : (j : ℕ) → Fits j → Fits (suc j)
  fits_next j fits = by (act_at t w j) refl
    where
      none_sends : ((y : Stamped tcp_shape) → act_at t w j ≡ Some y → Spends j y → ⊥) → sends_plain_at t w me j ≡ false
      none_sends not' = is_not (sends_plain_at t w me j) (λ it. let k = key j it in not' k.0 k.1 k.2)

      by : (o : Option (Stamped tcp_shape)) → act_at t w j ≡ o → Fits (suc j)
      by None at =
          less_left j (subst (λ (k : Known). held me.number (purse k) ≤ left j) (sym (nothing_done t w j at)) (omega arith))
          (none_sends (λ z is k. none-some z (sym at ∙ is))) fits
      by (Some y) at = which (touches_or_not h slack (known j) (known (suc j)) y me (goes_of t w slack r j y at))
        where
          which : Touches h (known j) y me
              ⊎ ((owed_by (known (suc j)).duties me.host me.number
              ≡ owed_by (known j).duties me.host me.number)
              × ((event : Event) → (observe h y.moment (known j).model y.step).touched ≡ Some (touched (known j).model me event) → ⊥)) → Fits (suc j)
          which (inl touch) = own_step j y at touch.event touch.shows fits
          which (inr other) =
              less_left j (less_after j y at other.1)
              (none_sends (λ z is k. other.1 k.event
              (subst (λ (v : Stamped tcp_shape). (observe h v.moment (known j).model v.step).touched ≡ Some (touched (known j).model me k.event))
              (same_Some z y (sym is ∙ at)) k.shows))) fits

  nothing_left : (host : Host) → held me.number (pick (first_known h).duties.credits host) ≡ 0
  nothing_left Zero = refl
  nothing_left One = refl

  pub earned_before : (place : ℕ) → place ≤ length w.steps → count_before (sends_plain_at t w me) place ≤ count_before (earns_at t w me) place
  earned_before place high =
      let fits = onward Fits 0 place (omega arith) (let none = nothing_left me.host in omega (arith, none)) (λ j low less was. fits_next j was) in
      omega (arith, fits)
