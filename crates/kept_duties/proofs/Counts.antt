-- An endpoint sends at most as many mere acknowledgments as segments come to it.
use Rattle.std.proofs.Common.{◌≡◌, ℕ, zero, suc, ◌+◌, ◌-◌, ◌<◌, ◌≤◌, ◌⊎◌, inl, inr, Bool, true, false, ◌∷◌, length, Option, Some, None, refl, ap, sym, subst}
use Rattle.std.proofs.Common.{◌∙◌, nat_eq, arith}
use Rattle.std.proofs.lemmas.Bool.Decides.{nat_tests}
use Rattle.std.specs.List.{list_any}
use Rattle.std.specs.Map.{lookup}
use Rattle.std.specs.Prelude.{◌==◌, ◌&&◌, ◌||◌, if◌then◌else◌, not, slice_get}
use Rattle.std.specs.Option.{option_map, option_map_or}
use Rattle.std.proofs.lemmas.Option.{none-some, same_Some, some_pair_parts}
use Rattle.case_forms.specs.States.{is_closed}
use Rattle.case_forms.specs.Traces.{line_at}
use Rattle.case_forms.specs.declared.calls.Answer.TheVariants as answers
use Rattle.case_forms.specs.declared.calls.Host.{Host}
use Rattle.case_forms.specs.declared.calls.Host.TheVariants.{Zero, One}
use Rattle.case_forms.specs.declared.calls.State.{State}
use Rattle.case_forms.specs.declared.calls.State.TheVariants as states
use Rattle.case_forms.specs.declared.named_line.Extras.{Extras}
use Rattle.case_forms.specs.declared.named_line.Extras.TheVariants.{One as OneExtra}
use Rattle.case_forms.specs.declared.named_line.NamedLine.{NamedLine}
use Rattle.case_forms.specs.declared.steps.Label.{Label}
use Rattle.case_forms.specs.declared.steps.Label.TheVariants as labels
use Rattle.case_forms.specs.declared.steps.SegmentPlan.{SegmentPlan}
use Rattle.case_forms.specs.declared.steps.Step.{Step as WitnessStep}
use Rattle.case_forms.specs.declared.steps.Witness.{Witness}
use Rattle.case_forms.specs.declared.trace.Event as lines
use Rattle.case_forms.specs.declared.trace.Event.TheVariants as seen_events
use Rattle.case_forms.specs.declared.trace.Header.{Header}
use Rattle.case_forms.specs.declared.trace.Line.{Line}
use Rattle.case_forms.specs.declared.trace.Span.{Span}
use Rattle.case_forms.specs.declared.trace.Trace.{Trace}
use Rattle.case_forms.specs.declared.trace.Wire.{Wire}
use Rattle.interval_order.specs.Placed.{Placed}
use Rattle.spec_network.specs.HostSteps.{Lawful, after}
use Rattle.spec_network.specs.Hosts.{Effect, Stamped, World, Step, At, Makes, Sends, Takes}
use Rattle.spec_network.specs.Tables.{Made, host_is, on, pick}
use Rattle.spec_tcp.specs.HostTcp.{place_of}
use Rattle.spec_tcp.specs.Machine.{made_at, tcp, tcp_shape}
use Rattle.spec_tcp.specs.Makes.{emission_of}
use Rattle.spec_tcp.specs.declared.endpoint.Emission.{Emission}
use Rattle.spec_tcp.specs.declared.endpoint.Endpoint.{Endpoint}
use Rattle.spec_tcp.specs.declared.endpoint.EndpointId.{EndpointId}
use Rattle.spec_tcp_laws.specs.Consequences.{find}
use Rattle.spec_tcp_laws.proofs.Rules.{both_true, host_same, is_not, map_or_true, number_same}
use Rattle.spec_tcp_laws.proofs.Runs.{later_step}
use Rattle.spec_cases.specs.Cases.{Dutiful, Known, first_known}
use Rattle.spec_duties.specs.Arrivals.{acked_sent, stamps_read}
use Rattle.spec_duties.specs.Excess.{answers_after, is_arrival, is_excess, is_listen, is_mere_ack, one_more}
use Rattle.spec_duties.specs.Owed.{once_closed, owed_after, owed_open}
use Rattle.spec_duties.specs.Observations.{at_place, at_sender, sending_of, observe, syn_sent, unseen, view_in}
use Rattle.spec_duties.specs.Views.{unborn, view_of}
use Rattle.spec_duties.specs.Watching.{built_by, builds_mere_ack, counts_now, owed_by}
use Rattle.spec_duties.specs.declared.events.Event.{Event}
use Rattle.spec_duties.specs.declared.events.Event.TheVariants.{Builds, Drops, Processes}
use Rattle.spec_duties.specs.declared.observations.BuiltChange.TheVariants as built_change
use Rattle.spec_duties.specs.declared.owed.Owed.{Owed}
use Rattle.spec_duties.specs.declared.observations.TouchedEndpoint.{TouchedEndpoint}
use Rattle.spec_duties.specs.declared.views.View.{View}
use Rattle.kept_duties.specs.Counts.{builds_mere, builds_mere_at, comes, comes_at, count_before, event_at, event_for, is_unborn, mere_before, number_sent}
use Rattle.kept_duties.specs.Counts.{sends_mere_at, sent_by}
use Rattle.kept_duties.specs.Happens.{act_at, known_before, seen_before, world_before}
use Rattle.kept_duties.specs.Places.{SendsAt, built_before}
use Rattle.checker.specs.Seen.{moves, stamped}
use Rattle.kept_duties.proofs.Repeats.{goes_of, owes_of}
use Rattle.kept_duties.proofs.Runs.{Run, Steps, onward, run_keeps, world_is}
use Rattle.kept_duties.proofs.Segments.{count_is, run, within}
use Rattle.kept_duties.proofs.Since.{steady_at}
use Rattle.kept_duties.proofs.Built.{Sent, WasBuilt, counts_by, same_builder, same_place, sent_was_built}
use Rattle.kept_duties.proofs.Labels.{sending_act}
use Rattle.kept_duties.proofs.Observations.{builds, made_by, sends}
use Rattle.kept_duties.proofs.Touched.{AsBefore, AsShown, Child, Opened, Touches, as_before, seen, touched, touches_or_not}

-- ---- what happens at an endpoint

host_self : (host : Host) → host_is host host ≡ true
host_self Zero = refl
host_self One = refl

pub event_here : (v : World tcp_shape) (me : EndpointId) (event : Event) → event_for me (Some (touched v me event)) ≡ Some event
event_here v me event =
    let number : nat_eq me.number me.number ≡ true = grind (arith, nat_tests) in
    ap (λ (b : Bool). if b && me.number == me.number then Some event else None) (host_self me.host)
    ∙ ap (λ (b : Bool). if b then Some event else None) number

-- the answers of an endpoint, in which CLOSED changes nothing
answers_is : (event : Event) (before after : View) (moment : ℕ) (listener : Option ℕ) (counts : Bool) (o : Owed)
    → (owed_after event before after moment listener counts o).answers ≡ answers_after event before counts o.answers
answers_is event before after moment listener counts o = by (is_closed after.state)
  where
    by : (c : Bool)
        → (if c then once_closed (owed_open event before after moment listener counts o) else owed_open event before after moment listener counts o).answers
        ≡ answers_after event before counts o.answers
    by true = refl
    by false = refl

none_sent : (answers : ℕ) → answers ≡ 0 → is_excess true answers ≡ false → ⊥
none_sent answers z e = let one : nat_eq answers 0 ≡ true = grind (arith, nat_tests, z) in let f : true ≡ false = sym one ∙ e in cc f

-- one act: how many were sent (`sent`), came (`came`) and are left (`answers`)
counted : (sends comes counts arrives : Bool) (sent came answers : ℕ) → (sends ≡ true → counts ≡ true) → (arrives ≡ true → comes ≡ true)
    → is_excess counts answers ≡ false → sent + answers ≤ came
    → (if sends then suc sent else sent) + (if counts then answers - 1 else if arrives then one_more answers else answers)
    ≤ (if comes then suc came else came)
counted true comes false arrives sent came answers s c e le = absurd (let t = s refl in let f : false ≡ true = t in cc f)
counted true true true arrives sent came answers s c e le = let some : answers ≡ 0 → ⊥ = λ z. none_sent answers z e in omega (arith, le, some)
counted true false true arrives sent came answers s c e le = let some : answers ≡ 0 → ⊥ = λ z. none_sent answers z e in omega (arith, le, some)
counted false true true arrives sent came answers s c e le = omega (arith, le)
counted false false true arrives sent came answers s c e le = omega (arith, le)
counted false true false true sent came answers s c e le = omega (arith, le)
counted false false false true sent came answers s c e le = absurd (let f : false ≡ true = c refl in cc f)
counted false true false false sent came answers s c e le = omega (arith, le)
counted false false false false sent came answers s c e le = omega (arith, le)

pub event_of : (me : EndpointId) (o : Option TouchedEndpoint) (event : Event) → event_for me o ≡ Some event
    → (s : TouchedEndpoint) × (o ≡ Some s) × (s.host ≡ me.host) × (s.place ≡ me.number) × (s.event ≡ event)
event_of me None event is = absurd (none-some event is)
event_of me (Some s) event is = by (host_is s.host me.host && s.place == me.number) refl is
  where
    by : (b : Bool) → (host_is s.host me.host && s.place == me.number) ≡ b → (if b then Some s.event else None) ≡ Some event
        → (x : TouchedEndpoint) × (Some s ≡ Some x) × (x.host ≡ me.host) × (x.place ≡ me.number) × (x.event ≡ event)
    by false no' is = absurd (none-some event is)
    by true here is =
        let both = both_true (host_is s.host me.host) (s.place == me.number) here in
        (s, refl, host_same s.host me.host both.0, number_same s.place me.number both.1, same_Some s.event event is)

-- what duties test is what the law says
unborn_is : (state : State) → is_unborn state ≡ is_listen state
unborn_is states.Listen = refl
unborn_is state = refl

comes_is : (event : Event) (before : View) → comes event before ≡ is_arrival event before
comes_is (Processes length rst) before = ap not (unborn_is before.state)
comes_is (Drops asks unlimited) before = refl
comes_is event before = refl

-- a mere acknowledgment is a segment that is built
mere_builds : (event : Event) (before after : View) → builds_mere event before after ≡ true
    → (m : SegmentPlan) × (event ≡ Builds m) × (is_mere_ack m before after ≡ true)
mere_builds (Builds m) before after is = (m, refl, is)
mere_builds event before after is = absurd cc

-- what a step that sends shows
pub sending_shows : (h : Header) (moment : ℕ) (v : World tcp_shape) (step : Step tcp_shape) (host : Host) (n : ℕ) (m : Made Emission)
    → sends step ≡ Some (host, n) → lookup (nat_eq n) (pick v.hosts host).made ≡ Some m
    → (wire : Wire) × ((observe h moment v step).touched ≡ at_sender host (pick v.hosts host).body wire m.emission)
sending_shows h moment v (At g (Sends line k wire)) host n m e there =
    let same = some_pair_parts g host k n e in
    let at : lookup (nat_eq k) (pick v.hosts g).made ≡ Some m =
    subst (λ (x : Host). lookup (nat_eq k) (pick v.hosts x).made ≡ Some m) (sym same.0)
    (subst (λ (q : ℕ). lookup (nat_eq q) (pick v.hosts host).made ≡ Some m) (sym same.1) there) in (
      wire,
      ap (λ (o : Option (Made Emission)). (on o unseen (λ (m : Made Emission). record unseen {
        touched = at_sender g (pick v.hosts g).body wire m.emission;
        built_change = built_change.Sends k;
        syn_change = syn_sent h.version m.emission wire.bytes;
        stamps = stamps_read h.version wire.bytes;
        acked = acked_sent h.version wire m.emission;
      })).touched) at
          ∙ ap (λ (x : Host). at_sender x (pick v.hosts x).body wire m.emission) same.0,
    )
sending_shows h moment v step host n m e there = absurd (none-some (host, n) e)

-- the sender of a built segment, if it is there
pub sender_shows : (v : World tcp_shape) (me : EndpointId) (wire : Wire) (m : Emission) (e : Endpoint) → m.is_reset_reply ≡ false → m.sender.number ≡ me.number
    → find v.hosts me ≡ Some e → at_sender me.host (pick v.hosts me.host).body wire m ≡ Some (touched v me (sending_of wire m))
sender_shows v me wire m e plain number there =
    ap (λ (b : Bool). if b then None else at_place me.host (pick v.hosts me.host).body (sending_of wire m) m.sender.number) plain
    ∙ ap (at_place me.host (pick v.hosts me.host).body (sending_of wire m)) number
    ∙ ap (option_map (λ (e : Endpoint). record { host = me.host; place = me.number; event = sending_of wire m; before = view_of e })) there
    ∙ ap (λ (o : Option Endpoint). Some (record { host = me.host; place = me.number; event = sending_of wire m; before = option_map_or view_of o unborn }))
    (sym there)

module _ (t : Trace) (w : Witness) (slack : ℕ) (given : t.header.slack ≡ Some slack)
    (lawful : Lawful (tcp t.header) (first_known t.header).model (stamped t.header t.lines w.steps))
    (dutiful : Dutiful t.header (first_known t.header) (stamped t.header t.lines w.steps)) (placed : Placed t.header t.lines (moves w.steps))
    (me : EndpointId) where
  abbrev r : Run t.header slack (length w.steps) (act_at t w) (known_before t w)
  r = run t w slack given lawful dutiful

  -- ---- the step that built a mere acknowledgment

  record MereAt (j n : ℕ) : Type 0 where
    place : ℕ
    low : place < j
    builds : builds_mere_at t w me place ≡ true
    number : n ≡ suc (built_before w place)

  mere_found : (j n : ℕ) → list_any (nat_eq n) (mere_before t w me j) ≡ true → MereAt j n
  mere_found zero n is = absurd cc
  mere_found (suc j) n is = by (builds_mere_at t w me j) refl is (mere_found j n)
    where
      weaken : MereAt j n → MereAt (suc j) n
      weaken m = record { place = m.place; low = (let low = m.low in omega arith); builds = m.builds; number = m.number }

      first : (b : Bool) → nat_eq n (suc (built_before w j)) ≡ b → builds_mere_at t w me j ≡ true → (b || list_any (nat_eq n) (mere_before t w me j)) ≡ true
          → (list_any (nat_eq n) (mere_before t w me j) ≡ true → MereAt j n) → MereAt (suc j) n
      first true same here is rest = record { place = j; low = omega arith; builds = here; number = grind (arith, nat_tests, same) }
      first false differs here is rest = weaken (rest is)

      by : (b : Bool) → builds_mere_at t w me j ≡ b
          → list_any (nat_eq n) (if b then suc (built_before w j) ∷ mere_before t w me j else mere_before t w me j) ≡ true
          → (list_any (nat_eq n) (mere_before t w me j) ≡ true → MereAt j n) → MereAt (suc j) n
      by false here is rest = weaken (rest is)
      by true here is rest = first (nat_eq n (suc (built_before w j))) refl here is rest

  -- what it does: the endpoint builds the segment by an `M` step
  record MereBuilt (place : ℕ) : Type 0 where
    act : Stamped tcp_shape
    plan : SegmentPlan
    endpoint : Endpoint
    is : act_at t w place ≡ Some act
    shows : (observe t.header act.moment (known_before t w place).model act.step).touched ≡ Some (touched (known_before t w place).model me (Builds plan))
    mere : is_mere_ack plan (seen (known_before t w place).model me) (seen (known_before t w (suc place)).model me) ≡ true
    step : act.step ≡ At me.host (Makes plan)
    ports : place_of (pick (known_before t w place).model.hosts me.host).body plan.lport plan.rport ≡ Some me.number
    there : find (known_before t w place).model.hosts me ≡ Some endpoint

  mere_built : (place : ℕ) → builds_mere_at t w me place ≡ true → MereBuilt place
  mere_built place is =
      let e = map_or_true (event_at t w me place) (λ event. builds_mere event (seen_before t w place me) (seen_before t w (suc place) me)) is in
      let b = mere_builds e.0 (seen_before t w place me) (seen_before t w (suc place) me) e.2 in
      by (act_at t w place) refl b.0 (ap (λ (o : Option (Stamped tcp_shape)). on o None
      (λ x. event_for me (observe t.header x.moment (world_before t w place) x.step).touched)) refl
      ∙ e.1 ∙ ap (λ (event : Event). Some event) b.1) b.2
    where
      mere_here : (m : SegmentPlan) → is_mere_ack m (seen_before t w place me) (seen_before t w (suc place) me) ≡ true
          → is_mere_ack m (seen (known_before t w place).model me) (seen (known_before t w (suc place)).model me) ≡ true
      mere_here m is =
          subst (λ (v : World tcp_shape). is_mere_ack m (seen (known_before t w place).model me) (seen v me) ≡ true) (sym (world_is t w (suc place)))
          (subst (λ (v : World tcp_shape). is_mere_ack m (seen v me) (seen_before t w (suc place) me) ≡ true) (sym (world_is t w place)) is)

      make : (x : Stamped tcp_shape) → act_at t w place ≡ Some x → (m : SegmentPlan)
          → is_mere_ack m (seen (known_before t w place).model me) (seen (known_before t w (suc place)).model me) ≡ true
          → (observe t.header x.moment (known_before t w place).model x.step).touched ≡ Some (touched (known_before t w place).model me (Builds m))
          → AsShown (known_before t w place).model x.step (touched (known_before t w place).model me (Builds m)) → MereBuilt place
      make x at m mere shows found = there found.there
        where
          there : ((e : Endpoint) × (find (known_before t w place).model.hosts me ≡ Some e))
              ⊎ Opened (known_before t w place).model x.step (touched (known_before t w place).model me (Builds m))
              ⊎ Child (known_before t w place).model x.step (touched (known_before t w place).model me (Builds m)) → MereBuilt place
          there (inl e) = record {
            act = x;
            plan = m;
            endpoint = e.0;
            is = at;
            shows = shows;
            mere = mere;
            step = found.does;
            ports = found.built m refl;
            there = e.1;
          }
          there (inr (inl o)) =
              let b = found.does in
              absurd (let clash : At me.host (Makes m) ≡ Effect o.thread (answers.Given o.socket) = sym b ∙ o.is in cc clash)
          there (inr (inr c)) =
              let b = found.does in
              absurd (let clash : At me.host (Makes m) ≡ At me.host (Takes c.line c.how) = sym b ∙ c.is in cc clash)

      named : (x : Stamped tcp_shape) → act_at t w place ≡ Some x → (m : SegmentPlan) → (s : TouchedEndpoint)
          → (observe t.header x.moment (known_before t w place).model x.step).touched ≡ Some s
          → s.host ≡ me.host → s.place ≡ me.number → s.event ≡ Builds m
          → is_mere_ack m (seen (known_before t w place).model me) (seen (known_before t w (suc place)).model me) ≡ true
          → AsShown (known_before t w place).model x.step s → MereBuilt place
      named x at m s shows host number event mere found =
          let one : s ≡ touched (known_before t w place).model me (Builds m) =
          λ i. record {
            host = host i;
            place = number i;
            event = event i;
            before = (found.before ∙ (λ i. seen (known_before t w place).model (record { host = host i; number = number i }))) i;
          } in
          make x at m mere (shows ∙ ap (λ (y : TouchedEndpoint). Some y) one) (subst (AsShown (known_before t w place).model x.step) one found)

      by : (o : Option (Stamped tcp_shape)) → act_at t w place ≡ o → (m : SegmentPlan)
          → on o None (λ x. event_for me (observe t.header x.moment (world_before t w place) x.step).touched) ≡ Some (Builds m)
          → is_mere_ack m (seen_before t w place me) (seen_before t w (suc place) me) ≡ true → MereBuilt place
      by None at m is mere = absurd (none-some (Builds m) is)
      by (Some x) at m is mere =
          let here : event_for me (observe t.header x.moment (known_before t w place).model x.step).touched ≡ Some (Builds m) =
          ap (λ (v : World tcp_shape). event_for me (observe t.header x.moment v x.step).touched) (world_is t w place) ∙ is in
          let s = event_of me (observe t.header x.moment (known_before t w place).model x.step).touched (Builds m) here in
          named x at m s.0 s.1 s.2 s.3 s.4 (mere_here m mere)
          (subst (AsBefore (known_before t w place).model x.step) s.1 (as_before t.header x.moment (known_before t w place).model x.step))

  -- ---- the step that sends one

  -- an endpoint stays
  stays : (e : Endpoint) (i j : ℕ) → i ≤ j → j ≤ length w.steps → find (known_before t w i).model.hosts me ≡ Some e
      → (f : Endpoint) × (find (known_before t w j).model.hosts me ≡ Some f)
  stays e i j le high there =
      run_keeps t.header slack (length w.steps) (act_at t w) (known_before t w) r (λ j k. (f : Endpoint) × (find k.model.hosts me ≡ Some f))
      (λ j k p. p) i j le high
      (e, there) (λ q x low less is goes f.
      let g = later_step t.header x.moment (known_before t w q).model x.step
      (steady_at t w slack r placed q (omega (arith, less, high))) goes.permitted me f.0 f.1 in
      (g.0, ap (λ (v : World tcp_shape). find v.hosts me) goes.model ∙ g.1))

  -- it touches the endpoint, and counts
  record SendsMere (j : ℕ) (y : Stamped tcp_shape) : Type 0 where
    event : Event
    shows : (observe t.header y.moment (known_before t w j).model y.step).touched ≡ Some (touched (known_before t w j).model me event)
    counts : counts_now (built_by (known_before t w j).duties (observe t.header y.moment (known_before t w j).model y.step).built_change) ≡ true

  mere_sent : (j : ℕ) (y : Stamped tcp_shape) → act_at t w j ≡ Some y → (host : Host) (n : ℕ) → sends y.step ≡ Some (host, n)
      → MereAt j n → SendsMere j y
  mere_sent j y is host n sending m =
      record {
        event = sending_of shown.0 sent.made.emission;
        shows =
            shown.1
            ∙ ap (λ (x : Host). at_sender x (pick (known_before t w j).model.hosts x).body shown.0 sent.made.emission) here
            ∙ sender_shows (known_before t w j).model me shown.0 sent.made.emission f.0 (ap (λ (e : Emission). e.is_reset_reply) built)
            (ap (λ (e : Emission). e.sender.number) built) f.1;
        counts = sent.counts ∙ counted_there;
      }
    where
      low : j < length w.steps
      low = within t w j y is

      sent : Sent t.header slack (length w.steps) (act_at t w) (known_before t w) r j y host n
      sent = sent_was_built t.header slack (length w.steps) (act_at t w) (known_before t w) r j y host n (within t w j y is) is sending

      shown : (wire : Wire) × ((observe t.header y.moment (known_before t w j).model y.step).touched
          ≡ at_sender host (pick (known_before t w j).model.hosts host).body wire sent.made.emission)
      shown = sending_shows t.header y.moment (known_before t w j).model y.step host n sent.made sending sent.there

      b : MereBuilt m.place
      b = mere_built m.place m.builds

      here_built : WasBuilt t.header slack (length w.steps) (act_at t w) (known_before t w) r j me.host n
      here_built = record {
        place = m.place;
        act = b.act;
        low = m.low;
        is = b.is;
        builds = ap builds b.step;
        count =
            m.number ∙ ap (λ (q : ℕ). suc q) (sym (count_is t w slack given lawful dutiful m.place
            (let below = m.low in let top = low in omega (arith, below, top))));
      }

      here : host ≡ me.host
      here = same_builder t.header slack (length w.steps) (act_at t w) (known_before t w) r j host me.host n
          (let top = low in omega (arith, top)) sent.was here_built

      same : sent.was.place ≡ m.place
      same = same_place t.header slack (length w.steps) (act_at t w) (known_before t w) r j host me.host n
          (let top = low in omega (arith, top)) sent.was here_built

      act_same : sent.was.act ≡ b.act
      act_same = same_Some sent.was.act b.act (sym sent.was.is ∙ ap (act_at t w) same ∙ b.is)

      is_built : Some sent.made.emission ≡ Some (emission_of (record { host = me.host; number = me.number }) b.endpoint b.plan b.act.moment)
      is_built =
          let k = known_before t w m.place in
          let body = (pick k.model.hosts me.host).body in
          let content = subst (λ (q : ℕ). made_by b.act.moment (known_before t w q).model b.act.step ≡ Some sent.made.emission) same
          (subst (λ (x : Stamped tcp_shape). made_by x.moment (known_before t w sent.was.place).model x.step ≡ Some sent.made.emission)
          act_same sent.content) in
          sym content
          ∙ ap (made_by b.act.moment k.model) b.step
          ∙ ap (λ (o : Option ℕ). option_map_or (made_at me.host b.act.moment body b.plan) o None) b.ports
          ∙ ap (option_map (λ (e : Endpoint). emission_of (record { host = me.host; number = me.number }) e b.plan b.act.moment)) b.there

      built : sent.made.emission ≡ emission_of (record { host = me.host; number = me.number }) b.endpoint b.plan b.act.moment
      built = same_Some sent.made.emission (emission_of (record { host = me.host; number = me.number }) b.endpoint b.plan b.act.moment) is_built

      counted_there : counts_by t.header slack (length w.steps) (act_at t w) (known_before t w) r (known_before t w sent.was.place) sent.was.act ≡ true
      counted_there =
          let k = known_before t w m.place in
          let goes = goes_of t w slack r m.place b.act b.is in
          let v = after (tcp t.header) b.act.moment k.model b.act.step in
          let base : counts_by t.header slack (length w.steps) (act_at t w) (known_before t w) r k b.act ≡ true =
          ap (λ (o : Option TouchedEndpoint). option_map_or (builds_mere_ack (view_in v o)) o false) b.shows
          ∙ ap (λ (u : World tcp_shape). is_mere_ack b.plan (seen k.model me) (seen u me)) (sym goes.model) ∙ b.mere in
          subst (λ (q : ℕ). counts_by t.header slack (length w.steps) (act_at t w) (known_before t w) r (known_before t w q) sent.was.act ≡ true) (sym same)
          (subst (λ (x : Stamped tcp_shape). counts_by t.header slack (length w.steps) (act_at t w) (known_before t w) r (known_before t w m.place) x ≡ true)
          (sym act_same) base)

      f : (f : Endpoint) × (find (known_before t w j).model.hosts me ≡ Some f)
      f = stays b.endpoint m.place j (let below = m.low in omega (arith, below)) (let top = low in omega (arith, top)) b.there

  -- the line that is sent
  sent_event : (e : lines.Event) (x : Extras) (n : ℕ) → number_sent e x ≡ Some n
      → (host : Host) × (wire : Wire) × (e ≡ seen_events.Sent host wire) × (x ≡ OneExtra n)
  sent_event (seen_events.Sent host wire) (OneExtra k) n is = (host, wire, refl, ap OneExtra (same_Some k n is))
  sent_event e x n is = absurd (none-some n is)

  sent_line : (j : ℕ) (s : WitnessStep) → slice_get w.steps j ≡ Some s → (n : ℕ) → sent_by t s.label ≡ Some n → (host : Host) × SendsAt t w j s.moment host n
  sent_line j s here n is = at s.moment s.label s.span here is
    where
      with_line : (moment : ℕ) (named : NamedLine) (span : Span) → slice_get w.steps j ≡ Some (record { moment = moment; label = labels.L named; span = span })
          → (o : Option Line) → line_at t.header t.lines named.number ≡ o → option_map_or (λ line. number_sent line.event named.extras) o None ≡ Some n
          → (host : Host) × SendsAt t w j moment host n
      with_line moment named span here None there is = absurd (none-some n is)
      with_line moment named span here (Some line) there is =
          let e = sent_event line.event named.extras n is in (
            e.0,
            record {
              line = named.number;
              shown = line;
              wire = e.1;
              step = record {
                span = span;
                here = here ∙ (λ i. Some (record { moment = moment; label = labels.L (record { number = named.number; extras = e.3 i }); span = span }));
              };
              is = there;
              sends = e.2;
            },
          )

      at : (moment : ℕ) (label : Label NamedLine) (span : Span) → slice_get w.steps j ≡ Some (record { moment = moment; label = label; span = span })
          → sent_by t label ≡ Some n → (host : Host) × SendsAt t w j moment host n
      at moment (labels.L named) span here is = with_line moment named span here (line_at t.header t.lines named.number) refl is
      at moment label span here is = absurd (none-some n is)

  -- a step that sends one has an act, which touches the endpoint and counts
  key : (j : ℕ) → sends_mere_at t w me j ≡ true → (y : Stamped tcp_shape) × (act_at t w j ≡ Some y) × SendsMere j y
  key j is = by (slice_get w.steps j) refl is
    where
      by : (o : Option WitnessStep) → slice_get w.steps j ≡ o
          → on o false (λ s. option_map_or (λ number. list_any (nat_eq number) (mere_before t w me j)) (sent_by t s.label) false) ≡ true
          → (y : Stamped tcp_shape) × (act_at t w j ≡ Some y) × SendsMere j y
      by None at is = absurd cc
      by (Some s) at is =
          let n = map_or_true (sent_by t s.label) (λ number. list_any (nat_eq number) (mere_before t w me j)) is in
          let a = sent_line j s at n.0 n.1 in
          let x = sending_act t w j s.moment a.0 n.0 a.1 in
          (x.0, x.1, mere_sent j x.0 x.1 a.0 n.0 x.3 (mere_found j n.0 n.2))

  -- ---- the count

  abbrev left : ℕ → ℕ
  left j = (owed_by (known_before t w j).duties me.host me.number).answers

  abbrev Fits : ℕ → Type 0
  Fits j = count_before (sends_mere_at t w me) j + left j ≤ count_before (comes_at t w me) j

  nothing_left : (host : Host) (n : ℕ) → (owed_by (first_known t.header).duties host n).answers ≡ 0
  nothing_left Zero n = refl
  nothing_left One n = refl

  -- a step that does nothing at the endpoint
  same_left : (j : ℕ) → left (suc j) ≡ left j → sends_mere_at t w me j ≡ false → Fits j → Fits (suc j)
  same_left j same none fits = by (sends_mere_at t w me j) (comes_at t w me j) none
    where
      by : (a b : Bool) → a ≡ false
          → (if a then suc (count_before (sends_mere_at t w me) j) else count_before (sends_mere_at t w me) j) + left (suc j)
          ≤ (if b then suc (count_before (comes_at t w me) j) else count_before (comes_at t w me) j)
      by true b e = absurd cc
      by false true e = omega (arith, same, fits)
      by false false e = omega (arith, same, fits)

  fits_next : (j : ℕ) → j < length w.steps → Fits j → Fits (suc j)
  fits_next j low fits = by (act_at t w j) refl (r.each j low)
    where
      none_sends : ((y : Stamped tcp_shape) → act_at t w j ≡ Some y → SendsMere j y → ⊥) → sends_mere_at t w me j ≡ false
      none_sends no' = is_not (sends_mere_at t w me j) (λ is. let k = key j is in no' k.0 k.1 k.2)

      touch_or : (y : Stamped tcp_shape) → act_at t w j ≡ Some y
          → Touches t.header (known_before t w j) y me
          ⊎ ((owed_by (known_before t w (suc j)).duties me.host me.number ≡ owed_by (known_before t w j).duties me.host me.number)
          × ((event : Event) → (observe t.header y.moment (known_before t w j).model y.step).touched ≡ Some (touched (known_before t w j).model me event) → ⊥))
          → Fits (suc j)
      touch_or y at (inr same) =
          same_left j (ap (λ (o : Owed). o.answers) same.0)
          (none_sends (λ z is k. same.1 k.event
          (subst (λ (v : Stamped tcp_shape). (observe t.header v.moment (known_before t w j).model v.step).touched
          ≡ Some (touched (known_before t w j).model me k.event))
          (same_Some z y (sym is ∙ at)) k.shows))) fits
      touch_or y at (inl touch) =
          let owes = owes_of t w slack r j y me touch.event at touch.shows in
          let before = seen (known_before t w j).model me in
          let now : left (suc j) ≡ answers_after touch.event before owes.counts (left j) =
          ap (λ (o : Owed). o.answers) owes.rest
          ∙ answers_is touch.event before (seen (known_before t w (suc j)).model me) y.moment owes.listener owes.counts
          (owed_by (known_before t w j).duties me.host me.number) in
          subst (λ (n : ℕ). (if sends_mere_at t w me j then suc (count_before (sends_mere_at t w me) j) else count_before (sends_mere_at t w me) j) + n
          ≤ (if comes_at t w me j then suc (count_before (comes_at t w me) j) else count_before (comes_at t w me) j)) (sym now)
          (counted (sends_mere_at t w me j) (comes_at t w me j) owes.counts (is_arrival touch.event before)
          (count_before (sends_mere_at t w me) j) (count_before (comes_at t w me) j) (left j)
          (λ is. let k = key j is in owes.counted
          ∙ subst (λ (v : Stamped tcp_shape). counts_now
          (built_by (known_before t w j).duties (observe t.header v.moment (known_before t w j).model v.step).built_change)
          ≡ true)
          (same_Some k.0 y (sym k.1 ∙ at)) k.2.counts)
          (λ arrives.
          ap (λ (o : Option (Stamped tcp_shape)). option_map_or (λ event. comes event (seen_before t w j me))
          (on o None (λ x. event_for me (observe t.header x.moment (world_before t w j) x.step).touched)) false) at
          ∙ ap (λ (v : World tcp_shape). option_map_or (λ event. comes event (seen v me))
          (event_for me (observe t.header y.moment v y.step).touched) false) (sym (world_is t w j))
          ∙ ap (λ (o : Option TouchedEndpoint). option_map_or (λ event. comes event before) (event_for me o) false) touch.shows
          ∙ ap (λ (o : Option Event). option_map_or (λ event. comes event before) o false) (event_here (known_before t w j).model me touch.event)
          ∙ comes_is touch.event before ∙ arrives)
          owes.excess fits)

      by : (o : Option (Stamped tcp_shape)) → act_at t w j ≡ o → Steps t.header slack (known_before t w j) (known_before t w (suc j)) o → Fits (suc j)
      by None at same =
          same_left j (ap (λ (k : Known). (owed_by k.duties me.host me.number).answers) same)
          (none_sends (λ z is k. none-some z (sym at ∙ is))) fits
      by (Some y) at goes = touch_or y at (touches_or_not t.header slack (known_before t w j) (known_before t w (suc j)) y me goes)

  pub few : (place : ℕ) → place ≤ length w.steps → count_before (sends_mere_at t w me) place ≤ count_before (comes_at t w me) place
  few place high =
      let fits = onward Fits 0 place (omega arith) (let none = nothing_left me.host me.number in omega (arith, none))
      (λ j low less was. fits_next j (omega (arith, less, high)) was) in
      omega (arith, fits)
