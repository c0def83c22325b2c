-- What happens at an endpoint is done by a step with a label or a line.
use Rattle.std.proofs.Common.{◌≡◌, ℕ, length, Option, Some, None, refl, ap, sym, subst, ◌∙◌}
use Rattle.std.specs.Prelude.{slice_get}
use Rattle.std.specs.Option.{option_map, option_map_or}
use Rattle.std.proofs.lemmas.Option.{none-some}
use Rattle.case_forms.specs.TakenLines.{timer_of}
use Rattle.case_forms.specs.declared.calls.Host.{Host}
use Rattle.case_forms.specs.declared.steps.SegmentPlan.{SegmentPlan}
use Rattle.case_forms.specs.declared.steps.Step.{Step as WitnessStep}
use Rattle.case_forms.specs.declared.steps.TakeChoice.{TakeChoice}
use Rattle.case_forms.specs.declared.timer.Recovery.{Recovery}
use Rattle.case_forms.specs.declared.timer.Timer.{Timer}
use Rattle.case_forms.specs.declared.trace.Header.{Header}
use Rattle.case_forms.specs.declared.trace.Span.{Span}
use Rattle.verdict.specs.Rules.{first_broken}
use Rattle.verdict.specs.declared.rule.Rule.TheVariants as rules
use Rattle.interval_order.specs.Placed.{Placed}
use Rattle.spec_network.specs.Hosts.{At, Step, World}
use Rattle.spec_network.specs.Hosts as model
use Rattle.spec_network.specs.Tables.{on, pick, waiting}
use Rattle.spec_tcp.specs.Arrives.{AtEndpoint, AtListener, Nobody, Taker, taker, taker_rules}
use Rattle.spec_tcp.specs.Endpoints.{segment_length}
use Rattle.spec_tcp.specs.HostTcp.{endpoint_of, place_of}
use Rattle.spec_tcp.specs.Machine.{tcp_shape}
use Rattle.spec_tcp.specs.declared.endpoint.Emission.{Emission}
use Rattle.spec_tcp.specs.declared.endpoint.Endpoint.{Endpoint}
use Rattle.spec_tcp_laws.proofs.Rules.{map_or_passes, on_passes}
use Rattle.spec_tcp_laws.proofs.Takes.{taker_there}
use Rattle.spec_duties.specs.Observations.{at_place, at_ports, at_target, processing_of, observe, observe_taking, unseen}
use Rattle.spec_duties.specs.Views.{unborn, view_of}
use Rattle.spec_duties.specs.declared.views.View.{View}
use Rattle.checker.specs.Seen.{act_of, moves}
use Rattle.kept_duties.proofs.Repeats.{goes_of, happens_from}
use Rattle.kept_duties.proofs.Runs.{Run, world_is}
use Rattle.case_forms.specs.declared.named_line.NamedLine.{NamedLine}
use Rattle.case_forms.specs.declared.steps.Label.{Label}
use Rattle.case_forms.specs.declared.steps.Label.TheVariants as labels
use Rattle.case_forms.specs.declared.steps.Witness.{Witness}
use Rattle.case_forms.specs.declared.trace.Trace.{Trace}
use Rattle.spec_duties.specs.declared.events.Event.{Event}
use Rattle.spec_duties.specs.declared.events.Event.TheVariants.{Builds, Calls, Drops, Expires, Opens, Processes, Recovers}
use Rattle.spec_duties.specs.declared.events.Event.TheVariants.{Sends}
use Rattle.kept_duties.specs.Happens.{EventsAreSteps, ExpiresAt, HappensThere, IsBy, StepsAreEvents, act_at, known_before}
use Rattle.kept_duties.specs.Happens.{world_before}
use Rattle.kept_duties.specs.Places.{IsStep, SendsAt}
use Rattle.kept_duties.proofs.Labels.{expires_at, expiry_act, hidden_label, hidden_step, sends_at}
use Rattle.kept_duties.proofs.Touched.{AsBefore, StepDoes, as_before, next_before, touched}

pub events_by_steps : (t : Trace) (w : Witness) → EventsAreSteps t w
events_by_steps t w place moment me event a =
    by event (subst (AsBefore (world_before t w place) a.act.step) a.touches (as_before t.header a.act.moment (world_before t w place) a.act.step)).does
  where
    hidden : (label : Label NamedLine) → hidden_label a.act.step ≡ Some label → IsStep w place moment label
    hidden label does = subst (λ (m : ℕ). IsStep w place m label) a.time (hidden_step t w place a.act a.is label does)

    by : (event : Event) → StepDoes a.act.step me.host event → IsBy t w place moment me.host event
    by (Processes length rst) d = (d.0, d.1, hidden (labels.T me.host d.0 d.1) (ap hidden_label d.2))
    by (Drops asks unlimited) d = (d.0, hidden (labels.K me.host d.0) (ap hidden_label d.1))
    by (Builds m) d = hidden (labels.M me.host m) (ap hidden_label d)
    by (Sends s) d =
        (d.1, subst (λ (m : ℕ). SendsAt t w place m me.host d.1) a.time (sends_at t w place a.act a.is me.host d.0 d.1 d.2 d.3))
    by (Expires timer) d =
        subst (λ (m : ℕ). ExpiresAt t w place m me.host timer) a.time (expires_at t w place a.act a.is me.host d.0 d.1 timer d.2 d.3)
    by (Recovers change) d = (d.0, d.2, hidden (labels.F me.host d.0) (ap hidden_label d.1))
    by (Calls aborts) d = (d.0, d.1, hidden (labels.D d.0 d.1) (ap hidden_label d.2))
    by Opens d = (d.0, d.1, hidden (labels.D d.0 d.1) (ap hidden_label d.2))

-- ---- the other way round

-- an endpoint that is there is touched
pub place_touched : (v : World tcp_shape) (host : Host) (event : Event) (i : ℕ) (e : Endpoint) → slice_get (pick v.hosts host).body.endpoints i ≡ Some e
    → at_place host (pick v.hosts host).body event i ≡ Some (touched v (record { host = host; number = i }) event)
place_touched v host event i e is =
    ap (option_map (λ (e : Endpoint). record { host = host; place = i; event = event; before = view_of e })) is
    ∙ ap (λ (o : Option Endpoint). Some (record { host = host; place = i; event = event; before = option_map_or view_of o unborn })) (sym is)

-- the endpoint of some ports is touched
ports_touched : (v : World tcp_shape) (host : Host) (event : Event) (lport rport : ℕ) (e : Endpoint) → endpoint_of (pick v.hosts host).body lport rport ≡ Some e
    → (i : ℕ) × (at_ports host (pick v.hosts host).body event lport rport ≡ Some (touched v (record { host = host; number = i }) event))
ports_touched v host event lport rport e = by (place_of (pick v.hosts host).body lport rport)
  where
    by : (o : Option ℕ) → option_map_or (λ i. slice_get (pick v.hosts host).body.endpoints i) o None ≡ Some e
        → (i : ℕ) × (option_map_or (at_place host (pick v.hosts host).body event) o None ≡ Some (touched v (record { host = host; number = i }) event))
    by None is = absurd (none-some e is)
    by (Some i) is = (i, place_touched v host event i e is)

-- whoever takes a segment is touched
taker_touched : (h : Header) (moment : ℕ) (v : World tcp_shape) (host : Host) (how : TakeChoice) (m : Emission)
    → first_broken (taker_rules h host (pick v.hosts host).body how m moment (taker (pick v.hosts host).body m)) ≡ None
    → (i : ℕ) × (at_target host (pick v.hosts host).body m (taker (pick v.hosts host).body m)
    ≡ Some (touched v (record { host = host; number = i }) (processing_of m)))
taker_touched h moment v host how m = by (taker (pick v.hosts host).body m) refl
  where
    by : (k : Taker) → taker (pick v.hosts host).body m ≡ k → first_broken (taker_rules h host (pick v.hosts host).body how m moment k) ≡ None
        → (i : ℕ) × (at_target host (pick v.hosts host).body m k ≡ Some (touched v (record { host = host; number = i }) (processing_of m)))
    by Nobody is may = absurd cc
    by (AtListener l) is may = (
      length (pick v.hosts host).body.endpoints,
      ap (λ (u : View). Some (record { host = host; place = length (pick v.hosts host).body.endpoints; event = processing_of m; before = u }))
          (next_before v host),
    )
    by (AtEndpoint i e) is may = (i, place_touched v host (processing_of m) i e (taker_there (pick v.hosts host).body m i e is))

module _ (t : Trace) (w : Witness) (slack : ℕ) (r : Run t.header slack (length w.steps) (act_at t w) (known_before t w))
    (placed : Placed t.header t.lines (moves w.steps)) where
  -- a step with an act at an endpoint
  makes_happen : (place moment : ℕ) (step : Step tcp_shape) (host : Host) (event : Event) → act_at t w place ≡ Some (record { moment = moment; step = step })
      → (i : ℕ) × ((observe t.header moment (known_before t w place).model step).touched
      ≡ Some (touched (known_before t w place).model (record { host = host; number = i }) event))
      → HappensThere t w place moment host event
  makes_happen place moment step host event is p =
      (p.0, happens_from t w place (record { moment = moment; step = step }) (record { host = host; number = p.0 }) event is p.1)

  act_of_step : (place moment : ℕ) (label : Label NamedLine) (step : Step tcp_shape) → IsStep w place moment label
      → ((span : Span) → act_of t.header t.lines (record { moment = moment; label = label; span = span }) ≡ Some (record { moment = moment; step = step }))
      → act_at t w place ≡ Some (record { moment = moment; step = step })
  act_of_step place moment label step is acts = ap (λ (o : Option WitnessStep). option_map_or (act_of t.header t.lines) o None) is.here ∙ acts is.span

  processing : (place moment line : ℕ) (host : Host) (choice : TakeChoice) → IsStep w place moment (labels.T host line choice)
      → (m : Emission) × (waiting line (pick (world_before t w place).hosts host).inbox ≡ Some m)
      × HappensThere t w place moment host (Processes (segment_length m) m.flags.rst)
  processing place moment line host choice is =
      let acts = act_of_step place moment (labels.T host line choice) (At host (model.Takes line choice)) is (λ span. refl) in
      let goes = goes_of t w slack r place (record { moment = moment; step = At host (model.Takes line choice) }) acts in
      let v = (known_before t w place).model in
      let p = on_passes (waiting line (pick v.hosts host).inbox) rules.Inbox _ goes.permitted in
      let q = taker_touched t.header moment v host choice p.0 p.2 in (
        p.0,
        subst (λ (v : World tcp_shape). waiting line (pick v.hosts host).inbox ≡ Some p.0) (world_is t w place) p.1,
        makes_happen place moment (At host (model.Takes line choice)) host (processing_of p.0) acts (
          q.0,
          ap (λ (o : Option Emission). (on o unseen (λ m. observe_taking t.header host (pick v.hosts host).body line choice m
              (taker (pick v.hosts host).body m))).touched) p.1 ∙ q.1,
        ),
      )

  building : (place moment : ℕ) (host : Host) (m : SegmentPlan) → IsStep w place moment (labels.M host m) → HappensThere t w place moment host (Builds m)
  building place moment host m is =
      let acts = act_of_step place moment (labels.M host m) (At host (model.Makes m)) is (λ span. refl) in
      let goes = goes_of t w slack r place (record { moment = moment; step = At host (model.Makes m) }) acts in
      let v = (known_before t w place).model in
      let p = map_or_passes (endpoint_of (pick v.hosts host).body m.lport m.rport) rules.NoEndpoint _ goes.permitted in
      makes_happen place moment (At host (model.Makes m)) host (Builds m) acts (ports_touched v host (Builds m) m.lport m.rport p.0 p.1)

  recovering : (place moment : ℕ) (host : Host) (recovery : Recovery) → IsStep w place moment (labels.F host recovery)
      → HappensThere t w place moment host (Recovers recovery.change)
  recovering place moment host recovery is =
      let acts = act_of_step place moment (labels.F host recovery) (At host (model.Does recovery)) is (λ span. refl) in
      let goes = goes_of t w slack r place (record { moment = moment; step = At host (model.Does recovery) }) acts in
      let v = (known_before t w place).model in
      let p = map_or_passes (endpoint_of (pick v.hosts host).body recovery.lport recovery.rport) rules.NoEndpoint _ goes.permitted in
      makes_happen place moment (At host (model.Does recovery)) host (Recovers recovery.change) acts
      (ports_touched v host (Recovers recovery.change) recovery.lport recovery.rport p.0 p.1)

  expiring : (place moment : ℕ) (host : Host) (timer : Timer) → ExpiresAt t w place moment host timer → HappensThere t w place moment host (Expires timer)
  expiring place moment host timer a =
      let e = expiry_act t w placed place moment host timer a in
      let step = At host (model.Expires a.shown.number (record { lport = a.lport; rport = a.rport; expired = e.0 })) in
      let goes = goes_of t w slack r place (record { moment = moment; step = step }) e.1 in
      let v = (known_before t w place).model in
      let p = map_or_passes (endpoint_of (pick v.hosts host).body a.lport a.rport) rules.NoEndpoint _ goes.permitted in
      subst (λ (timer : Timer). HappensThere t w place moment host (Expires timer)) e.2
      (makes_happen place moment step host (Expires (timer_of e.0)) e.1 (ports_touched v host (Expires (timer_of e.0)) a.lport a.rport p.0 p.1))

  pub steps_by_events : StepsAreEvents t w
  steps_by_events = record { processes = processing; builds = building; expires = expiring; recovers = recovering }
