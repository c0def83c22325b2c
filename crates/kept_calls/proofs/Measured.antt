-- Round trips are measured: duties know up to which position each endpoint's were, or went again.
use Rattle.std.proofs.Common.{◌≡◌, ℕ, suc, ◌<◌, ◌⊎◌, inl, inr, Bool, true, false, length, Option, Some, None, refl, ap, sym, subst, ◌∙◌, nat_eq, arith}
use Rattle.std.specs.Prelude.{if◌then◌else◌, ◌-◌, ◌&&◌, ◌||◌, not, nat_le, nat_lt}
use Rattle.std.specs.List.{AllByRecursion}
use Rattle.std.specs.Map.{lookup}
use Rattle.std.specs.Option.{option_map, option_map_or}
use Rattle.std.proofs.lemmas.Bool.Decides.{nat_tests}
use Rattle.std.proofs.lemmas.Option.{none-some, same_Some}
use Rattle.case_forms.specs.States.{is_syn_sent}
use Rattle.case_forms.specs.Versions.{is_half, says_sender}
use Rattle.case_forms.specs.declared.calls.Host.{Host}
use Rattle.case_forms.specs.declared.calls.Host.TheVariants.{Zero, One}
use Rattle.case_forms.specs.declared.steps.Label.TheVariants as labels
use Rattle.case_forms.specs.declared.steps.SegmentPlan.{SegmentPlan}
use Rattle.case_forms.specs.declared.steps.Step.{Step as WitnessStep}
use Rattle.case_forms.specs.declared.steps.TakeChoice.{TakeChoice}
use Rattle.case_forms.specs.declared.steps.Witness.{Witness}
use Rattle.case_forms.specs.declared.trace.Header.{Header}
use Rattle.case_forms.specs.declared.trace.Trace.{Trace}
use Rattle.verdict.specs.Rules.{first_broken}
use Rattle.verdict.specs.declared.rule.Rule.TheVariants as rules
use Rattle.verdict.proofs.RuleLemmas.{none_all}
use Rattle.streams.specs.Transmissions.{retransmitted}
use Rattle.spec_network.specs.HostRules.{Permitted}
use Rattle.spec_network.specs.HostSteps.{Lawful}
use Rattle.spec_network.specs.Hosts.{Stamped, World, Does, Expires, Makes, Sends}
use Rattle.spec_network.specs.Hosts.{Gets, Hears, Takes, Drops, Answers, Step, Begin, Finish, Effect, At, turn_of}
use Rattle.spec_network.specs.Tables.{on, pick, waiting}
use Rattle.spec_tcp.specs.Arrives.{Taker, Nobody, AtListener, AtEndpoint, taker, taker_rules}
use Rattle.spec_tcp.specs.Arrives.OtherStates.{connected_rules}
use Rattle.spec_tcp.specs.Arrives.OtherStates.Ack.{may_sample}
use Rattle.spec_tcp.specs.Arrives.SynSent.{syn_sent_rules}
use Rattle.spec_tcp.specs.Heard.{as_read, read_at}
use Rattle.spec_tcp.specs.HostTcp.{HostTcp}
use Rattle.spec_tcp.specs.Machine.{tcp, tcp_shape}
use Rattle.spec_tcp.specs.Makes.Payload.{making_length}
use Rattle.spec_tcp.specs.declared.endpoint.Emission.{Emission}
use Rattle.spec_tcp.specs.declared.endpoint.Endpoint.{Endpoint}
use Rattle.spec_tcp.specs.declared.endpoint.EndpointId.{EndpointId}
use Rattle.spec_tcp_laws.proofs.Rules.{both_true, neither, not_false, on_passes, true_false}
use Rattle.spec_tcp_laws.proofs.Takes.{taker_there}
use Rattle.spec_cases.specs.Cases.{Dutiful, Known, first_known, untrue_at}
use Rattle.spec_duties.specs.Observations.{observe, observe_dropping, observe_taking, processing_of, unseen}
use Rattle.spec_duties.specs.Sampling.{builds_again, is_measured, is_sample_due, may_measure, sampling_at, sampling_by, timed_after}
use Rattle.spec_duties.specs.declared.strict.StrictOwed.{StrictOwed}
use Rattle.spec_duties.specs.Views.{unborn, view_of}
use Rattle.spec_duties.specs.Dropped.{answering_breaks, taking_breaks}
use Rattle.spec_duties.specs.Watching.{answer_rules, built_by, counts_now, owed_by, sent_by, strict_by, touched_rules}
use Rattle.spec_duties.specs.declared.events.Event.{Event}
use Rattle.spec_duties.specs.declared.events.Event.TheVariants.{Builds}
use Rattle.spec_duties.specs.declared.observations.Observation.{Observation}
use Rattle.spec_duties.specs.declared.observations.Sampling.{Sampling}
use Rattle.spec_duties.specs.declared.observations.Sampling.TheVariants as sampling
use Rattle.spec_duties.specs.declared.observations.TouchedEndpoint.{TouchedEndpoint}
use Rattle.spec_duties.specs.declared.views.View.{View}
use Rattle.checker.specs.Seen.{act_of, stamped}
use Rattle.kept_duties.specs.Happens.{Happens, act_at, known_before, seen_before}
use Rattle.kept_duties.proofs.Excused.{AsSeen, as_event}
use Rattle.kept_duties.proofs.Labels.{hidden_label, hidden_step}
use Rattle.kept_duties.proofs.Repeats.{goes_of, happens_from}
use Rattle.kept_duties.proofs.Runs.{Goes, Run, onward, world_is}
use Rattle.kept_duties.proofs.Segments.{run}
use Rattle.kept_duties.proofs.Stricter.{strict_kept, strict_touched}
use Rattle.kept_duties.proofs.Touched.{Touches, seen, touched, touches_or_not}
use Rattle.kept_calls.specs.Measuring.{IsTimed, MeasuresAt, RebuildsAt, SamplesAreTaken, SkipsAt}
use Rattle.kept_calls.proofs.Acts.{nothing_done}
use Rattle.kept_calls.proofs.Earns.{idle_effect, idle_on, touched_there}

-- ---- a step that measures

not_measured : (s : Sampling) → s ≡ sampling.Nothing → is_measured s ≡ true → ⊥
not_measured s none is = absurd (let e : false ≡ true = sym (ap is_measured none) ∙ is in cc)

-- it is a `T` step of the endpoint, with a sample
pub record Measures (me : EndpointId) (step : Step tcp_shape) : Type 0 where
  pub line : ℕ
  pub how : TakeChoice
  pub is : step ≡ At me.host (Takes line how)
  pub measures : how.sample ≡ true

measures : (h : Header) (moment : ℕ) (w : World tcp_shape) (me : EndpointId) (t : TouchedEndpoint) → t.host ≡ me.host → t.place ≡ me.number
    → (step : Step tcp_shape) → (observe h moment w step).touched ≡ Some t → is_measured (observe h moment w step).sampling ≡ true → Measures me step
measures h moment w me t of number (Begin line thread call) touches is = absurd (not_measured _ refl is)
measures h moment w me t of number (Finish line thread answer) touches is = absurd (not_measured _ refl is)
measures h moment w me t of number (Effect thread answer) touches is =
    absurd (not_measured _ (idle_effect h w thread answer (turn_of thread w.threads)).sampling is)
measures h moment w me t of number (At host (Does x)) touches is = absurd (not_measured _ refl is)
measures h moment w me t of number (At host (Expires line x)) touches is = absurd (not_measured _ refl is)
measures h moment w me t of number (At host (Makes m)) touches is = absurd (not_measured _ refl is)
measures h moment w me t of number (At host (Sends line n wire)) touches is =
    absurd (not_measured _ (idle_on (lookup (nat_eq n) (pick w.hosts host).made) _
    (λ m. record { dropping = refl; earns = refl; sampling = refl })).sampling is)
measures h moment w me t of number (At host (Gets line copied wire)) touches is = absurd (not_measured _ refl is)
measures h moment w me t of number (At host (Hears line wire)) touches is = absurd (not_measured _ refl is)
measures h moment w me t of number (At host (Answers line)) touches is = absurd (not_measured _ refl is)
measures h moment w me t of number (At host (Drops line)) touches is = by (waiting line (pick w.hosts host).inbox) is
  where
    by : (o : Option Emission) → is_measured (on o unseen (λ m. observe_dropping h.version host (pick w.hosts host).body line
        (taking_breaks h moment w host line) (answering_breaks h w host line) m
        (taker (pick w.hosts host).body m))).sampling ≡ true → Measures me (At host (Drops line))
    by None is = absurd (let e : false ≡ true = is in cc)
    by (Some m) is = absurd (let e : false ≡ true = is in cc)
measures h moment w me t of number (At host (Takes line how)) touches is = by (waiting line (pick w.hosts host).inbox) touches is
  where
    b : HostTcp
    b = (pick w.hosts host).body

    sampled : (v c d : Bool) (position : ℕ) → is_measured (if v then (if c then sampling.Measures else if d then sampling.Skips position else sampling.Nothing)
        else sampling.Nothing) ≡ true → c ≡ true
    sampled true true d position is = refl
    sampled true false true position is = absurd (let e : false ≡ true = is in cc)
    sampled true false false position is = absurd (let e : false ≡ true = is in cc)
    sampled false c d position is = absurd (let e : false ≡ true = is in cc)

    at : (m : Emission) (k : Taker) → (observe_taking h host b line how m k).touched ≡ Some t → is_measured (sampling_at h.version how m k) ≡ true
        → Measures me (At host (Takes line how))
    at m Nobody touches is = absurd (let e : false ≡ true = is in cc)
    at m (AtListener l) touches is = absurd (let e : false ≡ true = is in cc)
    at m (AtEndpoint i e) touches is =
        let here = touched_there me host b _ i t of number touches in
        record {
          line = line;
          how = how;
          is = ap (λ (g : Host). At g (Takes line how)) here.0;
          measures =
              sampled (says_sender h.version) how.sample (may_measure h.version e (as_read h.version e m)) ((as_read h.version e m).ack - 1) is;
        }

    by : (o : Option Emission) → (on o unseen (λ m. observe_taking h host b line how m (taker b m))).touched ≡ Some t
        → is_measured (on o unseen (λ m. observe_taking h host b line how m (taker b m))).sampling ≡ true → Measures me (At host (Takes line how))
    by None touches is = absurd (none-some t touches)
    by (Some m) touches is = at m (taker b m) touches is

-- what is built again
again_is : (event : Event) (before : View) → builds_again event before ≡ true
    → (m : SegmentPlan) × (event ≡ Builds m) × (0 < making_length m) × (m.pos < before.snd_max)
again_is (Builds m) before is =
    let both = both_true (nat_lt 0 (making_length m)) (nat_lt m.pos before.snd_max) is in
    let some = both.0 in
    let less = both.1 in (m, refl, grind (arith, nat_tests, some), grind (arith, nat_tests, less))
again_is event before is = absurd (let e : false ≡ true = is in cc)

again_alike : (event seen : Event) → AsSeen event seen → (before : View) → builds_again seen before ≡ builds_again event before
again_alike event seen like before =
    as_event (λ (e : Event). builds_again seen before ≡ builds_again e before) (λ asks now unlimited q. q) event seen like refl

module _ (t : Trace) (w : Witness) (slack : ℕ) (given : t.header.slack ≡ Some slack)
    (lawful : Lawful (tcp t.header) (first_known t.header).model (stamped t.header t.lines w.steps))
    (dutiful : Dutiful t.header (first_known t.header) (stamped t.header t.lines w.steps)) (six : says_sender t.header.version ≡ true)
    (me : EndpointId) where
  abbrev h : Header
  h = t.header

  abbrev known : ℕ → Known
  known = known_before t w

  abbrev r : Run t.header slack (length w.steps) (act_at t w) (known_before t w)
  r = run t w slack given lawful dutiful

  abbrev timed : Known → ℕ
  timed k = (strict_by k.duties me.host me.number).timed

  -- what duties know: since when no round trip was measured, and none went again
  data Since (j : ℕ) (k : Known) : Type 0 where
    never : timed k ≡ 0 → Since j k
    once : (q : ℕ) → q < j → MeasuresAt t w q me ⊎ RebuildsAt t w q me → timed k ≡ (seen_before t w (suc q) me).snd_max → Since j k

  later : (j : ℕ) (k next : Known) → timed next ≡ timed k → Since j k → Since (suc j) next
  later j k next same (never none) = never (same ∙ none)
  later j k next same (once q low does is) = once q (omega (arith, low)) does (same ∙ is)

  since_next : (j : ℕ) → Since j (known j) → Since (suc j) (known (suc j))
  since_next j here = by (act_at t w j) refl
    where
      by : (o : Option (Stamped tcp_shape)) → act_at t w j ≡ o → Since (suc j) (known (suc j))
      by None at = later j (known j) (known (suc j)) (ap timed (nothing_done t w j at)) here
      by (Some x) at = which (touches_or_not h slack (known j) (known (suc j)) x me goes)
        where
          goes : Goes h slack (known j) (known (suc j)) x
          goes = goes_of t w slack r j x at

          s : Observation
          s = observe h x.moment (known j).model x.step

          now : (event : Event) → s.touched ≡ Some (touched (known j).model me event) → Since (suc j) (known (suc j))
          now event shows = go (is_measured s.sampling) (builds_again (goes.sees.judge event) (seen (known j).model me)) refl refl
            where
              is : timed (known (suc j)) ≡ timed_after s.sampling (goes.sees.judge event) (seen (known j).model me) (seen (known (suc j)).model me)
                  (timed (known j))
              is = ap (λ (o : StrictOwed). o.timed) (strict_touched h slack (known j) (known (suc j)) x me goes six event shows)

              after_it : (seen (known (suc j)).model me).snd_max ≡ (seen_before t w (suc j) me).snd_max
              after_it = ap (λ (v : World tcp_shape). (seen v me).snd_max) (world_is t w (suc j))

              happens : Happens t w j x.moment me event
              happens = happens_from t w j x me event at shows

              go : (b c : Bool) → is_measured s.sampling ≡ b → builds_again (goes.sees.judge event) (seen (known j).model me)
                  ≡ c → Since (suc j) (known (suc j))
              go true c measured again =
                  let m = measures h x.moment (known j).model me (touched (known j).model me event) refl refl x.step shows measured in
                  once j (omega arith) (inl (record {
                    moment = x.moment;
                    line = m.line;
                    how = m.how;
                    event = event;
                    step = hidden_step t w j x at (labels.T me.host m.line m.how) (ap hidden_label m.is);
                    happens = happens;
                    measures = m.measures;
                  }))
                  (is ∙ ap (λ (b : Bool). if b || builds_again (goes.sees.judge event) (seen (known j).model me) then (seen (known (suc j)).model me).snd_max
                  else timed (known j)) measured ∙ after_it)
              go false true measured again =
                  let a = again_is event (seen (known j).model me) (sym (again_alike event (goes.sees.judge event) (goes.sees.alike event)
                  (seen (known j).model me)) ∙ again) in
                  once j (omega arith) (inr (record {
                    moment = x.moment;
                    plan = a.0;
                    happens = subst (λ (e : Event). Happens t w j x.moment me e) a.1 happens;
                    some = a.2;
                    again = subst (λ (v : World tcp_shape). a.0.pos < (seen v me).snd_max) (world_is t w j) a.3;
                  }))
                  (is ∙ ap (λ (b : Bool). if b || builds_again (goes.sees.judge event) (seen (known j).model me) then (seen (known (suc j)).model me).snd_max
                  else timed (known j)) measured
                  ∙ ap (λ (c : Bool). if c then (seen (known (suc j)).model me).snd_max else timed (known j)) again ∙ after_it)
              go false false measured again =
                  later j (known j) (known (suc j))
                  (is ∙ ap (λ (b : Bool). if b || builds_again (goes.sees.judge event) (seen (known j).model me) then (seen (known (suc j)).model me).snd_max
                  else timed (known j)) measured
                  ∙ ap (λ (c : Bool). if c then (seen (known (suc j)).model me).snd_max else timed (known j)) again) here

          which : Touches h (known j) x me
              ⊎ ((owed_by (known (suc j)).duties me.host me.number
              ≡ owed_by (known j).duties me.host me.number)
              × ((event : Event) → s.touched ≡ Some (touched (known j).model me event) → ⊥)) → Since (suc j) (known (suc j))
          which (inl touch) = now touch.event touch.shows
          which (inr other) =
              later j (known j) (known (suc j))
              (ap (λ (o : StrictOwed). o.timed) (strict_kept h slack (known j) (known (suc j)) x me goes six other.1)) here

  since : (j : ℕ) → Since j (known j)
  since j = onward (λ q. Since q (known q)) 0 j (omega arith) (never (nothing me.host)) (λ q low high here. since_next q here)
    where
      nothing : (host : Host) → (strict_by (first_known h).duties host me.number).timed ≡ 0
      nothing Zero = refl
      nothing One = refl

  -- ---- the step that might measure

  flags_read : (e : Endpoint) (m : Emission) → (as_read h.version e m).flags.rst ≡ m.flags.rst
  flags_read e m = by (is_half h.version)
    where
      by : (c : Bool) → (if c then read_at e m else m).flags.rst ≡ m.flags.rst
      by true = refl
      by false = refl

  module _ (place moment : ℕ) (e : Endpoint) (m : Emission) (a : SkipsAt t w place moment me e m) where
    abbrev k : Known
    k = known place

    abbrev m' : Emission
    m' = as_read h.version e m

    abbrev b : HostTcp
    b = (pick k.model.hosts me.host).body

    abbrev x : Stamped tcp_shape
    x = record { moment = moment; step = At me.host (Takes a.line a.how) }

    abbrev how' : TakeChoice
    how' = record a.how { sample = true }

    at : act_at t w place ≡ Some x
    at = ap (λ (o : Option WitnessStep). option_map_or (act_of t.header t.lines) o None) a.step.here

    waits : waiting a.line (pick k.model.hosts me.host).inbox ≡ Some m
    waits = ap (λ (v : World tcp_shape). waiting a.line (pick v.hosts me.host).inbox) (world_is t w place) ∙ a.waits

    comes : taker b m ≡ AtEndpoint me.number e
    comes = ap (λ (v : World tcp_shape). taker (pick v.hosts me.host).body m) (world_is t w place) ∙ a.comes

    may : may_measure h.version e m' ≡ true
    may = go (is_syn_sent e.state) refl (sym (ap (λ (k : Taker). first_broken (taker_rules h me.host b how' m moment k)) comes) ∙ allowed)
      where
        could : Permitted (tcp h) moment k.model (At me.host (Takes a.line how'))
        could = subst (λ (v : World tcp_shape). Permitted (tcp h) moment v (At me.host (Takes a.line how'))) (sym (world_is t w place)) a.could

        allowed : first_broken (taker_rules h me.host b how' m moment (taker b m)) ≡ None
        allowed =
            let p = on_passes (waiting a.line (pick k.model.hosts me.host).inbox) rules.Inbox (λ y. taker_rules h me.host b how' y moment (taker b y)) could in
            subst (λ (y : Emission). first_broken (taker_rules h me.host b how' y moment (taker b y)) ≡ None) (same_Some p.0 m (sym p.1 ∙ waits)) p.2

        no_reset : not m'.flags.rst ≡ true
        no_reset = ap not (flags_read e m ∙ a.plain)

        go : (c : Bool) → is_syn_sent e.state ≡ c
            → first_broken (if c then syn_sent_rules e how' m' moment else connected_rules h b (record { host = me.host; number = me.number }) e how' m' moment)
            ≡ None → may_measure h.version e m' ≡ true
        go true is fine =
            let bad = (none_all (syn_sent_rules e how' m' moment) fine).1.1.1.0 in
            let n = neither (m'.flags.rst || not m'.flags.ack) (retransmitted e.transmissions e.stream.snd_una 1) bad in
            let q = neither m'.flags.rst (not m'.flags.ack) n.0 in
            ap (λ (c : Bool). not m'.flags.rst && (if c then m'.flags.ack && not (retransmitted e.transmissions e.stream.snd_una 1)
            else may_sample h.version e m')) is
            ∙ ap (λ (d : Bool). d && (m'.flags.ack && not (retransmitted e.transmissions e.stream.snd_una 1))) no_reset
            ∙ ap (λ (d : Bool). d && not (retransmitted e.transmissions e.stream.snd_una 1)) (not_false m'.flags.ack q.1) ∙ ap not n.1
        go false is fine =
            let bad =
            (none_all (connected_rules h b (record { host = me.host; number = me.number }) e how' m' moment) fine).1.1.1.1.1.1.0 in
            ap (λ (c : Bool). not m'.flags.rst && (if c then m'.flags.ack && not (retransmitted e.transmissions e.stream.snd_una 1)
            else may_sample h.version e m')) is
            ∙ ap (λ (d : Bool). d && may_sample h.version e m') no_reset ∙ not_false (may_sample h.version e m') bad

    -- what it shows
    shown : observe h moment k.model x.step ≡ observe_taking h me.host b a.line a.how m (AtEndpoint me.number e)
    shown =
        ap (λ (o : Option Emission). on o unseen (λ m. observe_taking h me.host b a.line a.how m (taker b m))) waits
        ∙ ap (observe_taking h me.host b a.line a.how m) comes

    shows : (observe h moment k.model x.step).touched ≡ Some (touched k.model me (processing_of m))
    shows =
        ap (λ (s : Observation). s.touched) shown
        ∙ ap (λ (o : Option Endpoint). option_map (λ e. record { host = me.host; place = me.number; event = processing_of m; before = view_of e }) o)
        (taker_there b m me.number e comes)
        ∙ ap (λ (o : Option Endpoint). Some (record { host = me.host; place = me.number; event = processing_of m; before = option_map_or view_of o unborn }))
        (sym (taker_there b m me.number e comes))

    skips : (observe h moment k.model x.step).sampling ≡ sampling.Skips (m'.ack - 1)
    skips =
        ap (λ (s : Observation). s.sampling) shown
        ∙ ap (λ (c : Bool). if c then sampling_by h.version a.how e m' else sampling.Nothing) six
        ∙ ap (λ (c : Bool). if c then sampling.Measures else if may_measure h.version e m' then sampling.Skips (m'.ack - 1) else sampling.Nothing) a.skips
        ∙ ap (λ (c : Bool). if c then sampling.Skips (m'.ack - 1) else sampling.Nothing) may

    not_due : nat_le (timed k) (m'.ack - 1) ≡ false
    not_due =
        let all = (goes_of t w slack r place x at).dutiful.1.1.1.1 in
        let here =
        subst (λ (o : Option TouchedEndpoint). AllByRecursion (λ q. q.1 ≡ false)
        (on o (answer_rules slack moment k.duties (untrue_at h x.moment k x.step) (observe h moment k.model x.step).call_change)
        (touched_rules h slack moment k.duties (counts_now (built_by k.duties (observe h moment k.model x.step).built_change)) (untrue_at h x.moment k x.step)
        (sent_by k.duties (observe h moment k.model x.step).built_change) (observe h moment k.model x.step).sampling))) shows all in
        sym (ap (λ (s : Sampling). is_sample_due s (timed k)) skips) ∙ here.1.1.1.1.1.1.1.1.1.0

    pub timed_earlier : IsTimed t w place me (m'.ack - 1)
    timed_earlier = by (since place)
      where
        by : Since place k → IsTimed t w place me (m'.ack - 1)
        by (never none) =
            absurd (let no_time = none in let late = not_due in let yes : nat_le (timed k) (m'.ack - 1) ≡ true = grind (arith, nat_tests, no_time) in
            true_false yes late)
        by (once q low does is) = record {
          earlier = q;
          before = low;
          does = does;
          built = let late = not_due in let same = is in grind (arith, nat_tests, late, same);
        }

pub samples_taken : (t : Trace) (w : Witness) (slack : ℕ) → t.header.slack ≡ Some slack
    → Lawful (tcp t.header) (first_known t.header).model (stamped t.header t.lines w.steps)
    → Dutiful t.header (first_known t.header) (stamped t.header t.lines w.steps) → says_sender t.header.version ≡ true → SamplesAreTaken t w
samples_taken t w slack given lawful dutiful six place moment me e m a = timed_earlier t w slack given lawful dutiful six me place moment e m a
