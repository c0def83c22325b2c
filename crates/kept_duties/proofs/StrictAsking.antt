-- In version 6, a dropped segment that asks for an acknowledgment gets one that is built after it.
use Rattle.std.proofs.Common.{◌≡◌, ℕ, suc, ◌<◌, ◌≤◌, ◌⊎◌, inl, inr, Bool, true, false, length, Option, Some, None, ap, sym, subst, ◌∙◌, arith}
use Rattle.std.proofs.lemmas.Bool.Decides.{nat_tests}
use Rattle.std.proofs.lemmas.Option.{same_Some}
use Rattle.std.specs.Prelude.{◌&&◌, ◌||◌, if◌then◌else◌, is_some, nat_lt, not}
use Rattle.std.specs.Option.{option_map, option_map_or, option_or}
use Rattle.segment.specs.Reading.{timestamps}
use Rattle.segment.specs.declared.options.TimestampPair.{TimestampPair}
use Rattle.case_forms.specs.Versions.{says_sender}
use Rattle.case_forms.specs.States.{is_syn_sent}
use Rattle.case_forms.specs.declared.steps.Step.{Step as WitnessStep}
use Rattle.case_forms.specs.declared.steps.Witness.{Witness}
use Rattle.case_forms.specs.declared.trace.Trace.{Trace}
use Rattle.verdict.specs.declared.rule.Rule.{Rule}
use Rattle.interval_order.specs.Orders.{last_moment}
use Rattle.interval_order.specs.Placed.{Placed}
use Rattle.spec_network.specs.HostSteps.{Lawful}
use Rattle.spec_network.specs.Hosts.{At, Stamped, World}
use Rattle.spec_network.specs.Hosts as network
use Rattle.spec_network.specs.Tables.{on}
use Rattle.spec_tcp.specs.Arrives.{AtEndpoint, Taker, taker}
use Rattle.spec_tcp.specs.Heard.{as_read}
use Rattle.spec_tcp.specs.Machine.{tcp, tcp_shape}
use Rattle.spec_tcp.specs.declared.endpoint.Emission.{Emission}
use Rattle.spec_tcp.specs.declared.endpoint.Endpoint.{Endpoint}
use Rattle.spec_tcp.specs.declared.endpoint.EndpointId.{EndpointId}
use Rattle.spec_tcp_laws.proofs.Rules.{both_true, is_not, not_true}
use Rattle.spec_tcp_laws.proofs.Takes.{taker_there}
use Rattle.spec_cases.specs.Cases.{Dutiful, first_known, known_after_all, late_at_end}
use Rattle.spec_duties.specs.Acknowledge.{answered_lately}
use Rattle.spec_duties.specs.Arrivals.{arrival_at, arrival_of, stamps_read}
use Rattle.spec_duties.specs.Blocks.{reads_blocks}
use Rattle.spec_duties.specs.Dropped.{answering_breaks, asks, has_content, is_next, reads_old_numbers, taking_breaks}
use Rattle.spec_duties.specs.Observations.{observe, observe_dropping, unseen}
use Rattle.spec_duties.specs.Strict.{answered_often, strict_after}
use Rattle.spec_duties.specs.Watching.{owed_by, sent_by, strict_by}
use Rattle.spec_duties.specs.declared.events.Event.{Event}
use Rattle.spec_duties.specs.declared.events.Event.TheVariants.{Drops}
use Rattle.spec_duties.specs.declared.observations.Observation.{Observation}
use Rattle.spec_duties.specs.declared.observations.Sampling.{Sampling}
use Rattle.spec_duties.specs.declared.observations.TouchedEndpoint.{TouchedEndpoint}
use Rattle.spec_duties.specs.declared.strict.StrictOwed.{StrictOwed}
use Rattle.spec_duties.specs.declared.strict.Unsent.{Unsent}
use Rattle.spec_duties.specs.declared.views.View.{View}
use Rattle.spec_flights.specs.Clocks.{are_stamped, excused_at, is_older, is_outdated, is_unstamped, touched_excused}
use Rattle.spec_flights.specs.Flights.{excused, flight_at}
use Rattle.spec_flights.specs.declared.clocks.Clocks.{Clocks}
use Rattle.checker.specs.Seen.{act_of, moves, stamped}
use Rattle.kept_duties.specs.Answered.{AsksAsBefore, AsksByClock, AsksStrictly, DropsAreAnsweredAfter, HasOldNumbers, IsOutdated}
use Rattle.kept_duties.specs.Answered.{LacksTimestamps, SentFewLately}
use Rattle.kept_duties.specs.Asking.{DropsAt}
use Rattle.kept_duties.specs.Drops.{clocks_before, host_before}
use Rattle.kept_duties.specs.Happens.{act_at, known_before, world_before}
use Rattle.kept_duties.proofs.Answered.{answered_from}
use Rattle.kept_duties.proofs.AnswerRate.{not_often}
use Rattle.kept_duties.proofs.Asking.{asks_by, asks_is, not_lately}
use Rattle.kept_duties.proofs.Drops.{absent, some_if}
use Rattle.kept_duties.proofs.Events.{place_touched}
use Rattle.kept_duties.proofs.Excused.{judged_by}
use Rattle.kept_duties.proofs.Repeats.{goes_of}
use Rattle.kept_duties.proofs.Runs.{Goes, Run, world_is}
use Rattle.kept_duties.proofs.Segments.{run, within}
use Rattle.kept_duties.proofs.Soon.{or_true, since_now}
use Rattle.kept_duties.proofs.Stricter.{strict_touched}
use Rattle.kept_duties.proofs.Touched.{seen, touched}

-- ---- what is owed

drop_begins : (s : Sampling) (unlimited : Bool) (before after : View) (moment : ℕ) (acknowledged : Option ℕ) (sent : Option Unsent) (o : StrictOwed)
    → (unlimited ≡ true) ⊎ ((answered_lately moment acknowledged ≡ false) × (answered_often moment o.answered ≡ false))
    → (since : ℕ) × ((strict_after s (Drops true unlimited) before after moment acknowledged sent o).acknowledge ≡ Some since)
drop_begins s unlimited before after moment acknowledged sent o due =
    let now = since_now o.acknowledge moment in
    (now.0, ap (λ (b : Bool). if b then option_or o.acknowledge (Some moment) else o.acknowledge) (asks_now due) ∙ now.1)
  where
    asks_now : (unlimited ≡ true) ⊎ ((answered_lately moment acknowledged ≡ false) × (answered_often moment o.answered ≡ false))
        → (unlimited || not (answered_lately moment acknowledged || answered_often moment o.answered)) ≡ true
    asks_now (inl always) = ap (λ (b : Bool). b || not (answered_lately moment acknowledged || answered_often moment o.answered)) always
    asks_now (inr few) =
        or_true unlimited (not (answered_lately moment acknowledged || answered_often moment o.answered)) (λ i. not (few.0 i || few.1 i))

-- ---- what duties see of the `K` step

module _ (t : Trace) (w : Witness) (six : says_sender t.header.version ≡ true) (place moment line : ℕ) (me : EndpointId) (m : Emission) (e : Endpoint)
    (at : DropsAt t w place moment line me m e) where
  abbrev v : World tcp_shape
  v = world_before t w place

  abbrev clocks : Clocks
  clocks = clocks_before t w place me.host me.number

  abbrev old_numbers : Bool
  old_numbers = reads_old_numbers t.header.version

  abbrev breaks : Option Rule
  breaks = taking_breaks t.header moment v me.host line

  abbrev asking : Bool
  asking = asks old_numbers m breaks e

  -- what the step shows
  abbrev dropped : Taker → Observation
  dropped k = observe_dropping t.header.version me.host (host_before t w place me.host) line breaks (answering_breaks t.header v me.host line) m k

  abbrev shows : Observation
  shows = dropped (AtEndpoint me.number e)

  abbrev outdated : Bool
  outdated = is_outdated clocks shows

  abbrev unstamped : Bool
  unstamped = is_unstamped clocks shows

  shows_is : observe t.header moment v (At me.host (network.Drops line)) ≡ shows
  shows_is =
      ap (λ (o : Option Emission). on o unseen (λ m. observe_dropping t.header.version me.host (host_before t w place me.host) line breaks
      (answering_breaks t.header v me.host line) m (taker (host_before t w place me.host) m))) at.waits
      ∙ ap dropped at.comes

  shows_touched : shows.touched ≡ Some (touched v me (Drops asking (has_content m)))
  shows_touched =
      place_touched v me.host (Drops asking (has_content m)) me.number e (taker_there (host_before t w place me.host) m me.number e at.comes)

  known_touched : (observe t.header moment (known_before t w place).model (At me.host (network.Drops line))).touched
      ≡ Some (touched (known_before t w place).model me (Drops asking (has_content m)))
  known_touched =
      subst (λ (v : World tcp_shape). (observe t.header moment v (At me.host (network.Drops line))).touched
      ≡ Some (touched v me (Drops asking (has_content m)))) (sym (world_is t w place)) (ap (λ (s : Observation). s.touched) shows_is ∙ shows_touched)

  excused_touched : (excused t.header (known_before t w place).flights shows).touched
      ≡ Some (touched_excused outdated unstamped (touched v me (Drops asking (has_content m))))
  excused_touched =
      ap (λ (b : Bool). (if b then on shows.touched shows (λ t'. excused_at (flight_at (known_before t w place).flights t'.host t'.place).clocks shows)
      else shows).touched) six
      ∙ ap (λ (o : Option TouchedEndpoint). (on o shows (λ t'. excused_at (flight_at (known_before t w place).flights t'.host t'.place).clocks
      shows)).touched) shows_touched
      ∙ ap (option_map (touched_excused outdated unstamped)) shows_touched

  -- the event, as duties see it
  judged_so : (judge : Event → Event)
      → (excused t.header (known_before t w place).flights (observe t.header moment (known_before t w place).model (At me.host (network.Drops line)))).touched
      ≡ judged_by judge (observe t.header moment (known_before t w place).model (At me.host (network.Drops line))).touched
      → judge (Drops asking (has_content m)) ≡ Drops ((asking || outdated) && not unstamped) (has_content m)
  judged_so judge sees =
      let here : (excused t.header (known_before t w place).flights shows).touched ≡ judged_by judge shows.touched =
      subst (λ (s : Observation). (excused t.header (known_before t w place).flights s).touched ≡ judged_by judge s.touched) shows_is
      (subst (λ (v : World tcp_shape). (excused t.header (known_before t w place).flights (observe t.header moment v (At me.host (network.Drops
      line)))).touched ≡ judged_by judge (observe t.header moment v (At me.host (network.Drops line))).touched) (world_is t w place) sees) in
      let now : Some (touched_excused outdated unstamped (touched v me (Drops asking (has_content m))))
      ≡ Some (touched v me (judge (Drops asking (has_content m)))) =
      sym excused_touched ∙ here ∙ ap (judged_by judge) shows_touched in
      sym (ap (λ (t' : TouchedEndpoint). t'.event) (same_Some (touched_excused outdated unstamped (touched v me (Drops asking (has_content m))))
      (touched v me (judge (Drops asking (has_content m)))) now))

  -- ---- whether it asks

  module _ (knows : is_syn_sent e.state ≡ false) where
    not_unstamped : (LacksTimestamps t w place me m → ⊥) → unstamped ≡ false
    not_unstamped fine = is_not unstamped (λ is.
        let a = both_true (are_stamped clocks && is_some (arrival_at t.header.version m (AtEndpoint me.number e)))
        (not (is_some (stamps_read t.header.version m.bytes))) is in
        let b = both_true (are_stamped clocks) (is_some (arrival_at t.header.version m (AtEndpoint me.number e))) a.0 in
        let reads = some_if (reads_blocks t.header.version e m) (arrival_of (as_read t.header.version e m)) b.1 in
        let c = both_true (says_sender t.header.version && not m.flags.rst) (not (is_syn_sent e.state)) reads in
        let d = both_true (says_sender t.header.version) (not m.flags.rst) c.0 in
        let told : stamps_read t.header.version m.bytes ≡ timestamps m.bytes = ap (λ (b : Bool). if b then timestamps m.bytes else None) six in
        fine (record {
          needs = record { no_reset = not_true m.flags.rst d.1; both = b.0 };
          lacks = sym told ∙ absent (stamps_read t.header.version m.bytes) a.1;
        }))

    is_late_clock : IsOutdated t w place me m → outdated ≡ true
    is_late_clock old =
        let told : stamps_read t.header.version m.bytes ≡ Some old.stamps =
        ap (λ (b : Bool). if b then timestamps m.bytes else None) six ∙ old.has in
        let older : option_map_or (λ s. option_map_or (is_older s.value) clocks.most false) (stamps_read t.header.version m.bytes) false ≡ true =
        ap (λ (o : Option TimestampPair). option_map_or (λ s. option_map_or (is_older s.value) clocks.most false) o false) told
        ∙ ap (λ o. option_map_or (is_older old.stamps.value) o false) old.came ∙ old.older in
        let arrives : is_some (arrival_at t.header.version m (AtEndpoint me.number e)) ≡ true =
        (λ i. is_some (if six i && not (old.needs.no_reset i) && not (knows i) then Some (arrival_of (as_read t.header.version e m)) else None)) in
        (λ i. old.needs.both i && arrives i && older i)

    asks_now : AsksStrictly t w place moment line me m e → (asking || outdated) ≡ true
    asks_now (AsksAsBefore is) = ap (λ (b : Bool). b || outdated) (asks_is old_numbers breaks e m knows is)
    asks_now (HasOldNumbers half rst is) =
        ap (λ (b : Bool). b || outdated) (λ i. asks_by (six i && half i) (knows i) (rst i) m.flags.ack (is_next e m) (is i))
    asks_now (AsksByClock old) = or_true asking outdated (is_late_clock old)

-- ---- from the step on

module _ (t : Trace) (w : Witness) (slack : ℕ) (given : t.header.slack ≡ Some slack)
    (lawful : Lawful (tcp t.header) (first_known t.header).model (stamped t.header t.lines w.steps))
    (dutiful : Dutiful t.header (first_known t.header) (stamped t.header t.lines w.steps)) (placed : Placed t.header t.lines (moves w.steps))
    (six : says_sender t.header.version ≡ true)
    (late : late_at_end t.header (last_moment (moves w.steps)) (known_after_all t.header (first_known t.header) (stamped t.header t.lines w.steps))
    ≡ None) where
  abbrev r : Run t.header slack (length w.steps) (act_at t w) (known_before t w)
  r = run t w slack given lawful dutiful

  pub drops_answered_after : DropsAreAnsweredAfter t w slack
  drops_answered_after place moment line me m e at knows asks' stamps due =
      answered_from t w slack given lawful dutiful placed six late me place act is event shows begins.0 owed_now
    where
      act : Stamped tcp_shape
      act = record { moment = moment; step = At me.host (network.Drops line) }

      is : act_at t w place ≡ Some act
      is = ap (λ (o : Option WitnessStep). option_map_or (act_of t.header t.lines) o None) at.step.here

      event : Event
      event = Drops (asking t w six place moment line me m e at) (has_content m)

      shows : (observe t.header moment (known_before t w place).model (At me.host (network.Drops line))).touched
          ≡ Some (touched (known_before t w place).model me event)
      shows = known_touched t w six place moment line me m e at

      goes : Goes t.header slack (known_before t w place) (known_before t w (suc place)) act
      goes = goes_of t w slack r place act is

      judged : goes.sees.judge event ≡ Drops true (has_content m)
      judged =
          let asks_too = asks_now t w six place moment line me m e at knows asks' in
          let kept = not_unstamped t w six place moment line me m e at knows stamps in
          judged_so t w six place moment line me m e at goes.sees.judge (ap (λ (o : Observation). o.touched) goes.sees.is)
          ∙ (λ i. Drops (asks_too i && not (kept i)) (has_content m))

      low : place ≤ length w.steps
      low = let low = within t w place act is in omega (arith, low)

      limits : (0 < length m.payload) ⊎ (m.flags.fin ≡ true) ⊎ SentFewLately t w place moment me
          → (has_content m ≡ true)
          ⊎ ((answered_lately moment (owed_by (known_before t w place).duties me.host me.number).acknowledged ≡ false)
          × (answered_often moment (strict_by (known_before t w place).duties me.host me.number).answered ≡ false))
      limits (inl some) =
          let more : nat_lt 0 (length m.payload) ≡ true = grind (arith, nat_tests, some) in
          inl (λ i. more i || m.flags.fin)
      limits (inr (inl fin)) = inl (or_true (nat_lt 0 (length m.payload)) m.flags.fin fin)
      limits (inr (inr few)) = inr (not_lately t w slack r me place moment low few.0, not_often t w slack r placed six me place moment low few.1)

      after_as : Event → StrictOwed
      after_as e =
          strict_after (observe t.header moment (known_before t w place).model act.step).sampling e (seen (known_before t w place).model me)
          (seen (known_before t w (suc place)).model me) moment (owed_by (known_before t w place).duties me.host me.number).acknowledged
          (sent_by (known_before t w place).duties (observe t.header moment (known_before t w place).model act.step).built_change)
          (strict_by (known_before t w place).duties me.host me.number)

      begins : (since : ℕ) × ((after_as (Drops true (has_content m))).acknowledge ≡ Some since)
      begins =
          drop_begins (observe t.header moment (known_before t w place).model act.step).sampling (has_content m) (seen (known_before t w place).model me)
          (seen (known_before t w (suc place)).model me) moment (owed_by (known_before t w place).duties me.host me.number).acknowledged
          (sent_by (known_before t w place).duties (observe t.header moment (known_before t w place).model act.step).built_change)
          (strict_by (known_before t w place).duties me.host me.number) (limits due)

      owed_now : (strict_by (known_before t w (suc place)).duties me.host me.number).acknowledge ≡ Some begins.0
      owed_now =
          ap (λ (o : StrictOwed). o.acknowledge)
          (strict_touched t.header slack (known_before t w place) (known_before t w (suc place)) act me goes six event shows)
          ∙ ap (λ (e : Event). (after_as e).acknowledge) judged
          ∙ begins.1
