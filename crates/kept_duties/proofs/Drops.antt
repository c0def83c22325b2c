-- A dropped segment need neither be processed nor answered.
use Rattle.std.proofs.Common.{◌≡◌, ℕ, ◌+◌, ◌-◌, ◌<◌, ◌⊎◌, inl, inr, Bool, true, false, length, Option, Some, None, refl, ap, sym, subst, ◌∙◌, arith}
use Rattle.std.proofs.lemmas.Bool.Decides.{nat_tests}
use Rattle.std.proofs.lemmas.Option.{none-some, same_Some, slice_get_within}
use Rattle.std.specs.Prelude.{◌==◌, ◌&&◌, ◌||◌, if◌then◌else◌, is_some, nat_le, nat_lt, not, slice_get}
use Rattle.seqno.specs.Near.{near_position}
use Rattle.seqno.specs.Numbers.{number_of}
use Rattle.seqno.specs.declared.word.Word.{Word}
use Rattle.segment.specs.Reading.{timestamps}
use Rattle.segment.specs.declared.options.TimestampPair.{TimestampPair}
use Rattle.case_forms.specs.States.{is_syn_received, is_syn_sent}
use Rattle.case_forms.specs.Versions.{is_half, says_sender}
use Rattle.std.specs.Option.{option_map_or}
use Rattle.case_forms.specs.declared.calls.Host.{Host}
use Rattle.case_forms.specs.declared.calls.State.{State}
use Rattle.case_forms.specs.declared.calls.State.TheVariants as states
use Rattle.case_forms.specs.declared.steps.TakeChoice.{TakeChoice}
use Rattle.case_forms.specs.declared.steps.Step.{Step as WitnessStep}
use Rattle.case_forms.specs.declared.steps.Witness.{Witness}
use Rattle.case_forms.specs.declared.trace.Trace.{Trace}
use Rattle.verdict.specs.declared.rule.Rule.{Rule}
use Rattle.verdict.specs.declared.rule.Rule.TheVariants as rules
use Rattle.spec_network.specs.Hosts.{At, Takes, World, Drops as DropStep}
use Rattle.spec_network.specs.Tables.{on, pick, waiting}
use Rattle.spec_tcp.specs.Arrives.{AtEndpoint, AtListener, Nobody, Taker, taker}
use Rattle.spec_tcp.specs.Endpoints.{rcv_nxt, receive_window, segment_length}
use Rattle.spec_tcp.specs.Heard.{as_read}
use Rattle.spec_tcp.specs.Machine.{tcp_shape}
use Rattle.spec_tcp.specs.Same.{same_word}
use Rattle.spec_tcp.specs.declared.endpoint.Emission.{Emission}
use Rattle.spec_tcp.specs.declared.endpoint.Endpoint.{Endpoint}
use Rattle.spec_tcp.specs.declared.endpoint.Listener.{Listener}
use Rattle.spec_tcp_laws.proofs.Rules.{both_true, less_to, map_or_true, not_false, not_true, on_passes, true_false, zero_from}
use Rattle.spec_duties.specs.Dropped.{acknowledges_less, answering_breaks, discards, discards_at, dropping_of, holds_next, is_below_irs}
use Rattle.spec_duties.specs.Dropped.{asks, has_content, is_challenged, is_next, is_old, is_unacceptable, reads_old_numbers}
use Rattle.spec_duties.specs.Dropped.{keeps_order, meets_closed_window, droppable_by, taking_breaks}
use Rattle.spec_duties.specs.Observations.{observe_dropping, observe, observe_taking, unseen}
use Rattle.spec_duties.specs.Watching.{drops_needed, is_droppable}
use Rattle.spec_duties.specs.Arrivals.{arrival_at, arrival_of, stamps_read}
use Rattle.spec_duties.specs.Blocks.{reads_blocks}
use Rattle.spec_duties.specs.declared.events.Event.{Event}
use Rattle.spec_duties.specs.declared.events.Event.TheVariants.{Drops}
use Rattle.spec_duties.specs.declared.observations.Droppable.TheVariants as droppables
use Rattle.spec_duties.specs.declared.observations.Observation.{Observation}
use Rattle.spec_duties.specs.declared.observations.TouchedEndpoint.{TouchedEndpoint}
use Rattle.spec_flights.specs.Clocks.{are_stamped, is_older, is_outdated, is_unstamped}
use Rattle.spec_flights.specs.Flights.{excused, flight_at}
use Rattle.spec_flights.specs.declared.clocks.Clocks.{Clocks}
use Rattle.kept_duties.specs.Drops.{AcknowledgesLess, HasOldNumber}
use Rattle.kept_duties.specs.Drops.{ByClock, ByListener, DropsAreLawful, HoldsNext, IsChallenged, IsMistimed, MayBeDropped, IsDroppable}
use Rattle.kept_duties.specs.Drops.{MeetsClosedWindow, NextIsKept, clocks_before, host_before, keeps_next}
use Rattle.kept_duties.proofs.Soon.{either_true}
use Rattle.kept_duties.specs.Happens.{act_at, known_before, world_before}
use Rattle.checker.specs.Seen.{act_of}
use Rattle.kept_duties.proofs.Events.{place_touched}
use Rattle.kept_duties.proofs.Excused.{AreMistimed, dropping_is}
use Rattle.kept_duties.proofs.Runs.{Run, run_goes, world_is}
use Rattle.kept_duties.proofs.Touched.{touched}
use Rattle.spec_tcp_laws.proofs.Takes.{taker_there}

-- of three tests, one isn't passed
needed_not : (takes spares answers : Bool) → ((takes && not spares) || answers) ≡ false → ((takes ≡ false) ⊎ (spares ≡ true)) × (answers ≡ false)
needed_not true true answers e = (inr refl, e)
needed_not true false answers e = absurd cc
needed_not false spares answers e = (inl refl, e)

answers_not : (breaks unacceptable : Bool) → (not breaks && not unacceptable) ≡ false → (breaks ≡ true) ⊎ (unacceptable ≡ true)
answers_not true unacceptable e = inl refl
answers_not false true e = inr refl
answers_not false false e = absurd cc

pub some_if : {X : Type 0} (b : Bool) (x : X) → is_some (if b then Some x else None) ≡ true → b ≡ true
some_if true x e = refl
some_if false x e = absurd cc

pub absent : {X : Type 0} (o : Option X) → not (is_some o) ≡ true → o ≡ None
absent None e = refl
absent (Some x) e = absurd cc

unacceptable_is : (o : Option Rule) → is_unacceptable o ≡ true → o ≡ Some rules.Unacceptable
unacceptable_is (Some rules.Unacceptable) e = refl
unacceptable_is o e = absurd cc

keeps_is : (state : State) → keeps_next state ≡ true → keeps_order state ≡ true
keeps_is states.SynReceived e = refl
keeps_is states.Established e = refl
keeps_is states.FinWait1 e = refl
keeps_is states.FinWait2 e = refl
keeps_is state e = absurd cc

-- what is next isn't discarded, so something is kept
kept_of : (choice : TakeChoice) (e : Endpoint) (m : Emission) → HoldsNext e m → discards choice e m ≡ false → choice.keep ≡ true
kept_of choice e m next fine = by choice.keep refl
  where
    room : nat_lt (rcv_nxt e) e.window.rcv_adv ≡ true
    room = less_to (rcv_nxt e) e.window.rcv_adv next.room

    held : holds_next e m ≡ true
    held =
        let low : nat_le m.pos (rcv_nxt e) ≡ true = let le = next.begins in grind (arith, nat_tests, le) in
        let high = less_to (rcv_nxt e) (m.pos + segment_length m) next.ends in
        (λ i. low i && high i)

    by : (b : Bool) → choice.keep ≡ b → b ≡ true
    by true is = refl
    by false is =
        let all : discards choice e m ≡ true =
        λ i. not (is i) && keeps_is e.state next.in_state i && not (next.open_yet i) && not (next.no_reset i) && room i && held i in
        absurd (true_false all fine)

module _ (t : Trace) (w : Witness) (slack : ℕ) (r : Run t.header slack (length w.steps) (act_at t w) (known_before t w)) where
  droppable : (place : ℕ) (host : Host) (m : Emission) → is_droppable (known_before t w place).duties host
      (droppable_by t.header.version (host_before t w place host) m (taker (host_before t w place host) m)) ≡ true
      → IsDroppable t w place host m
  droppable place host m = by (taker (host_before t w place host) m) refl
    where
      ends : (a c : Bool) (i behind : ℕ)
          → is_droppable (known_before t w place).duties host
          (if a then droppables.Yes else if c then droppables.IfStale i behind else droppables.No) ≡ true
          → (a ≡ true) ⊎ (c ≡ true)
      ends true c i behind e = inl refl
      ends false true i behind e = inr refl
      ends false false i behind e = absurd cc

      -- it acknowledges less than is acknowledged
      less : (i : ℕ) (f : Endpoint) → taker (host_before t w place host) m ≡ AtEndpoint i f → acknowledges_less t.header.version f m ≡ true
          → IsDroppable t w place host m
      less i f goes is =
          let read = as_read t.header.version f m in
          let six = says_sender t.header.version in
          let early = six && not (is_syn_sent f.state) && not (is_syn_received f.state) in
          let a = both_true (early && m.flags.ack && not m.flags.rst) (nat_lt read.ack f.stream.snd_una) is in
          let b = both_true (early && m.flags.ack) (not m.flags.rst) a.0 in
          let c = both_true early m.flags.ack b.0 in
          let d = both_true (six && not (is_syn_sent f.state)) (not (is_syn_received f.state)) c.0 in
          let e = both_true six (not (is_syn_sent f.state)) d.0 in
          AcknowledgesLess i f e.0 goes c.1 (not_true m.flags.rst b.1) (let lt = a.1 in grind (arith, nat_tests, lt))

      challenged : (i : ℕ) (f : Endpoint) → taker (host_before t w place host) m ≡ AtEndpoint i f → is_challenged f m ≡ true → IsDroppable t w place host m
      challenged i f goes is =
          let a = both_true (m.flags.rst && not (is_syn_sent f.state)) (not (is_next f m)) is in
          let b = both_true m.flags.rst (not (is_syn_sent f.state)) a.0 in
          IsChallenged i f goes (not_true (is_syn_sent f.state) b.1) b.0
          (λ next. true_false (ap (λ (o : Option Word). option_map_or (λ irs. same_word m.seq (number_of irs (rcv_nxt f))) o false) next.1 ∙ next.2)
          (not_true (is_next f m) a.1))

      shut : (i : ℕ) (f : Endpoint) → taker (host_before t w place host) m ≡ AtEndpoint i f → meets_closed_window f m ≡ true → IsDroppable t w place host m
      shut i f goes is =
          let a = both_true (not (is_syn_sent f.state) && receive_window f == 0) (nat_lt 0 (segment_length m)) is in
          let b = both_true (not (is_syn_sent f.state)) (receive_window f == 0) a.0 in
          let some : 0 < segment_length m = grind (arith, nat_tests, a.1) in
          MeetsClosedWindow i f goes (not_true (is_syn_sent f.state) b.0) (zero_from (receive_window f) b.1) some

      at_endpoint : (i : ℕ) (f : Endpoint) → taker (host_before t w place host) m ≡ AtEndpoint i f
          → (is_challenged f m || meets_closed_window f m ≡ true) ⊎ (acknowledges_less t.header.version f m ≡ true) → IsDroppable t w place host m
      at_endpoint i f goes (inl is) = elim (either_true (is_challenged f m) (meets_closed_window f m) is) [
        | inl is ↦ challenged i f goes is
        | inr is ↦ shut i f goes is
      ]
      at_endpoint i f goes (inr is) = less i f goes is

      full : (l : ℕ) → taker (host_before t w place host) m ≡ AtListener l → (o : Option Listener) → slice_get (host_before t w place host).listeners l ≡ o
          → is_droppable (known_before t w place).duties host (option_map_or (λ x. droppables.IfFull l x.backlog) o droppables.No) ≡ true
          → IsDroppable t w place host m
      full l goes None at e = absurd cc
      full l goes (Some x) at e = ByListener l x goes at (grind (arith, nat_tests, e))

      by : (k : Taker) → taker (host_before t w place host) m ≡ k
          → is_droppable (known_before t w place).duties host (droppable_by t.header.version (host_before t w place host) m k)
          ≡ true
          → IsDroppable t w place host m
      by Nobody goes e = absurd cc
      by (AtListener l) goes e = full l goes (slice_get (host_before t w place host).listeners l) refl e
      by (AtEndpoint i f) goes e =
          at_endpoint i f goes (ends (is_challenged f m || meets_closed_window f m) (acknowledges_less t.header.version f m) i
          (f.stream.snd_una - (as_read t.header.version f m).ack) e)

  old_number : (place : ℕ) (host : Host) (m : Emission) → is_old t.header.version m (taker (host_before t w place host) m) ≡ true
      → HasOldNumber t w place host m
  old_number place host m = by (taker (host_before t w place host) m) refl
    where
      no_position : (o : Option ℕ) → not (is_some o) ≡ true → o ≡ None
      no_position None e = refl
      no_position (Some p) e = absurd cc

      by : (k : Taker) → taker (host_before t w place host) m ≡ k → is_old t.header.version m k ≡ true → HasOldNumber t w place host m
      by Nobody goes e = absurd cc
      by (AtListener l) goes e = absurd cc
      by (AtEndpoint i f) goes e =
          let six = says_sender t.header.version in
          let a = both_true (six && is_half t.header.version) (is_below_irs f m) e in
          let b = both_true six (is_half t.header.version) a.0 in
          let c = map_or_true f.irs (λ irs. not (is_some (near_position (rcv_nxt f) irs m.seq))) a.1 in
          record {
            at = i;
            endpoint = f;
            irs = c.0;
            comes = goes;
            six = b.0;
            half = b.1;
            first = c.1;
            below = no_position (near_position (rcv_nxt f) c.0 m.seq) c.2;
          }

  -- what is seen of a segment that is dropped
  module _ (place moment line : ℕ) (host : Host) where
    abbrev see : World tcp_shape → Option Emission → Observation
    see v o = on o unseen (λ m. observe_dropping t.header.version host (pick v.hosts host).body line (taking_breaks t.header moment v host line)
        (answering_breaks t.header v host line) m (taker (pick v.hosts host).body m))

    abbrev clocks : ℕ → Clocks
    clocks i = clocks_before t w place host i

    abbrev older : Clocks → TimestampPair → Bool
    older c stamps = option_map_or (is_older stamps.value) c.most false

    -- of the endpoint at this place
    fails_there : (i : ℕ) (e : Endpoint) (m : Emission) → taker (host_before t w place host) m ≡ AtEndpoint i e
        → (stamped : are_stamped (clocks i) ≡ true) → is_some (arrival_at t.header.version m (AtEndpoint i e)) ≡ true
        → (option_map_or (older (clocks i)) (stamps_read t.header.version m.bytes) false ≡ true)
        ⊎ (not (is_some (stamps_read t.header.version m.bytes)) ≡ true)
        → IsMistimed t w place host m
    fails_there i e m goes stamped arrives fails =
        let reads = some_if (reads_blocks t.header.version e m) (arrival_of (as_read t.header.version e m)) arrives in
        let a = both_true (says_sender t.header.version && not m.flags.rst) (not (is_syn_sent e.state)) reads in
        let b = both_true (says_sender t.header.version) (not m.flags.rst) a.0 in
        let told : stamps_read t.header.version m.bytes ≡ timestamps m.bytes =
        ap (λ (six : Bool). if six then timestamps m.bytes else None) b.0 in
        record {
          at = i;
          endpoint = e;
          comes = goes;
          six = b.0;
          knows = not_true (is_syn_sent e.state) a.1;
          no_reset = not_true m.flags.rst b.1;
          stamped = stamped;
          fails = by told fails;
        }
      where
        by : stamps_read t.header.version m.bytes ≡ timestamps m.bytes
            → (option_map_or (older (clocks i)) (stamps_read t.header.version m.bytes) false ≡ true)
            ⊎ (not (is_some (stamps_read t.header.version m.bytes)) ≡ true)
            → (timestamps m.bytes ≡ None)
            ⊎ ((stamps : TimestampPair) × (newest : Word) × (timestamps m.bytes ≡ Some stamps)
            × ((clocks i).most ≡ Some newest) × (is_older stamps.value newest ≡ true))
        by told (inr none) = inl (sym told ∙ absent (stamps_read t.header.version m.bytes) none)
        by told (inl old) =
            let x = map_or_true (stamps_read t.header.version m.bytes) (older (clocks i)) old in
            let y = map_or_true (clocks i).most (is_older x.0.value) x.2 in
            inr (x.0, y.0, sym told ∙ x.1, y.1, y.2)

    mistimed : (m : Emission) → AreMistimed t.header (known_before t w place).flights (see (world_before t w place) (Some m)) → IsMistimed t w place host m
    mistimed m = by (taker (host_before t w place host) m) refl
      where
        taking : Option Rule
        taking = taking_breaks t.header moment (world_before t w place) host line

        dropped : Taker → Observation
        dropped k = observe_dropping t.header.version host (host_before t w place host) line taking
            (answering_breaks t.header (world_before t w place) host line) m k

        event : Endpoint → Event
        event e = Drops (asks (reads_old_numbers t.header.version) m taking e) (has_content m)

        Fails : ℕ → Observation → Type 0
        Fails i s = (is_outdated (clocks i) s || is_unstamped (clocks i) s) ≡ true

        there : (i : ℕ) (e : Endpoint) → taker (host_before t w place host) m ≡ AtEndpoint i e → Fails i (dropped (AtEndpoint i e))
            → IsMistimed t w place host m
        there i e goes fails =
            elim (either_true (is_outdated (clocks i) (dropped (AtEndpoint i e))) (is_unstamped (clocks i) (dropped (AtEndpoint i e))) fails) [
              | inl old ↦
                  let a = both_true (are_stamped (clocks i) && is_some (arrival_at t.header.version m (AtEndpoint i e)))
                  (option_map_or (older (clocks i)) (stamps_read t.header.version m.bytes) false) old in
                  let b = both_true (are_stamped (clocks i)) (is_some (arrival_at t.header.version m (AtEndpoint i e))) a.0 in
                  fails_there i e m goes b.0 b.1 (inl a.1)
              | inr none ↦
                  let a = both_true (are_stamped (clocks i) && is_some (arrival_at t.header.version m (AtEndpoint i e)))
                  (not (is_some (stamps_read t.header.version m.bytes))) none in
                  let b = both_true (are_stamped (clocks i)) (is_some (arrival_at t.header.version m (AtEndpoint i e))) a.0 in
                  fails_there i e m goes b.0 b.1 (inr a.1)
            ]

        by : (k : Taker) → taker (host_before t w place host) m ≡ k → AreMistimed t.header (known_before t w place).flights (dropped k)
            → IsMistimed t w place host m
        by Nobody goes are = absurd (none-some are.at are.touches)
        by (AtListener l) goes are = absurd (none-some are.at are.touches)
        by (AtEndpoint i e) goes are =
            let one : touched (world_before t w place) (record { host = host; number = i }) (event e) ≡ are.at =
            same_Some (touched (world_before t w place) (record { host = host; number = i }) (event e)) are.at
            (sym (place_touched (world_before t w place) host (event e) i e (taker_there (host_before t w place host) m i e goes)) ∙ are.touches) in
            there i e goes
            (subst (λ (u : TouchedEndpoint). (is_outdated (flight_at (known_before t w place).flights u.host u.place).clocks (dropped (AtEndpoint i e))
            || is_unstamped (flight_at (known_before t w place).flights u.host u.place).clocks (dropped (AtEndpoint i e))) ≡ true) (sym one) are.fail)

  pub drops_lawful : DropsAreLawful t w
  drops_lawful place moment line host is =
      let low = slice_get_within w.steps place _ is.here in
      let goes = run_goes t.header slack (length w.steps) (act_at t w) (known_before t w) r place
      (record { moment = moment; step = At host (DropStep line) }) low
      (ap (λ (o : Option WitnessStep). option_map_or (act_of t.header t.lines) o None) is.here) in
      let k = known_before t w place in
      let p = on_passes (waiting line (pick k.model.hosts host).inbox) rules.Inbox _ goes.permitted in
      let waits = subst (λ (v : World tcp_shape). waiting line (pick v.hosts host).inbox ≡ Some p.0) (world_is t w place) p.1 in
      here p.0 waits p.1 goes.dropped (dropping_is t.header k.flights (observe t.header moment k.model (At host (DropStep line))))
    where
      shows : Observation
      shows = observe t.header moment (known_before t w place).model (At host (DropStep line))

      by : (m : Emission) → waiting line (pick (world_before t w place).hosts host).inbox ≡ Some m
          → drops_needed (known_before t w place).duties (Some (dropping_of host (taking_breaks t.header moment (world_before t w place) host line)
          (answering_breaks t.header (world_before t w place) host line)
          (droppable_by t.header.version (host_before t w place host) m (taker (host_before t w place host) m))
          (is_old t.header.version m (taker (host_before t w place host) m))))
          ≡ false
          → MayBeDropped t w place moment host line
      by m waits none =
          let taking = taking_breaks t.header moment (world_before t w place) host line in
          let answering = answering_breaks t.header (world_before t w place) host line in
          let s = is_droppable (known_before t w place).duties host
          (droppable_by t.header.version (host_before t w place host) m (taker (host_before t w place host) m)) in
          let old = is_old t.header.version m (taker (host_before t w place host) m) in
          let both = needed_not (not (is_some taking)) s (not (is_some answering) && not (is_unacceptable taking || old)) none in
          record {
            segment = m;
            waits = waits;
            processing = process both.0;
            answering = answer (answers_not (is_some answering) (is_unacceptable taking || old) both.1);
          }
        where
          answer : (is_some (answering_breaks t.header (world_before t w place) host line) ≡ true)
              ⊎ (is_unacceptable (taking_breaks t.header moment (world_before t w place) host line)
              || is_old t.header.version m (taker (host_before t w place host) m) ≡ true)
              → (is_some (answering_breaks t.header (world_before t w place) host line) ≡ true)
              ⊎ (taking_breaks t.header moment (world_before t w place) host line ≡ Some rules.Unacceptable)
              ⊎ HasOldNumber t w place host m ⊎ IsMistimed t w place host m
          answer (inl breaks) = inl breaks
          answer (inr is) =
              elim (either_true (is_unacceptable (taking_breaks t.header moment (world_before t w place) host line))
              (is_old t.header.version m (taker (host_before t w place host) m)) is) [
                | inl is ↦ inr (inl (unacceptable_is (taking_breaks t.header moment (world_before t w place) host line) is))
                | inr is ↦ inr (inr (inl (old_number place host m is)))
              ]

          process : (not (is_some (taking_breaks t.header moment (world_before t w place) host line)) ≡ false)
              ⊎ (is_droppable (known_before t w place).duties host
              (droppable_by t.header.version (host_before t w place host) m (taker (host_before t w place host) m)) ≡ true)
              → (is_some (taking_breaks t.header moment (world_before t w place) host line) ≡ true) ⊎ IsDroppable t w place host m
          process (inl breaks) = inl (not_false (is_some (taking_breaks t.header moment (world_before t w place) host line)) breaks)
          process (inr full) = inr (droppable place host m full)

      here : (m : Emission) → waiting line (pick (world_before t w place).hosts host).inbox ≡ Some m
          → waiting line (pick (known_before t w place).model.hosts host).inbox ≡ Some m
          → drops_needed (known_before t w place).duties (excused t.header (known_before t w place).flights shows).dropping ≡ false
          → ((excused t.header (known_before t w place).flights shows).dropping ≡ shows.dropping)
          ⊎ AreMistimed t.header (known_before t w place).flights shows
          → MayBeDropped t w place moment host line
      here m waits was none (inl same) =
          by m waits
          (subst (λ (v : World tcp_shape). drops_needed (known_before t w place).duties (see place moment line host v (Some m)).dropping ≡ false)
          (world_is t w place)
          (subst (λ (o : Option Emission). drops_needed (known_before t w place).duties
          (see place moment line host (known_before t w place).model o).dropping ≡ false) was
          (sym (ap (drops_needed (known_before t w place).duties) same) ∙ none)))
      here m waits was none (inr are) =
          let late = mistimed place moment line host m
          (subst (λ (v : World tcp_shape). AreMistimed t.header (known_before t w place).flights (see place moment line host v (Some m))) (world_is t w place)
          (subst (λ (o : Option Emission). AreMistimed t.header (known_before t w place).flights
          (see place moment line host (known_before t w place).model o)) was are)) in
          record { segment = m; waits = waits; processing = inr (ByClock late); answering = inr (inr (inr late)) }

  pub next_kept : NextIsKept t w
  next_kept place moment line i host choice m e is waits goes_to next =
      let low = slice_get_within w.steps place _ is.here in
      let goes = run_goes t.header slack (length w.steps) (act_at t w) (known_before t w) r place
      (record { moment = moment; step = At host (Takes line choice) }) low
      (ap (λ (o : Option WitnessStep). option_map_or (act_of t.header t.lines) o None) is.here) in
      let k = known_before t w place in
      let fine = goes.dutiful.1.0 in
      let here : (observe t.header moment (world_before t w place) (At host (Takes line choice))).discards ≡ false =
      subst (λ (v : World tcp_shape). (observe t.header moment v (At host (Takes line choice))).discards ≡ false) (world_is t w place) fine in
      let b = host_before t w place host in
      kept_of choice e (as_read t.header.version e m) next
      (sym (ap (λ (o : Option Emission). (on o unseen (λ m. observe_taking t.header host b line choice m (taker b m))).discards) waits
      ∙ ap (λ (k : Taker). discards_at t.header.version choice m k) goes_to) ∙ here)
