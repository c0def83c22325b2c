-- What was reported isn't built again in fast recovery.
use Rattle.std.proofs.Common.{◌≡◌, ℕ, suc, ◌+◌, ◌<◌, ◌≤◌, min, Bool, true, false, List, Option, refl, ap, sym, subst, ◌∙◌, arith}
use Rattle.std.specs.Prelude.{◌&&◌}
use Rattle.std.specs.FinSet.{contains, from_list}
use Rattle.std.specs.Ordering.{nat_cmp}
use Rattle.std.specs.Option.{option_map_or}
use Rattle.std.proofs.lemmas.Option.{same_Some}
use Rattle.case_forms.specs.Versions.{says_sender}
use Rattle.case_forms.specs.declared.timer.RecoveryChange.TheVariants.{Begins}
use Rattle.case_forms.specs.declared.steps.SegmentPlan.{SegmentPlan}
use Rattle.case_forms.specs.declared.trace.Header.{Header}
use Rattle.streams.specs.Ranges.{meets}
use Rattle.streams.proofs.RangeLemmas.{meets_none}
use Rattle.spec_network.specs.Hosts.{At, HostStep, Makes, Stamped, Takes}
use Rattle.spec_network.specs.HostSteps.{Lawful, start}
use Rattle.spec_tcp.specs.Machine.{tcp, tcp_shape}
use Rattle.spec_tcp.specs.Endpoints.{snd_max}
use Rattle.spec_tcp.specs.Makes.Payload.{making_length}
use Rattle.spec_tcp.specs.declared.endpoint.EndpointId.{EndpointId}
use Rattle.spec_duties.specs.Observations.{observe, unseen}
use Rattle.spec_duties.specs.Resent.{judges_repeats}
use Rattle.spec_duties.specs.declared.events.Event.{Event}
use Rattle.spec_duties.specs.declared.events.Event.TheVariants.{Builds, Recovers}
use Rattle.spec_duties.specs.declared.observations.Observation.{Observation}
use Rattle.spec_duties.specs.declared.observations.SynChange.{SynChange}
use Rattle.spec_duties.specs.declared.observations.SynChange.TheVariants as syn_change
use Rattle.spec_duties.specs.declared.views.View.{View}
use Rattle.spec_flights.specs.Scoreboard.{number_built}
use Rattle.spec_flights.specs.Flights.{Flight, board_after}
use Rattle.spec_flights.specs.Delivered.{read_reports}
use Rattle.spec_flights.specs.Recovering.{is_recovering, recovery_after}
use Rattle.spec_flights.specs.Sides.{are_selective, sides_after}
use Rattle.spec_cases.specs.Cases.{Dutiful, first_known}
use Rattle.flights.specs.Promises.{WhatIsToldStays}
use Rattle.kept_flights.specs.Places.{Happens, IsStep, observed, seen_before, world_before}
use Rattle.kept_flights.specs.Reported.{BothPermit, IsBuilt, HasBegunRecovery, HasSyn, IsReported, StaysOut, WhatWasReportedStays, reports}
use Rattle.kept_flights.proofs.Accepted.{accepted, again}
use Rattle.kept_flights.proofs.Kept.{Told, board_begins, board_keeps, fast_keeps, own_begins, own_keeps, peers_keeps}
use Rattle.kept_flights.proofs.Positions.{becomes, una_rises}
use Rattle.kept_flights.proofs.Syns.{taken_once}
use Rattle.kept_flights.proofs.Taking.{Read, built_there, reads}
use Rattle.kept_flights.proofs.Runs.{flight_before, one_event, place_makes, run_keeps}

module _ (h : Header) (xs : List (Stamped tcp_shape)) (me : EndpointId) (six : says_sender h.version ≡ true)
    (lawful : Lawful (tcp h) (start (tcp h)) xs) where
  -- what a step shows, if it is known
  shown : (place : ℕ) (host_step : HostStep tcp_shape) (step : IsStep xs place me.host host_step)
      → observed h xs place ≡ observe h step.0 (world_before h xs place) (At me.host host_step)
  shown place host_step step =
      ap (λ (o : Option (Stamped tcp_shape)). option_map_or (λ y. observe h y.moment (world_before h xs place) y.step) o unseen) step.1

  -- ---- both SYNs

  own : (from to : ℕ) → from < to → HasSyn h xs from me (syn_change.Sends true) → (flight_before h xs to me).sides.own ≡ true
  own from to less syn =
      run_keeps h xs six (λ f. f.sides.own ≡ true) me (suc from) to (omega (arith, less))
      (place_makes h xs six (λ f. f.sides.own ≡ true) me from syn.0 syn.1 syn.2 (λ moment clock event before here.
      ap (λ (c : SynChange). (sides_after c (flight_before h xs from me).sides).own) syn.3 ∙ own_begins (flight_before h xs from me).sides))
      (λ place low high is moment clock event before here. own_keeps (observed h xs place).syn_change (flight_before h xs place me).sides is)

  peers : (from to : ℕ) (alone : Bool) → from < to → HasSyn h xs from me (syn_change.Takes true alone)
      → (flight_before h xs to me).sides.peers ≡ true
  peers from to alone less syn =
      run_keeps h xs six (λ f. f.sides.peers ≡ true) me (suc from) to (omega (arith, less))
      (place_makes h xs six (λ f. f.sides.peers ≡ true) me from syn.0 syn.1 syn.2 (λ moment clock event before here.
      ap (λ (c : SynChange). (sides_after c (flight_before h xs from me).sides).peers) syn.3))
      (λ place low high is moment clock event before here.
      peers_keeps (observed h xs place).syn_change (flight_before h xs place me).sides
      (λ other change. taken_once h xs me lawful from place (omega (arith, low)) true alone false other syn (event, before, here, change)) is)

  pub selective : (place : ℕ) → BothPermit h xs place me → (event : Event) (before : View) → Happens (observed h xs place) me event before
      → are_selective (sides_after (observed h xs place).syn_change (flight_before h xs place me).sides) ≡ true
  selective place b event before here =
      let mine = own_keeps (observed h xs place).syn_change (flight_before h xs place me).sides (own b.sent place b.sent_before b.sends) in
      let theirs =
      peers_keeps (observed h xs place).syn_change (flight_before h xs place me).sides
      (λ other change. taken_once h xs me lawful b.taken place b.taken_before true b.alone false other b.takes (event, before, here, change))
      (peers b.taken place b.alone b.taken_before b.takes) in
      (λ i. mine i && theirs i)

  -- ---- fast recovery

  fast : (place : ℕ) → HasBegunRecovery h xs place me → (flight_before h xs place me).recovery.is_fast ≡ true
  fast place r =
      let less = r.begun_before in
      run_keeps h xs six (λ f. f.recovery.is_fast ≡ true) me (suc r.begun) place (omega (arith, less))
      (place_makes h xs six (λ f. f.recovery.is_fast ≡ true) me r.begun (Recovers Begins) r.before r.begins (λ moment clock event before here.
      let same = one_event (observed h xs r.begun) me (Recovers Begins) event r.before before r.begins here in
      subst (λ (e : Event). (recovery_after e (seen_before h xs (suc r.begun) me) (flight_before h xs r.begun me).recovery).is_fast ≡ true) same.0 refl))
      (λ later low high is moment clock event before here.
      fast_keeps event (seen_before h xs (suc later) me) (flight_before h xs later me).recovery
      (λ expires. r.no_timeout later before (omega (arith, low)) high
      (subst (λ (e : Event). Happens (observed h xs later) me e before) expires here)) is)

  -- ---- the position

  pub read_there : (place position : ℕ) → IsReported h xs place me position → (event : Event) (before : View)
      → Happens (observed h xs place) me event before → Read (world_before h xs place) me event before position
  read_there place position r event before here =
      let is = shown place (Takes r.line r.choice) r.step in
      reads h r.step.0 (world_before h xs place) r.line r.choice me event before position
      (subst (λ (s : Observation). Happens s me event before) is here)
      (subst (λ (s : Observation). reports s.blocks position ≡ true) is r.reports)

  begins : (place position : ℕ) → (seen_before h xs (suc place) me).snd_una ≤ position → BothPermit h xs place me
      → IsReported h xs place me position → Told position (flight_before h xs (suc place) me).board
  begins place position low permit r =
      place_makes h xs six (λ f. Told position f.board) me place r.event r.before r.happens (λ moment clock event before here.
      let read = read_there place position r event before here in
      subst
      (λ (e : Event). Told position (board_after moment clock (is_recovering before (flight_before h xs place me).recovery)
      (number_built (observed h xs place).built_change) e before (seen_before h xs (suc place) me)
      (read_reports (sides_after (observed h xs place).syn_change (flight_before h xs place me).sides) (observed h xs place).blocks)
      (flight_before h xs place me).board)) (sym read.is)
      (board_begins position moment clock (is_recovering before (flight_before h xs place me).recovery)
      (number_built (observed h xs place).built_change) read.length before (seen_before h xs (suc place) me)
      (sides_after (observed h xs place).syn_change (flight_before h xs place me).sides) (observed h xs place).blocks
      (flight_before h xs place me).board low read.answered (selective place permit event before here) r.reports))

  pub told : (from to position : ℕ) → from < to → BothPermit h xs from me → IsReported h xs from me position
      → StaysOut h xs from to me position → Told position (flight_before h xs to me).board
  told from to position less permit r out =
      run_keeps h xs six (λ f. Told position f.board) me (suc from) to (omega (arith, less))
      (begins from position (low_before (suc from) (omega (arith, less))) permit r)
      (λ place low high is moment clock event before here.
      board_keeps position moment clock (is_recovering before (flight_before h xs place me).recovery)
      (number_built (observed h xs place).built_change) event before (seen_before h xs (suc place) me)
      (read_reports (sides_after (observed h xs place).syn_change (flight_before h xs place me).sides) (observed h xs place).blocks)
      (flight_before h xs place me).board (low_before (suc place) (omega (arith, high)))
      (λ m builds. out.unbuilt place m before (omega (arith, low)) high
      (subst (λ (e : Event). Happens (observed h xs place) me e before) builds here)) is)
    where
      low_before : (place : ℕ) → place ≤ to → (seen_before h xs place me).snd_una ≤ position
      low_before place high =
          let rise = una_rises h xs lawful me place to high in
          let last = out.unacknowledged in
          omega (arith, rise, last)

  -- what was sent at one place was sent at a later one
  pub was_sent : (from to position : ℕ) → from < to → IsReported h xs from me position → (m : SegmentPlan) (b : IsBuilt h xs to me m)
      → position < b.before.snd_max
  was_sent from to position less r m b =
      let read = read_there from position r r.event r.before r.happens in
      let is = shown to (Makes m) b.step in
      let built =
      built_there (world_before h xs to) me (Builds m) b.before h b.step.0 m (subst (λ (s : Observation). Happens s me (Builds m) b.before) is b.happens) in
      let later = becomes h xs lawful me from to (omega (arith, less)) read.place.endpoint read.place.there in
      let one : later.now ≡ built.endpoint = same_Some later.now built.endpoint (sym later.there ∙ built.there) in
      let first : r.before.snd_max ≡ snd_max read.place.endpoint = ap (λ (v : View). v.snd_max) read.place.seen in
      let last : b.before.snd_max ≡ snd_max later.now =
      ap (λ (v : View). v.snd_max) built.seen ∙ ap snd_max (sym one) in
      let made = later.made in
      let sent = read.sent in
      omega (arith, first, last, made, sent)

pub stays : WhatIsToldStays → (h : Header) (xs : List (Stamped tcp_shape)) → says_sender h.version ≡ true → judges_repeats h.congestion ≡ true
    → Lawful (tcp h) (start (tcp h)) xs → Dutiful h (first_known h) xs → WhatWasReportedStays h xs
stays law h xs six judged lawful may from to position me m less permit r out begun b holds =
    let f : Flight = flight_before h xs to me in
    let high = holds.1 in
    let low = was_sent h xs me six lawful from to position less r m b in
    let untold : meets (from_list f.board.told) m.pos (min (m.pos + making_length m) b.before.snd_max) ≡ false =
    law (b.step.0 + h.grain) m b.before f (fast h xs me six lawful to begun)
    (again b.before m position b.no_fin_alone holds low) (accepted h xs me six may judged to m b) in
    let is : contains {K = ℕ} {R = nat_cmp} (from_list f.board.told) position ≡ false =
    meets_none (from_list f.board.told) m.pos (min (m.pos + making_length m) b.before.snd_max) untold position holds.0 (omega (arith, low, high)) in
    let bad : true ≡ false = sym (told h xs me six lawful from to position less permit r out) ∙ is in
    cc
