-- What is kept of data in flight refuses no step of a run, so neither a segment that goes again.
use Rattle.std.proofs.Common.{◌≡◌, ℕ, ◌+◌, ◌<◌, Bool, true, false, List, Option, Some, None, ap, sym, subst, ◌∙◌}
use Rattle.std.proofs.Common.{arith}
use Rattle.std.specs.Prelude.{◌&&◌, if◌then◌else◌, nat_lt, not}
use Rattle.std.specs.Option.{option_map_or}
use Rattle.std.proofs.lemmas.Bool.Decides.{nat_tests}
use Rattle.case_forms.specs.Versions.{says_sender}
use Rattle.case_forms.specs.declared.steps.SegmentPlan.{SegmentPlan}
use Rattle.case_forms.specs.declared.trace.Header.{Header}
use Rattle.spec_network.specs.Hosts as network
use Rattle.spec_network.specs.Hosts.{At, Stamped, World}
use Rattle.spec_network.specs.Tables.{on}
use Rattle.spec_tcp.specs.Machine.{tcp_shape}
use Rattle.spec_tcp.specs.Makes.Payload.{making_length}
use Rattle.spec_tcp.specs.declared.endpoint.EndpointId.{EndpointId}
use Rattle.spec_duties.specs.Observations.{observe, unseen}
use Rattle.spec_duties.specs.Resent.{judges_repeats}
use Rattle.spec_duties.specs.Strict.{is_fin_alone}
use Rattle.spec_duties.specs.declared.events.Event.{Event}
use Rattle.spec_duties.specs.declared.events.Event.TheVariants.{Builds}
use Rattle.spec_duties.specs.declared.observations.Observation.{Observation}
use Rattle.spec_duties.specs.declared.observations.TouchedEndpoint.{TouchedEndpoint}
use Rattle.spec_duties.specs.declared.views.View.{View}
use Rattle.spec_flights.specs.Flights.{broken_at, flight_at, refusal}
use Rattle.spec_flights.specs.Marks.{goes_again}
use Rattle.spec_cases.specs.Cases.{Dutiful, Known, first_known}
use Rattle.kept_flights.specs.Places.{Happens, world_before}
use Rattle.kept_flights.specs.Reported.{Holds, IsBuilt}
use Rattle.kept_flights.proofs.Runs.{dutiful_there, flight_before, known_before, model_is, touched}

-- a segment that holds what was sent goes again
pub again : (v : View) (m : SegmentPlan) (position : ℕ) → is_fin_alone m v ≡ false → Holds m position → position < v.snd_max → goes_again v m ≡ true
again v m position no_fin held sent =
    let low = held.0 in
    let high = held.1 in
    let some : nat_lt 0 (making_length m) ≡ true = grind (arith, nat_tests, low, high) in
    let old : nat_lt m.pos v.snd_max ≡ true = grind (arith, nat_tests, low, sent) in
    (λ i. some i && old i && not (no_fin i))

module _ (h : Header) (xs : List (Stamped tcp_shape)) (me : EndpointId) (six : says_sender h.version ≡ true) where
  pub passes : (place : ℕ) (x : Stamped tcp_shape) (event : Event) (before : View)
      → refusal h x.moment (known_before h xs place).flights (observe h x.moment (known_before h xs place).model x.step) ≡ None
      → Happens (observe h x.moment (world_before h xs place) x.step) me event before
      → broken_at (judges_repeats h.congestion) (x.moment + h.grain) event before (flight_before h xs place me) ≡ None
  passes place x event before none here =
      let k : Known = known_before h xs place in
      let is : (observe h x.moment k.model x.step).touched ≡ Some (touched me event before) =
      ap (λ (w : World tcp_shape). (observe h x.moment w x.step).touched) (model_is h xs place) ∙ here in
      sym
      (ap (λ (j : Bool). if j then on (observe h x.moment k.model x.step).touched None
      (λ t. broken_at (judges_repeats h.congestion) (x.moment + h.grain) t.event t.before (flight_at k.flights t.host t.place)) else None) six
      ∙ ap (λ (o : Option TouchedEndpoint). on o None
      (λ t. broken_at (judges_repeats h.congestion) (x.moment + h.grain) t.event t.before (flight_at k.flights t.host t.place))) is)
      ∙ none

  module _ (may : Dutiful h (first_known h) xs) where
    pub accepted : judges_repeats h.congestion ≡ true → (place : ℕ) (m : SegmentPlan) (b : IsBuilt h xs place me m)
        → broken_at true (b.step.0 + h.grain) (Builds m) b.before (flight_before h xs place me) ≡ None
    accepted judged place m b =
        ap (λ (j : Bool). broken_at j (b.step.0 + h.grain) (Builds m) b.before (flight_before h xs place me)) (sym judged)
        ∙ passes place (record { moment = b.step.0; step = At me.host (network.Makes m) }) (Builds m) b.before
        (dutiful_there h xs may place (record { moment = b.step.0; step = At me.host (network.Makes m) }) b.step.1).flights
        (subst (λ (s : Observation). Happens s me (Builds m) b.before)
        (ap (λ (o : Option (Stamped tcp_shape)). option_map_or (λ y. observe h y.moment (world_before h xs place) y.step) o unseen) b.step.1) b.happens)
