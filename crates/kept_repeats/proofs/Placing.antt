-- By which steps an endpoint builds a position, and which of them comes last.
use Rattle.std.proofs.Common.{◌≡◌, ℕ, suc, ◌<◌, ◌≤◌, ◌⊎◌, inl, inr, Bool, true, false, List, Some, ap, subst, ◌∙◌, arith}
use Rattle.std.proofs.Math.Nat.{eq-or-lt_of_le}
use Rattle.std.proofs.lemmas.Bool.{cases_lt}
use Rattle.case_forms.specs.declared.steps.SegmentPlan.{SegmentPlan}
use Rattle.case_forms.specs.declared.trace.Header.{Header}
use Rattle.spec_network.specs.Hosts.{Stamped, Step}
use Rattle.spec_tcp.specs.Machine.{tcp_shape}
use Rattle.spec_tcp.specs.declared.endpoint.EndpointId.{EndpointId}
use Rattle.spec_duties.specs.Strict.{is_fin_alone}
use Rattle.spec_duties.specs.declared.events.Event.{Event}
use Rattle.spec_duties.specs.declared.events.Event.TheVariants.{Builds}
use Rattle.spec_duties.specs.declared.observations.Observation.{Observation}
use Rattle.spec_duties.specs.declared.views.View.{View}
use Rattle.kept_flights.specs.Places.{Happens, observed, world_before}
use Rattle.kept_flights.specs.Reasons.{Never}
use Rattle.kept_flights.specs.Reported.{Holds, IsBuilt}
use Rattle.kept_flights.proofs.Runs.{one_event, onward}
use Rattle.kept_flights.proofs.Shows.{builds_by, counts_rise, step_at}
use Rattle.kept_repeats.specs.Deliveries.{BuildsAt, IsLast}

abbrev pub is_building : Event → Bool
is_building (Builds m) = true
is_building event = false

abbrev plan_of : SegmentPlan → Event → SegmentPlan
plan_of none (Builds m) = m
plan_of none event = none

pub same_plan : (m n : SegmentPlan) → Builds m ≡ Builds n → m ≡ n
same_plan m n is = ap (plan_of m) is

-- what doesn't happen up to a place, nor at it
pub never_at : (P : ℕ → Type 0) (from place : ℕ) → Never from place P → (P place → ⊥) → Never from (suc place) P
never_at P from place before now n over under = by (eq-or-lt_of_le (let le : n ≤ place = omega (arith, under) in le))
  where
    by : (n ≡ place) ⊎ (n < place) → P n → ⊥
    by (inl same) here = now (subst P same here)
    by (inr less) here = before n over less here

-- between a place and the next, there is none
pub never_next : (P : ℕ → Type 0) (place : ℕ) → Never place (suc place) P
never_next P place n over under here = absurd (omega (arith, over, under))

module _ (h : Header) (xs : List (Stamped tcp_shape)) where
  -- the numbers of segments rise
  pub counts_up : (from to : ℕ) → from ≤ to → (world_before h xs from).count ≤ (world_before h xs to).count
  counts_up from to le =
      onward (λ n. (world_before h xs from).count ≤ (world_before h xs n).count) from to le (omega arith)
      (λ n low high old. let rise = counts_rise h xs n in omega (arith, old, rise))

  -- so what has a greater number was built later
  pub built_later : (one other : ℕ) → (world_before h xs one).count < (world_before h xs other).count → one < other
  built_later one other less = by (cases_lt one other)
    where
      by : (one < other) ⊎ (other ≤ one) → one < other
      by (inl is) = is
      by (inr le) = let up = counts_up other one le in absurd (omega (arith, up, less))

module _ (h : Header) (xs : List (Stamped tcp_shape)) (me : EndpointId) where
  -- a segment is built, but not a FIN alone
  pub is_built : (place : ℕ) (m : SegmentPlan) (before : View) → Happens (observed h xs place) me (Builds m) before → is_fin_alone m before ≡ false
      → IsBuilt h xs place me m
  is_built place m before here alone =
      let s = step_at h xs place me (Builds m) before here in
      let by =
      builds_by h s.x.moment (world_before h xs place) s.x.step me m before
      (subst (λ (o : Observation). Happens o me (Builds m) before) s.shows here) in
      record {
        step = (s.x.moment, s.is ∙ ap (λ (y : Step tcp_shape). Some (record { moment = s.x.moment; step = y })) by);
        before = before;
        happens = here;
        no_fin_alone = alone;
      }

  -- a position is built with the segment that a step builds, and by no other step
  pub built_with : (place q : ℕ) (m : SegmentPlan) (before : View) → Happens (observed h xs place) me (Builds m) before → BuildsAt h xs me q place
      → Holds m q
  built_with place q m before here b =
      let same = one_event (observed h xs place) me (Builds b.0) (Builds m) b.1.before before b.1.happens here in
      subst (λ (n : SegmentPlan). Holds n q) (same_plan b.0 m same.0) b.2

  pub not_built : (place q : ℕ) (event : Event) (before : View) → Happens (observed h xs place) me event before → is_building event ≡ false
      → BuildsAt h xs me q place → ⊥
  not_built place q event before here other b =
      let same = one_event (observed h xs place) me (Builds b.0) event b.1.before before b.1.happens here in
      let bad : true ≡ false = ap is_building same.0 ∙ other in
      cc

  pub last_later : (q built place : ℕ) → (BuildsAt h xs me q place → ⊥) → IsLast h xs me q built place → IsLast h xs me q built (suc place)
  last_later q built place none l =
      let low = l.before in
      record {
        before = omega (arith, low);
        builds = l.builds;
        not_since = never_at (BuildsAt h xs me q) built place l.not_since none;
      }
