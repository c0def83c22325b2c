-- What is kept of the latest segment that was delivered, and what is lost, comes from what was delivered.
use Rattle.std.proofs.Common.{◌≡◌, ℕ, zero, suc, ◌+◌, ◌-◌, ◌<◌, ◌≤◌, Bool, true, false, List, [], ◌∷◌, Option, Some, None, refl, ap, subst, ◌∙◌, arith}
use Rattle.std.specs.Prelude.{◌&&◌, if◌then◌else◌, slice_get}
use Rattle.std.specs.FinSet.{FinSet, contains}
use Rattle.std.specs.List.{cons_option}
use Rattle.std.specs.Option.{option_flatten, option_map}
use Rattle.std.specs.Ordering.{nat_cmp}
use Rattle.std.proofs.lemmas.Bool.Decides.{nat_tests}
use Rattle.std.proofs.lemmas.Option.{none-some, same_Some}
use Rattle.streams.specs.Flying.{flying, flying_among, flying_in}
use Rattle.streams.specs.Ranges.{counted_from}
use Rattle.streams.specs.declared.outstanding.Outstanding.{Outstanding}
use Rattle.spec_flights.specs.Delivered.{is_later, is_plausible, latest_after, latest_by}
use Rattle.spec_flights.specs.Late.{is_late, lost_below_in}
use Rattle.spec_flights.specs.declared.making.Latest.{Latest}
use Rattle.spec_flights.specs.declared.making.Making.{Making}

-- the number of the latest segment
abbrev pub top : Option Latest → ℕ
top None = 0
top (Some l) = l.number

-- ---- what is lost

late_below : (at_once : Bool) (clock reordering : ℕ) (latest : Option Latest) (m : Making) → is_late at_once clock reordering latest m ≡ true
    → m.number < top latest
late_below at_once clock reordering None m is = absurd cc
late_below at_once clock reordering (Some l) m is = grind (arith, nat_tests, is)

pub lost_below_top : (at_once : Bool) (clock reordering : ℕ) (latest : Option Latest) (lost : ℕ) (built : List Making) → lost ≤ top latest
    → lost_below_in (is_late at_once clock reordering latest) lost built ≤ top latest
lost_below_top at_once clock reordering latest lost [] low = low
lost_below_top at_once clock reordering latest lost (m ∷ built) low =
    by (is_late at_once clock reordering latest m) refl (lost_below_top at_once clock reordering latest (suc m.number) built)
  where
    by : (b : Bool) → is_late at_once clock reordering latest m ≡ b
        → (suc m.number ≤ top latest → lost_below_in (is_late at_once clock reordering latest) (suc m.number) built ≤ top latest)
        → (if b then lost_below_in (is_late at_once clock reordering latest) (suc m.number) built else lost) ≤ top latest
    by true late rest = let less = late_below at_once clock reordering latest m late in rest (omega (arith, less))
    by false late rest = low

-- ---- what is delivered

module _ (moment : ℕ) (least : Option ℕ) where
  rises_by : (x : Outstanding) (latest : Option Latest) → top latest ≤ top (latest_by moment least x latest)
  rises_by x latest = by (is_plausible moment least x) (is_later x latest) refl
    where
      later : (o : Option Latest) → is_later x o ≡ true → top o ≤ x.number
      later None is = omega arith
      later (Some l) is = grind (arith, nat_tests, is)

      by : (a b : Bool) → is_later x latest ≡ b
          → top latest ≤ top (if a && b then Some (record { number = x.number; round_trip = moment - x.moment }) else latest)
      by false b is = omega arith
      by true false is = omega arith
      by true true is = later latest is

  pub top_rises : (latest : Option Latest) (xs : List (ℕ × Outstanding)) → top latest ≤ top (latest_after moment least latest xs)
  top_rises latest [] = omega arith
  top_rises latest (x ∷ xs) =
      let first = rises_by x.1 latest in
      let rest = top_rises (latest_by moment least x.1 latest) xs in
      omega (arith, first, rest)

  -- the latest segment was before, or is one of these
  module _ (P : ℕ → Type 0) where
    abbrev pub Numbers : Option Latest → Type 0
    Numbers latest = (l : Latest) → latest ≡ Some l → P l.number

    numbers_by : (x : Outstanding) (latest : Option Latest) → P x.number → Numbers latest → Numbers (latest_by moment least x latest)
    numbers_by x latest new old = by (is_plausible moment least x && is_later x latest)
      where
        by : (b : Bool) → Numbers (if b then Some (record { number = x.number; round_trip = moment - x.moment }) else latest)
        by false = λ l is. old l is
        by true = λ l is. subst (λ (k : Latest). P k.number) (same_Some (record { number = x.number; round_trip = moment - x.moment }) l is) new

    module _ (known : List (Option Outstanding)) (told : FinSet nat_cmp) where
      in_flight_is : (q : ℕ) (y : Outstanding) → flying known told q ≡ Some y → slice_get known q ≡ Some (Some y)
      in_flight_is q y = by (contains told q) (slice_get known q) refl
        where
          by : (b : Bool) (o : Option (Option Outstanding)) → slice_get known q ≡ o → (if b then None else option_flatten o) ≡ Some y
              → slice_get known q ≡ Some (Some y)
          by true o at is = absurd (none-some y is)
          by false None at is = absurd (none-some y is)
          by false (Some None) at is = absurd (none-some y is)
          by false (Some (Some x)) at is = at ∙ ap (λ (z : Option Outstanding). Some z) is

      counted_numbers : (from count : ℕ) (latest : Option Latest)
          → ((q : ℕ) (y : Outstanding) → from ≤ q → q < from + count → slice_get known q ≡ Some (Some y) → P y.number)
          → Numbers latest → Numbers (latest_after moment least latest (flying_among known told (counted_from from count)))
      counted_numbers from zero latest each old = old
      counted_numbers from (suc count) latest each old =
          by (flying known told from) refl (λ other numbers. counted_numbers (suc from) count other
          (λ q y low high is. each q y (omega (arith, low)) (omega (arith, high)) is) numbers)
        where
          rest : List (ℕ × Outstanding)
          rest = flying_among known told (counted_from (suc from) count)

          by : (o : Option Outstanding) → flying known told from ≡ o
              → ((other : Option Latest) → Numbers other → Numbers (latest_after moment least other rest))
              → Numbers (latest_after moment least latest (cons_option (option_map (λ x. (from, x)) o) rest))
          by None is onwards = onwards latest old
          by (Some y) is onwards =
              onwards (latest_by moment least y latest)
              (numbers_by y latest (each from y (omega arith) (omega arith) (in_flight_is from y is)) old)

      pub in_numbers : (from upto : ℕ) (latest : Option Latest)
          → ((q : ℕ) (y : Outstanding) → from ≤ q → q < upto → slice_get known q ≡ Some (Some y) → P y.number)
          → Numbers latest → Numbers (latest_after moment least latest (flying_in known told from upto))
      in_numbers from upto latest each old =
          counted_numbers from (upto - from) latest (λ q y low high is. each q y low (omega (arith, low, high)) is) old
