-- Computed examples of what is late and lost, and of round trips.
use Rattle.std.proofs.Common.{◌≡◌, ℕ, Bool, true, false, [], ◌∷◌, None, Some, refl}
use Rattle.streams.specs.declared.outstanding.Outstanding.{Outstanding}
use Rattle.spec_flights.specs.Delivered.{latest_after, least_after}
use Rattle.spec_flights.specs.Late.{is_late, left_in, lost_below_in}
use Rattle.spec_flights.specs.declared.making.Latest.{Latest}
use Rattle.spec_flights.specs.declared.making.Making.{Making}

-- the segment of this number, built at 0
abbrev built : (number : ℕ) → Making
built number = record { number = number; moment = 0 }

-- what was delivered last is the third segment, after 10 ms
abbrev third : Latest
third = record { number = 3; round_trip = 10000 }

-- a quarter of the least round trip later, less what a clock may be wrong, the first is late, and not before
late_in_time : is_late false 12500 2500 (Some third) (built 1) ≡ true
late_in_time = refl

not_late_yet : is_late false 12499 2500 (Some third) (built 1) ≡ false
not_late_yet = refl

-- once three ends were reported, or in a recovery, it is late at once
late_at_once : is_late true 0 2500 (Some third) (built 1) ≡ true
late_at_once = refl

-- what was built with it or after it isn't
not_late_itself : is_late true 20000 2500 (Some third) (built 3) ≡ false
not_late_itself = refl

-- so of four segments, two are lost
two_are_lost : lost_below_in (is_late true 0 2500 (Some third)) 0 (built 1 ∷ built 2 ∷ built 3 ∷ built 4 ∷ []) ≡ 3
two_are_lost = refl

two_are_left : left_in (is_late true 0 2500 (Some third)) (built 1 ∷ built 2 ∷ built 3 ∷ built 4 ∷ []) ≡ built 3 ∷ built 4 ∷ []
two_are_left = refl

-- a position that was built last with a segment at this moment
abbrev position_of : (number moment : ℕ) (again : Bool) → Outstanding
position_of number moment again = record { number = number; moment = moment; again = again; last = false }

-- what was built again gives no least round trip, and isn't delivered last if its round trip is below the least
once_counts : least_after 15000 None ((1, position_of 4 14000 true) ∷ (2, position_of 2 5000 false) ∷ []) ≡ Some 10000
once_counts = refl

too_soon : latest_after 15000 (Some 10000) None ((1, position_of 4 14000 true) ∷ (2, position_of 2 5000 false) ∷ [])
    ≡ Some (record { number = 2; round_trip = 10000 })
too_soon = refl
