-- What is lost, since something that was built later was delivered (RFC 6675, 4, IsLost; RFC 8985, 6.2, step 5). What
-- is lost stays lost until it is built again or reported.
use Rattle.std.specs.Prelude.{ℕ, suc, ◌+◌, ◌/◌, nat_le, nat_lt, max, Bool, false, ◌&&◌, ◌||◌, if◌then◌else◌}
use Rattle.std.specs.Prelude.{List, [], ◌∷◌, Option, is_some, unwrap_or}
use Rattle.std.specs.FinSet.{from_list}
use Rattle.std.specs.List.{list_any}
use Rattle.std.specs.Option.{option_map_or}
use Rattle.streams.specs.Ranges.{first_held}
use Rattle.spec_duties.specs.declared.views.View.{View}
use Rattle.spec_flights.specs.Scoreboard.{Latest, Making, Scoreboard, in_flight}

-- the peer reported the ends of three segments (DupThresh of RFC 6675, 2)
abbrev pub three_are_told : Scoreboard → Bool
three_are_told b =
    option_map_or
    (λ one. option_map_or (λ two. is_some (first_held (from_list b.ends) (suc two)))
    (first_held (from_list b.ends) (suc one)) false)
    (first_held (from_list b.ends) 0) false

-- how much later than expected something may arrive, by a quarter of the least round trip (RFC 8985, 6.2, step 4)
abbrev pub reordering_time : Scoreboard → ℕ
reordering_time b = unwrap_or b.least 0 / 4

-- it was built before the latest segment that was delivered; and three ends were reported, or an endpoint recovers
-- (`at_once`), or the time is over in which it should have been delivered, too. `clock`: the moment, and how far a
-- clock may be wrong
abbrev pub is_late : (at_once : Bool) → (clock reordering : ℕ) → Option Latest → Making → Bool
is_late at_once clock reordering latest m =
    option_map_or
    (λ l. nat_lt m.number l.number && (at_once || nat_le (m.moment + l.round_trip + reordering) clock))
    latest false

abbrev pub is_late_in : (recovers : Bool) → (clock : ℕ) → Scoreboard → Making → Bool
is_late_in recovers clock b = is_late (recovers || three_are_told b) clock (reordering_time b) b.latest

-- the leading ones of some segments are late: the number below which all is lost, and the others
abbrev pub lost_below_in : (late : Making → Bool) → (lost : ℕ) → List Making → ℕ
lost_below_in late lost [] = lost
lost_below_in late lost (m ∷ built) = if late m then lost_below_in late (suc m.number) built else lost

abbrev pub left_in : (late : Making → Bool) → List Making → List Making
left_in late [] = []
left_in late (m ∷ built) = if late m then left_in late built else m ∷ built

abbrev pub lost_below : (recovers : Bool) → (clock : ℕ) → Scoreboard → ℕ
lost_below recovers clock b = lost_below_in (is_late_in recovers clock b) b.lost b.built

-- what is late now is lost
abbrev pub settled : (recovers : Bool) → (clock : ℕ) → Scoreboard → Scoreboard
settled recovers clock b =
    record b { lost = lost_below recovers clock b; built = left_in (is_late_in recovers clock b) b.built }

-- the number below which all is lost or given up
abbrev pub resent_below : (recovers : Bool) → (clock : ℕ) → Scoreboard → ℕ
resent_below recovers clock b = max (suc b.given_up) (lost_below recovers clock b)

-- something in flight was built under a lower number
abbrev pub has_below : (number : ℕ) → View → Scoreboard → Bool
has_below number v b = list_any (λ x. nat_lt x.1.number number) (in_flight v.snd_una v.snd_max b)
