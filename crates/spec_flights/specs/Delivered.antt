-- What an acknowledgment delivers: what it acknowledges by its number, and what its blocks report (RFC 2018, 3), if it
-- wasn't reported before. From it follow round trips (RFC 8985, 6.2, steps 1 and 2).
use Rattle.std.specs.Prelude.{ℕ, ◌-◌, nat_le, nat_lt, min, Bool, true, ◌&&◌, if◌then◌else◌, List, [], ◌∷◌, ◌++◌}
use Rattle.std.specs.Prelude.{Option, Some}
use Rattle.std.specs.FinSet.{FinSet, difference, from_list, items, union}
use Rattle.std.specs.Option.{option_map_or}
use Rattle.std.specs.Ordering.{nat_cmp}
use Rattle.streams.specs.Pieces.{known_from}
use Rattle.streams.specs.Ranges.{span}
use Rattle.streams.specs.declared.outstanding.Outstanding.{Outstanding}
use Rattle.spec_duties.specs.declared.observations.Block.{Block}
use Rattle.spec_duties.specs.declared.observations.Blocks.{Blocks}
use Rattle.spec_flights.specs.Scoreboard.{Latest, Scoreboard, in_flight}
use Rattle.spec_flights.specs.Sides.{Sides, are_selective}
use Rattle.spec_flights.specs.Stretches.{Stretch, no_positions}
pub use Rattle.spec_flights.specs.declared.reports.Reports.{Reports}

-- ---- what an endpoint reads of the blocks of a segment: nothing, unless both SYNs permitted it

abbrev pub report_of : Option Block → Stretch
report_of block = option_map_or (λ k. record { from = k.from; upto = k.upto }) block no_positions

abbrev pub read_reports : Sides → Blocks → Reports
read_reports sides b =
    if are_selective sides
    then record {
      first = report_of b.first;
      second = report_of b.second;
      third = report_of b.third;
      fourth = report_of b.fourth;
    }
    else record { first = no_positions; second = no_positions; third = no_positions; fourth = no_positions }

-- the positions that are reported, and others
abbrev pub with_reports : FinSet nat_cmp → Reports → FinSet nat_cmp
with_reports held r =
    union
    (union (union (union held (span r.first.from r.first.upto)) (span r.second.from r.second.upto))
    (span r.third.from r.third.upto))
    (span r.fourth.from r.fourth.upto)

-- some positions without those
abbrev pub without_reports : FinSet nat_cmp → Reports → FinSet nat_cmp
without_reports held r =
    difference
    (difference (difference (difference held (span r.first.from r.first.upto)) (span r.second.from r.second.upto))
    (span r.third.from r.third.upto))
    (span r.fourth.from r.fourth.upto)

-- ---- what is delivered

abbrev pub within : Stretch → Scoreboard → List (ℕ × Outstanding)
within s b = in_flight s.from s.upto b

-- all of it, if the positions that are newly acknowledged begin at `una` and end before `ack`
abbrev pub delivered : (una ack : ℕ) → Reports → Scoreboard → List (ℕ × Outstanding)
delivered una ack r b =
    in_flight una ack b ++ (within r.first b ++ (within r.second b ++ (within r.third b ++ within r.fourth b)))

-- the least round trip, by what was built once
abbrev pub least_by : (moment : ℕ) → Outstanding → (least : Option ℕ) → Option ℕ
least_by moment x least =
    if x.again then least else Some (option_map_or (min (moment - x.moment)) least (moment - x.moment))

abbrev pub least_after : (moment : ℕ) → (least : Option ℕ) → List (ℕ × Outstanding) → Option ℕ
least_after moment least [] = least
least_after moment least (x ∷ xs) = least_after moment (least_by moment x.1 least) xs

-- what was built last; if a round trip were less than the least one, an earlier making was delivered
abbrev pub is_plausible : (moment : ℕ) → (least : Option ℕ) → Outstanding → Bool
is_plausible moment least x = option_map_or (λ shortest. nat_le shortest (moment - x.moment)) least true

abbrev pub is_later : Outstanding → Option Latest → Bool
is_later x latest = option_map_or (λ l. nat_lt l.number x.number) latest true

abbrev pub latest_by : (moment : ℕ) → (least : Option ℕ) → Outstanding → Option Latest → Option Latest
latest_by moment least x latest =
    if is_plausible moment least x && is_later x latest
    then Some (record { number = x.number; round_trip = moment - x.moment })
    else latest

abbrev pub latest_after : (moment : ℕ) → (least : Option ℕ) → Option Latest → List (ℕ × Outstanding) → Option Latest
latest_after moment least latest [] = latest
latest_after moment least latest (x ∷ xs) =
    latest_after moment least (latest_by moment least x.1 latest) xs

-- the positions with which segments end
abbrev pub ends_among : List (ℕ × Outstanding) → List ℕ
ends_among [] = []
ends_among (x ∷ xs) = if x.1.last then x.0 ∷ ends_among xs else ends_among xs

-- those of what is reported, and others
abbrev pub with_ends : FinSet nat_cmp → Stretch → Scoreboard → FinSet nat_cmp
with_ends held s b = union held (from_list (ends_among (within s b)))

abbrev pub with_all_ends : FinSet nat_cmp → Reports → Scoreboard → FinSet nat_cmp
with_all_ends held r b =
    with_ends (with_ends (with_ends (with_ends held r.first b) r.second b) r.third b) r.fourth b

-- ---- after an acknowledgment

-- what is acknowledged leaves a set; the others, in order
abbrev pub acked_left : FinSet nat_cmp → (ack : ℕ) → List ℕ
acked_left held ack = items (difference held (span 0 ack))

-- by the least round trip then
abbrev pub heard_by : (moment una ack : ℕ) → Reports → (least : Option ℕ) → Scoreboard → Scoreboard
heard_by moment una ack r least b = record b {
  known = known_from ack b.known;
  told = acked_left (with_reports (from_list b.told) r) ack;
  ends = acked_left (with_all_ends (from_list b.ends) r b) ack;
  latest = latest_after moment least b.latest (delivered una ack r b);
  least = least;
}

abbrev pub heard : (moment una ack : ℕ) → Reports → Scoreboard → Scoreboard
heard moment una ack r b = heard_by moment una ack r (least_after moment b.least (delivered una ack r b)) b
