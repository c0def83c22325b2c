-- What a sender knows of its outstanding positions: with which segment each was built last, and which of them its peer
-- reported as received (the scoreboard of RFC 6675, 3 and 4; RFC 2018, 4).
use Rattle.std.specs.Prelude.{ℕ, ◌+◌, nat_le, nat_lt, min, ◌&&◌, if◌then◌else◌, List, [], ◌∷◌, ◌++◌, length}
use Rattle.std.specs.Prelude.{Option, None}
use Rattle.std.specs.FinSet.{difference, from_list, items}
use Rattle.case_forms.specs.declared.steps.SegmentPlan.{SegmentPlan}
use Rattle.streams.specs.Flying.{flying_in}
use Rattle.streams.specs.Pieces.{acknowledged, made}
use Rattle.streams.specs.Ranges.{span}
use Rattle.streams.specs.declared.outstanding.Outstanding.{Outstanding}
use Rattle.spec_tcp.specs.Makes.Payload.{making_length}
use Rattle.spec_duties.specs.Strict.{is_fin_alone}
use Rattle.spec_duties.specs.declared.observations.BuiltChange.{BuiltChange}
use Rattle.spec_duties.specs.declared.observations.BuiltChange.TheVariants as built_change
use Rattle.spec_duties.specs.declared.views.View.{View}
use Rattle.spec_flights.specs.Stretches.{Stretch, no_positions}
pub use Rattle.spec_flights.specs.declared.making.Latest.{Latest}
pub use Rattle.spec_flights.specs.declared.making.Making.{Making}

-- of each position its last making (None: it was acknowledged); the positions that the peer reported, in order, and
-- those of them that were the last of their segments; the segments, as they were built, that aren't lost. What was
-- built under a number below `lost` is lost, and what was built up to `given_up` is given up; `newest` is the number of
-- the last segment that was built. Then the segment that was delivered and was built last, and the least round trip
pub record Scoreboard : Type 0 where
  pub known : List (Option Outstanding)
  pub told : List ℕ
  pub ends : List ℕ
  pub built : List Making
  pub lost : ℕ
  pub newest : ℕ
  pub given_up : ℕ
  pub latest : Option Latest
  pub least : Option ℕ

abbrev pub nothing_built : Scoreboard
nothing_built = record {
  known = [];
  told = [];
  ends = [];
  built = [];
  lost = 0;
  newest = 0;
  given_up = 0;
  latest = None;
  least = None;
}

-- the outstanding positions of these that the peer didn't report, each with its last making
abbrev pub in_flight : (from upto : ℕ) → Scoreboard → List (ℕ × Outstanding)
in_flight from upto b = flying_in b.known (from_list b.told) from upto

-- some positions leave an ordered list
abbrev pub left_without : List ℕ → (from upto : ℕ) → List ℕ
left_without positions from upto = items (difference (from_list positions) (span from upto))

-- ---- building a segment

-- the number under which a step builds a segment, or under which what it sends was built
abbrev pub number_built : BuiltChange → ℕ
number_built (built_change.Builds number) = number
number_built change = 0

abbrev pub number_sent : BuiltChange → ℕ
number_sent (built_change.Sends number) = number
number_sent change = 0

-- a FIN without bytes that was sent before says nothing new of its position (RFC 9293, 3.10.4)
abbrev pub stretch_built : SegmentPlan → (before after : View) → Stretch
stretch_built m before after =
    if is_fin_alone m before then no_positions
    else record { from = m.pos; upto = min (m.pos + making_length m) after.snd_max }

-- these positions are built anew; a segment adjoins what is outstanding, or lies within
abbrev pub with_built : (number moment : ℕ) → Stretch → Scoreboard → Scoreboard
with_built number moment s b =
    if nat_lt s.from s.upto && nat_le (acknowledged b.known) s.from && nat_le s.from (length b.known)
    then record b {
      known = made s.from s.upto number moment b.known;
      told = left_without b.told s.from s.upto;
      ends = left_without b.ends s.from s.upto;
      built = b.built ++ record { number = number; moment = moment } ∷ [];
      newest = number;
    }
    else b

-- after a timeout, and where the window is closed or opens again, all that was built so far is given up
abbrev pub with_given_up : Scoreboard → Scoreboard
with_given_up b = record b { given_up = b.newest }

-- a recovery that wasn't needed gives up nothing
abbrev pub with_nothing_given_up : Scoreboard → Scoreboard
with_nothing_given_up b = record b { given_up = 0 }
