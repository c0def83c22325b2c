-- A recovery that wasn't needed: what was sent again had only been late. It may be undone (RFC 4015, 3.2). An
-- acknowledgment shows it: by an older clock than that of what was sent again (the Eifel detection, RFC 3522, 3.2), or
-- after a timeout by something that had been sent before (F-RTO, RFC 5682, 3).
use Rattle.std.specs.Prelude.{ℕ, suc, ◌+◌, ◌-◌, ◌%◌, ◌^◌, nat_eq, nat_le, nat_lt, Bool, false, not, ◌&&◌, ◌||◌}
use Rattle.std.specs.Prelude.{if◌then◌else◌, List, Option, None, Some, is_some}
use Rattle.std.specs.List.{list_any}
use Rattle.std.specs.Option.{option_map, option_map_or}
use Rattle.seqno.specs.declared.word.Word.{Word}
use Rattle.segment.specs.declared.options.TimestampPair.{TimestampPair}
use Rattle.case_forms.specs.declared.steps.SegmentPlan.{SegmentPlan}
use Rattle.case_forms.specs.declared.timer.Timer.TheVariants.{Rto}
use Rattle.streams.specs.declared.outstanding.Outstanding.{Outstanding}
use Rattle.spec_duties.specs.Events.{acknowledges_more}
use Rattle.spec_duties.specs.declared.events.Event.{Event}
use Rattle.spec_duties.specs.declared.events.Event.TheVariants.{Builds, Expires, Processes, Recovers, Sends}
use Rattle.spec_duties.specs.declared.observations.Observation.{Observation}
use Rattle.spec_duties.specs.declared.views.View.{View}
use Rattle.spec_flights.specs.Clocks.{is_older}
use Rattle.spec_flights.specs.Delivered.{Reports, within}
use Rattle.spec_flights.specs.Marks.{goes_again}
use Rattle.spec_flights.specs.Recovering.{Recovery, is_recovering}
use Rattle.spec_flights.specs.Scoreboard.{Scoreboard, in_flight, number_built, number_sent}
use Rattle.spec_flights.specs.Sides.{Sides, are_selective}
pub use Rattle.spec_flights.specs.declared.undoing.Again.{Again}
pub use Rattle.spec_flights.specs.declared.undoing.Began.{Began}
pub use Rattle.spec_flights.specs.declared.undoing.Undoing.{Undoing}

-- before any recovery began, after one was undone, and as fast recovery begins
abbrev pub needed : Undoing
needed = record { again = None; timeout = None; is_spurious = false }

-- ---- what is sent again first

abbrev pub again_built : (number : ℕ) → SegmentPlan → (first : Bool) → Option Again → Option Again
again_built number m first again =
    if first then Some (record { number = number; pos = m.pos; clock = None }) else again

-- its line shows its clock
abbrev pub again_sent : (number : ℕ) → Option TimestampPair → Again → Again
again_sent number stamps a =
    if nat_eq a.number number then record a { clock = option_map (λ t. t.value) stamps } else a

-- ---- what shows that it wasn't needed

-- the echoed clock is older than that of what was sent again
abbrev pub echoes_older : Option TimestampPair → Again → Bool
echoes_older stamps a = option_map_or (λ t. option_map_or (is_older t.echo) a.clock false) stamps false

-- what was sent again first is acknowledged, by something that answers what was sent before (RFC 3522, 3.2, step 5)
abbrev pub answers_earlier : (before after : View) → Option TimestampPair → Again → Bool
answers_earlier before after stamps a =
    acknowledges_more before after && nat_lt a.pos after.snd_una && echoes_older stamps a

-- something in flight of some positions was built under a lower number
abbrev pub any_below : (number : ℕ) → List (ℕ × Outstanding) → Bool
any_below number xs = list_any (λ x. nat_lt x.1.number number) xs

-- the same of what an acknowledgment delivers
abbrev pub delivers_below : (number una ack : ℕ) → Reports → Scoreboard → Bool
delivers_below number una ack r b =
    any_below number (in_flight una ack b) || any_below number (within r.first b)
    || any_below number (within r.second b)
    || any_below number (within r.third b)
    || any_below number (within r.fourth b)

-- more is acknowledged than at the timeout, though not all that was sent then, and something is delivered that was
-- built before the timeout (RFC 5682, 3, step 3)
abbrev pub delivers_earlier : (point : ℕ) → (before after : View) → Reports → Scoreboard → (ack : ℕ) → Began → Bool
delivers_earlier point before after r b ack t =
    nat_lt t.snd_una ack && nat_lt ack point
    && delivers_below (suc t.newest) before.snd_una after.snd_una r b

-- the second needs selective acknowledgments, and that something was sent again
abbrev pub shows_spurious : Observation → (before after : View) → Sides → (point : ℕ) → Reports → Scoreboard → Undoing
    → Bool
shows_spurious s before after sides point r b u =
    option_map_or (answers_earlier before after s.stamps) u.again false
    || are_selective sides && is_some u.again
    && option_map_or
    (λ x. option_map_or (delivers_earlier point before after r b x.ack) u.timeout false) s.arrival false

-- ---- after a step

abbrev pub undoing_after : Observation → Event → (before after : View) → Sides → Recovery → Reports → Scoreboard
    → Undoing → Undoing
undoing_after s (Expires Rto) before after sides c r b u =
    record {
      again = None;
      timeout = Some (record { snd_una = before.snd_una; newest = b.newest });
      is_spurious = false;
    }
undoing_after s (Recovers change) before after sides c r b u = needed
undoing_after s (Builds m) before after sides c r b u = record u {
  again =
      again_built (number_built s.built_change) m
      (not (is_some u.again) && is_recovering before c && goes_again before m) u.again;
}
undoing_after s (Sends x) before after sides c r b u =
    record u { again = option_map (again_sent (number_sent s.built_change) s.stamps) u.again }
undoing_after s (Processes length rst) before after sides c r b u =
    record u {
      is_spurious = u.is_spurious || is_recovering before c && shows_spurious s before after sides c.point r b u;
    }
undoing_after s event before after sides c r b u = u
