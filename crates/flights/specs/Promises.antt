-- What follows from a step that isn't refused.
use Rattle.std.specs.Prelude.{◌≡◌, ℕ, true, false, None}
use Rattle.std.specs.FinSet.{from_list}
use Rattle.case_forms.specs.declared.steps.SegmentPlan.{SegmentPlan}
use Rattle.streams.specs.Ranges.{meets}
use Rattle.spec_duties.specs.declared.events.Event.TheVariants.{Builds}
use Rattle.spec_duties.specs.declared.views.View.{View}
use Rattle.spec_flights.specs.Flights.{Flight, broken_at}
use Rattle.spec_flights.specs.Marks.{goes_again, old_part}

-- once fast recovery began, and until a timeout, a segment that is sent again has no position that the peer reported
abbrev pub WhatIsToldStays : Type 0
WhatIsToldStays =
    (clock : ℕ) (m : SegmentPlan) (v : View) (f : Flight) → f.recovery.is_fast ≡ true → goes_again v m ≡ true
    → broken_at true clock (Builds m) v f ≡ None
    → meets (from_list f.board.told) (old_part v m).from (old_part v m).upto ≡ false
