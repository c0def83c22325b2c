use Rattle.std.proofs.Common.{◌-◌, ◌≡◌}
use Rattle.std.specs.List.{list_all}
use Rattle.streams.specs.Ranges.{positions}
use Rattle.spec_flights.specs.Flights.{is_free}
use Rattle.flights.proofs.flight.Flight.are_free.Given as goal

abbrev pub invariant-loop-at : goal.invariant-loop-at
invariant-loop-at l =
    list_all (is_free l.below l.self) (positions l.old.from l.old.upto)
    ≡ list_all (is_free l.below l.self) (positions l.at l.old.upto)

abbrev pub decreases-loop-at : goal.decreases-loop-at
decreases-loop-at l = l.old.upto - l.at
