use Rattle.std.proofs.Common.{◌∙◌}
use Rattle.spec_flights.specs.Flights.{is_free}
use Rattle.flights.proofs.FreeLemmas.{front_passes}
use Rattle.flights.proofs.flight.Flight.are_free.Goals as goal

pub loop-at-preserved : goal.loop-at-preserved
loop-at-preserved c =
    c.loop-at.invariant
    ∙ front_passes (is_free c.args.below c.args.self.now) c.loop-at.at c.in-Some.next c.args.old.upto c.in-Some.ensures.some.0
    c.in-Some.ensures.some.1
