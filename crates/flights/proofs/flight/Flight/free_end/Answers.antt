use Rattle.std.proofs.Common.{◌<◌, arith}
use Rattle.spec_flights.specs.Flights.{is_free}
use Rattle.flights.proofs.FreeLemmas.{both_pass}
use Rattle.flights.proofs.flight.Flight.free_end.Goals as goal

pub loop-at-preserved : goal.loop-at-preserved
loop-at-preserved c =
    let low = c.loop-at.invariant.0 in
    let more : c.loop-at.at < c.in-Some.next = c.in-Some.ensures.some.0 in (
      omega (arith, low, more),
      both_pass (is_free c.args.below c.args.self.now) c.args.old.from c.loop-at.at c.in-Some.next low (omega (arith, more))
          c.loop-at.invariant.1 c.in-Some.ensures.some.1,
    )
