use Rattle.std.proofs.Common.{◌≡◌, ◌-◌}
use Rattle.streams.specs.Flying.{flying_in}
use Rattle.spec_flights.specs.Delivered.{least_after}
use Rattle.scoreboard.proofs.walk.least_in.Given as goal

abbrev pub invariant-loop-run : goal.invariant-loop-run
invariant-loop-run l =
    least_after l.moment l.shortest (flying_in l.known l.told l.at l.stretch.upto)
    ≡ least_after l.moment l.fn.least (flying_in l.known l.told l.stretch.from l.stretch.upto)

abbrev pub decreases-loop-run : goal.decreases-loop-run
decreases-loop-run l = l.stretch.upto - l.at
