use Rattle.std.proofs.Common.{◌≡◌, ◌-◌}
use Rattle.streams.specs.Flying.{flying_in}
use Rattle.spec_flights.specs.Delivered.{latest_after}
use Rattle.scoreboard.proofs.walk.latest_in.Given as goal

abbrev pub invariant-loop-run : goal.invariant-loop-run
invariant-loop-run l =
    latest_after l.moment l.least l.last (flying_in l.known l.told l.at l.stretch.upto)
    ≡ latest_after l.moment l.least l.fn.latest (flying_in l.known l.told l.stretch.from l.stretch.upto)

abbrev pub decreases-loop-run : goal.decreases-loop-run
decreases-loop-run l = l.stretch.upto - l.at
