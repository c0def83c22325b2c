use Rattle.std.proofs.Common.{◌≡◌, ◌-◌}
use Rattle.std.specs.FinSet.{from_list, union}
use Rattle.streams.specs.Flying.{flying_in}
use Rattle.spec_flights.specs.Delivered.{ends_among}
use Rattle.scoreboard.proofs.walk.add_ends.Given as goal

abbrev pub invariant-loop-run : goal.invariant-loop-run
invariant-loop-run l =
    union l.ends (from_list (ends_among (flying_in l.known l.told l.at l.stretch.upto)))
    ≡ union l.fn.ends (from_list (ends_among (flying_in l.known l.told l.stretch.from l.stretch.upto)))

abbrev pub decreases-loop-run : goal.decreases-loop-run
decreases-loop-run l = l.stretch.upto - l.at
