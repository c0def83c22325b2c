use Rattle.std.proofs.Common.{◌≡◌, ◌-◌, nat_lt}
use Rattle.std.specs.List.{list_any}
use Rattle.streams.specs.Flying.{flying_in}
use Rattle.scoreboard.proofs.walk.is_any_below.Given as goal

abbrev pub invariant-loop-run : goal.invariant-loop-run
invariant-loop-run l =
    list_any (λ x. nat_lt x.1.number l.number) (flying_in l.known l.told l.at l.stretch.upto)
    ≡ list_any (λ x. nat_lt x.1.number l.number) (flying_in l.known l.told l.stretch.from l.stretch.upto)

abbrev pub decreases-loop-run : goal.decreases-loop-run
decreases-loop-run l = l.stretch.upto - l.at
