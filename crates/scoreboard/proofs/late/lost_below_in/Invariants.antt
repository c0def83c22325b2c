use Rattle.std.proofs.Common.{◌≡◌, ◌-◌, drop}
use Rattle.std.specs.VecDeque.{deque_len}
use Rattle.spec_flights.specs.Late.{is_late, lost_below_in}
use Rattle.scoreboard.proofs.late.lost_below_in.Given as goal

abbrev pub invariant-loop-place : goal.invariant-loop-place
invariant-loop-place l =
    lost_below_in (is_late l.lateness.at_once l.lateness.clock l.lateness.reordering l.lateness.latest) l.below (drop l.place l.built.items)
    ≡ lost_below_in (is_late l.lateness.at_once l.lateness.clock l.lateness.reordering l.lateness.latest) l.lost l.built.items

abbrev pub decreases-loop-place : goal.decreases-loop-place
decreases-loop-place l = deque_len l.built - l.place
