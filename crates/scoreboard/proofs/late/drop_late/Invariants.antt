use Rattle.std.proofs.Common.{◌≡◌}
use Rattle.std.specs.VecDeque.{deque_len}
use Rattle.spec_flights.specs.Late.{is_late, left_in}
use Rattle.scoreboard.proofs.late.drop_late.Given as goal

abbrev pub invariant-loop : goal.invariant-loop
invariant-loop l =
    left_in (is_late l.lateness.at_once l.lateness.clock l.lateness.reordering l.lateness.latest) l.built.items
    ≡ left_in (is_late l.lateness.at_once l.lateness.clock l.lateness.reordering l.lateness.latest) l.initial.built.items

abbrev pub decreases-loop : goal.decreases-loop
decreases-loop l = deque_len l.built
