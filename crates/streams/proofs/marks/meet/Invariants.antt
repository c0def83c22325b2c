use Rattle.std.proofs.Common.{◌≡◌, ◌&&◌, nat_lt}
use Rattle.std.specs.List.{list_any}
use Rattle.streams.proofs.marks.meet.Given as goal

abbrev pub invariant-loop-end : goal.invariant-loop-end
invariant-loop-end l =
    (goal.iterator-loop-end).can_next l.end-iterator ×
    (goal.iterator-loop-end).is_finite l.end-iterator
    × (list_any (λ e. nat_lt e.0 l.upto && nat_lt l.from e.1) l.end-iterator ≡ list_any (λ e. nat_lt e.0 l.upto && nat_lt l.from e.1) l.ranges.entries)
