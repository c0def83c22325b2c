use Rattle.std.proofs.Common.{◌≡◌, ◌≤◌, length, drop}
use Rattle.std.specs.VecDeque.{deque_len}
use Rattle.streams.specs.Views.{expand}
use Rattle.streams.proofs.runs.forget.Given as goal

abbrev pub invariant-loop-left : goal.invariant-loop-left
invariant-loop-left l = record {
  told : drop l.left (expand l.runs.items) ≡ drop l.count (expand l.initial.runs.items);
  long : l.left ≤ length (expand l.runs.items);
}

abbrev pub decreases-loop-left : goal.decreases-loop-left
decreases-loop-left l = deque_len l.runs
