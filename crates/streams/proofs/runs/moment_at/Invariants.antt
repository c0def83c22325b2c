use Rattle.std.proofs.Common.{◌≡◌, ◌-◌, drop}
use Rattle.std.specs.VecDeque.{deque_len}
use Rattle.streams.specs.Transmissions.{made_moment}
use Rattle.streams.specs.Views.{expand}
use Rattle.streams.proofs.runs.moment_at.Given as goal

abbrev pub invariant-loop-place : goal.invariant-loop-place
invariant-loop-place l = made_moment (expand (drop l.place l.runs.items)) l.skip ≡ made_moment (expand l.runs.items) l.position

abbrev pub decreases-loop-place : goal.decreases-loop-place
decreases-loop-place l = deque_len l.runs - l.place
