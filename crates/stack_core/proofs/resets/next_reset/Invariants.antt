use Rattle.std.proofs.Common.{length}
use Rattle.stack_core.specs.Resets.{AreAwaited, made_of}
use Rattle.stack_core.proofs.resets.next_reset.Given as goal

abbrev pub invariant-loop-number : goal.invariant-loop-number
invariant-loop-number l = AreAwaited (made_of l.recording) l.resets.items

abbrev pub decreases-loop-number : goal.decreases-loop-number
decreases-loop-number l = length l.resets.items
