use Rattle.std.proofs.Common.{length}
use Rattle.segment.proofs.Cuts.{Keeps}
use Rattle.segment.proofs.options.parse_options.Given as goal

abbrev pub invariant-loop-item : goal.invariant-loop-item
invariant-loop-item l = Keeps l.options l.rest l.mss l.scale

abbrev pub decreases-loop-item : goal.decreases-loop-item
decreases-loop-item l = length l.rest
