use Rattle.std.proofs.Common.{◌≡◌, length}
use Rattle.recorder.specs.Receipts.{end_at}
use Rattle.recorder.proofs.receipt.stands.Given as goal

-- what is left has the answer that all have
abbrev pub invariant-loop-rest : goal.invariant-loop-rest
invariant-loop-rest l = end_at l.thread l.left l.rest ≡ end_at l.thread l.index l.lines

abbrev pub decreases-loop-rest : goal.decreases-loop-rest
decreases-loop-rest l = length l.rest
