use Rattle.interval_order.proofs.SoundLemmas.{sound_first}
use Rattle.interval_order.proofs.pending_lines.PendingLines.new.Goals as goal

pub invariant_of-result : goal.invariant_of-result
invariant_of-result c = rw (c.new.ensures.entries, c.new-2.ensures) (sound_first c.new.result.next)
