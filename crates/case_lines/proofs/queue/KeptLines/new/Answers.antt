use Rattle.std.proofs.Common.{refl}
use Rattle.case_lines.proofs.ChunkLemmas.{joined_none, filled_none}
use Rattle.case_lines.proofs.queue.KeptLines.new.Goals as goal

pub invariant_of-result : goal.invariant_of-result
invariant_of-result c = rw c.new-2.ensures.items filled_none

pub returns : goal.returns
returns c = rw (c.new.ensures, c.new-2.ensures.items, joined_none, c.new-3.ensures) refl
