use Rattle.std.proofs.Common.{length}
use Rattle.segment.proofs.options.+block_among.Given as goal

-- the bytes that are left
abbrev pub decreases-block_among : goal.decreases-block_among
decreases-block_among l = length l.options.now
