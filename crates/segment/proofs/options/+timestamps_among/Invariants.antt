use Rattle.std.proofs.Common.{length}
use Rattle.segment.proofs.options.+timestamps_among.Given as goal

-- the bytes that are left
abbrev pub decreases-timestamps_among : goal.decreases-timestamps_among
decreases-timestamps_among l = length l.options.now
