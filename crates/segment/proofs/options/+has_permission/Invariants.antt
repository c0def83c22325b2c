use Rattle.std.proofs.Common.{length}
use Rattle.segment.proofs.options.+has_permission.Given as goal

-- the bytes that are left
abbrev pub decreases-has_permission : goal.decreases-has_permission
decreases-has_permission l = length l.options.now
