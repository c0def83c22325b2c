use Rattle.std.proofs.Common.{◌≡◌, ◌++◌, length, map}
use Rattle.stack_core.specs.Keys.{key_shown}
use Rattle.recorder.specs.Naming.{line_keys}
use Rattle.recorder.proofs.arrival_names.line_keys.Given as goal

-- the keys so far, and those of what is left, are all
abbrev pub invariant-loop-entry : goal.invariant-loop-entry
invariant-loop-entry l = map key_shown l.keys.items ++ line_keys l.left ≡ line_keys l.fn.entries

abbrev pub decreases-loop-entry : goal.decreases-loop-entry
decreases-loop-entry l = length l.left
