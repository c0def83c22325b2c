use Rattle.std.proofs.Common.{◌-◌, ◌≤◌}
use Rattle.line_fields.proofs.Decimals.{AreRead}
use Rattle.line_fields.proofs.first_field.any_number.Given as goal

-- the digits so far
abbrev pub invariant-loop-count : goal.invariant-loop-count
invariant-loop-count l = record { read : AreRead l.text l.count l.value; within : l.count ≤ l.most }

abbrev pub decreases-loop-count : goal.decreases-loop-count
decreases-loop-count l = l.most - l.count
