use Rattle.std.proofs.Common.{◌<◌, ◌^◌}
use Rattle.line_fields.proofs.Decimals.{AreRead}
use Rattle.line_fields.proofs.digits.decimal_value.Given as goal

-- the digits so far
abbrev pub invariant-loop-byte : goal.invariant-loop-byte
invariant-loop-byte l = record { read : AreRead l.text l.byte-index l.value; fits : l.value < 2 ^ 64 }
