use Rattle.std.proofs.Common.{◌≡◌, length}
use Rattle.line_fields.specs.Pairs.{ArePrinted}
use Rattle.line_fields.proofs.hex_digits.write_digits.Given as goal

-- the bytes so far
abbrev pub invariant-loop-i : goal.invariant-loop-i
invariant-loop-i l = record {
  printed : ArePrinted l.bytes l.digits l.i;
  len : length l.digits ≡ length l.fn.digits;
}
