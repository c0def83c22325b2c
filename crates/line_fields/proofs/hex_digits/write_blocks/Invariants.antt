use Rattle.std.proofs.Common.{◌≡◌, ◌-◌, ◌≤◌, length}
use Rattle.line_fields.specs.Pairs.{ArePrinted}
use Rattle.line_fields.proofs.hex_digits.write_blocks.Given as goal

-- the bytes so far
abbrev pub invariant-loop-written : goal.invariant-loop-written
invariant-loop-written l = record {
  printed : ArePrinted l.bytes l.digits l.written;
  most : l.written ≤ length l.bytes;
  len : length l.digits ≡ length l.fn.digits;
}

abbrev pub decreases-loop-written : goal.decreases-loop-written
decreases-loop-written l = length l.initial.bytes - l.written
