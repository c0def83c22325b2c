use Rattle.std.proofs.Common.{◌≡◌, ◌-◌, ◌≤◌, length}
use Rattle.line_fields.specs.Pairs.{AreSpelled}
use Rattle.line_fields.proofs.blocks.write_blocks.Given as goal

-- the bytes so far
abbrev pub invariant-loop-written : goal.invariant-loop-written
invariant-loop-written l = record {
  spelled : AreSpelled l.text l.bytes l.written;
  most : l.written ≤ length l.bytes;
  len : length l.bytes ≡ length l.fn.bytes;
}

abbrev pub decreases-loop-written : goal.decreases-loop-written
decreases-loop-written l = length l.initial.bytes - l.written
