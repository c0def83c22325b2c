use Rattle.std.proofs.Common.{rules, arith}
use Rattle.line_fields.proofs.PrintLanes.{all_printed, one_printed}
use Rattle.line_fields.proofs.hex_digits.write_digits.Goals as goal

pub loop-i-preserved : goal.loop-i-preserved
loop-i-preserved c = record {
  printed = one_printed c.args.bytes.now c.loop-i.digits c.loop-i.i (omega arith) (omega arith) c.loop-i.invariant.printed;
  len = search rules;
}

pub returns : goal.returns
returns c = all_printed c.args.bytes.now c.loop-i.digits (omega arith) (λ k lt. c.loop-i.invariant.printed k (omega arith))
