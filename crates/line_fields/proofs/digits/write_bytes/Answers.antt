use Rattle.std.proofs.Common.{◌*◌, arith}
use Rattle.line_fields.proofs.DigitLemmas.{all_written, none_written, one_written, spelled_so_far}
use Rattle.line_fields.proofs.digits.write_bytes.Goals as goal

pub loop-i-init : goal.loop-i-init
loop-i-init c =
    let blocks = c.write_blocks-i in
    spelled_so_far c.args.text.now blocks.new.bytes blocks.result (omega arith) blocks.ensures.most blocks.ensures.spelled

pub returns-in_default : goal.returns-in_default
returns-in_default c =
    none_written c.args.text.now c.loop-i.bytes c.loop-i.i (omega arith) (omega arith) (c.in_default.ensures (2 * c.loop-i.i)) c.loop-i.invariant

pub loop-i-preserved : goal.loop-i-preserved
loop-i-preserved c =
    one_written c.args.text.now c.loop-i.bytes c.loop-i.i c.in-Some.byte (omega arith) (omega arith) (c.in-Some.ensures (2 * c.loop-i.i)) c.loop-i.invariant

pub returns : goal.returns
returns c = all_written c.args.text.now c.loop-i.bytes c.loop-i.i (omega arith) (omega arith) c.loop-i.invariant
