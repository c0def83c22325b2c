use Rattle.std.proofs.Common.{rules, ◌+◌, ◌*◌, ◌≤◌, length, ◌∙◌, arith}
use Rattle.std.proofs.lemmas.Simd.{length-put_chunk}
use Rattle.line_fields.proofs.PrintLanes.{block_printed}
use Rattle.line_fields.proofs.hex_digits.write_blocks.Goals as goal

pub loop-written-preserved : goal.loop-written-preserved
loop-written-preserved c =
    let digits = c.loop-written.digits in
    let block = c.block_digits-block.result in
    let start = c.min-start.result in
    let from : c.min-start.result ≤ c.loop-written.written = search rules in
    let room : c.min-start.result + 16 ≤ length c.args.bytes.now = search rules in
    let same = length-put_chunk (2 * start) digits block in
    let before = c.loop-written.invariant.printed in
    let is = c.block_digits-block.ensures in
    record {
      printed = block_printed c.args.bytes.now digits block c.loop-written.written start from (omega arith) room is.len before is.printed;
      most = omega (arith, room);
      len = same ∙ c.loop-written.invariant.len;
    }
