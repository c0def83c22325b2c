use Rattle.std.proofs.Common.{rules, ◌+◌, ◌≤◌, length, ◌∙◌, arith}
use Rattle.std.proofs.lemmas.Simd.{length-put_chunk}
use Rattle.line_fields.proofs.DigitLemmas.{block_spelled}
use Rattle.line_fields.proofs.blocks.write_blocks.Goals as goal

pub loop-written-preserved : goal.loop-written-preserved
loop-written-preserved c =
    let bytes = c.loop-written.bytes in
    let block = c.block_bytes-is_hex.result.0 in
    let start = c.min-start.result in
    let from : c.min-start.result ≤ c.loop-written.written = search rules in
    let room : c.min-start.result + 16 ≤ length c.loop-written.bytes = search rules in
    let same = length-put_chunk start bytes block in
    let before = c.loop-written.invariant.spelled in
    let is = c.block_bytes-is_hex.ensures in
    record {
      spelled = block_spelled c.args.text.now bytes block c.loop-written.written start from room is.len before (is.spelled (search rules));
      most = omega (arith, same, room);
      len = same ∙ c.loop-written.invariant.len;
    }
