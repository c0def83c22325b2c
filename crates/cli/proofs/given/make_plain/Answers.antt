use Rattle.std.proofs.Common.{◌∙◌, ap, set, arith}
use Rattle.cli.specs.HexText.{segment_in}
use Rattle.cli.proofs.PlainHex.{all_plain, plain_more, plain_segment}
use Rattle.cli.proofs.given.make_plain.Goals as goal

pub loop-byte-preserved : goal.loop-byte-preserved
loop-byte-preserved c =
    ap (λ n. set c.loop-byte.word c.loop-byte.byte-index n) c.plain.ensures
    ∙ plain_more c.args.word.now c.loop-byte.word c.loop-byte.byte-index (omega arith) (let long = c.loop-byte.auto.word in omega arith) c.loop-byte.invariant

pub returns-clause-plain : goal.returns-clause-plain
returns-clause-plain c = c.loop-byte.invariant ∙ all_plain c.loop-byte.byte-index c.args.word.now (omega arith)

pub returns-clause-segment : goal.returns-clause-segment
returns-clause-segment c =
    ap segment_in (c.loop-byte.invariant ∙ all_plain c.loop-byte.byte-index c.args.word.now (omega arith))
    ∙ plain_segment c.args.word.now
