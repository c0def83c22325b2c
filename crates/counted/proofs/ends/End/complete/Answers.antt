use Rattle.std.proofs.Common.{◌<◌, arith, rules, length}
use Rattle.counted.proofs.LineSoFar.{dropped_so_far, end_more, few_more}
use Rattle.counted.proofs.BufferLines.{end_last}
use Rattle.counted.proofs.ends.End.complete.Goals.{then-len-most, else-len-most}
use Rattle.counted.proofs.ends.End.complete.Goals as goal

pub returns-in-Some-clause-line : goal.returns-in-Some-clause-line
returns-in-Some-clause-line g c =
    let piece = c.in_ok-stop.ensures.piece in
    end_last c.args.most c.loop.before c.len-begin.result 8192 _ c.loop.line.items c.append_piece.new.line.items _ _ _ c.in-Some.stop
    c.loop.invariant.so_far (search rules) piece c.in-Some.is

pub loop-preserved : goal.loop-preserved
loop-preserved g c =
    let piece = c.in_ok-stop.ensures.piece in
    let more =
    end_more c.args.most c.loop.before 8192 _ c.loop.line.items c.append_piece.new.line.items _ _ _
    c.loop.invariant.so_far piece c.in_default.is in
    let longer = few_more 8192 _ c.loop.line.items c.append_piece.new.line.items _ _ piece in
    let few = c.loop.invariant.few in
    elim c.if-len-most.branch [
      | then-len-most w ↦
          let k = w.keep_last-before.ensures in
          let long : c.args.most < length c.append_piece.new.line.items = search rules in
          let dropped =
          dropped_so_far c.args.most c.loop.before w.keep_last-before.result c.append_piece.new.line.items
          w.keep_last-before.new.line.items _ _ more long k.count k.last k.one in
          let count = k.count in
          let one = k.one in
          record {
            so_far = rw (w.line-is, w.before-is) dropped;
            counts = search rules;
            few = rw (w.line-is, w.before-is) (omega (arith, longer, few, count, one));
          }
      | else-len-most w ↦ record {
        so_far = rw (w.line-is, w.before-is) more;
        counts = search rules;
        few = rw (w.line-is, w.before-is) (omega (arith, longer, few));
      }
    ]
