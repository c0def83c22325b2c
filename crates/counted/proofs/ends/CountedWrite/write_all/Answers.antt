use Rattle.std.proofs.Common.{rules}
use Rattle.std.proofs.Math.Seq.{take-add}
use Rattle.std.proofs.KnownBytes.{Appends-trans}
use Rattle.std.proofs.lemmas.List.{take_rest}
use Rattle.counted.proofs.ends.CountedWrite.write_all.Goals as goal

pub loop-at-preserved : goal.loop-at-preserved
loop-at-preserved g c =
    let loop = c.loop-at.invariant in
    record {
      within = search rules;
      written = rw (take-add c.loop-at.at c.in_ok-at.field-0 c.args.buf.now) (Appends-trans _ _ _ _ _ loop.written (rw take_rest at c.in_ok-at.ensures.bytes));
      counts = search rules;
    }
