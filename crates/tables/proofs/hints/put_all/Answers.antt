use Rattle.std.proofs.Common.{arith}
use Rattle.tables.proofs.HintLemmas.{hinted_all, hinted_more}
use Rattle.tables.proofs.hints.put_all.Goals as goal

pub loop-place-preserved : goal.loop-place-preserved
loop-place-preserved g c =
    hinted_more c.put_hint.new.hints c.loop-place.hints c.args.entries.now c.loop-place.place c.index-entries-place.result
    (let end = c.loop-place.auto.place-end in omega (arith, c.loop-place-test.true)) c.index-entries-place.is c.loop-place.invariant
    c.put_hint.ensures.same c.put_hint.ensures.new

pub returns : goal.returns
returns g c = hinted_all c.loop-place.hints c.args.entries.now c.loop-place.place
    (let end = c.loop-place.auto.place-end in omega (arith, c.loop-place-test.false)) c.loop-place.invariant
