use Rattle.std.proofs.Common.{sym, ◌∙◌, arith}
use Rattle.streams.proofs.RunLemmas.{moment_found, moment_on}
use Rattle.streams.proofs.runs.moment_at.Goals as goal

pub returns-then-skip-run : goal.returns-then-skip-run
returns-then-skip-run c =
    sym (moment_found c.args.runs.now.items c.loop-place.place c.loop-place.skip c.index-run.result.now
    (let ok = c.args.runs.now.ok in omega arith) c.index-run.ensures c.if-skip-run.true)
    ∙ c.loop-place.invariant

pub loop-place-preserved : goal.loop-place-preserved
loop-place-preserved c =
    moment_on c.args.runs.now.items c.loop-place.place c.loop-place.skip c.index-run.result.now
    (let ok = c.args.runs.now.ok in omega arith) c.index-run.ensures c.if-skip-run.false
    ∙ c.loop-place.invariant
