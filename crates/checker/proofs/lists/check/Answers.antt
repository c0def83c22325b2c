use Rattle.checker.proofs.JudgeLemmas.{answer_means}
use Rattle.checker.proofs.lists.check.Goals as goal

pub returns-clause-exact : goal.returns-clause-exact
returns-clause-exact c = rw (← c.as_slice.ensures, ← c.as_slice-2.ensures) c.judge_lists.ensures

pub returns-clause-means : goal.returns-clause-means
returns-clause-means c =
    answer_means c.args.trace.now c.args.witness.now c.judge_lists.result
    (c.verdict_means.ensures c.args.trace.now c.args.witness.now) (returns-clause-exact c)
