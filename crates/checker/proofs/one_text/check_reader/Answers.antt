use Rattle.counted.specs.Counting.{left_of}
use Rattle.checker.proofs.JudgeLemmas.{answer_means}
use Rattle.checker.proofs.OneTextLemmas.{verdict_in}
use Rattle.checker.proofs.one_text.check_reader.Goals as goal

pub returns-clause-means : goal.returns-clause-means
returns-clause-means g c =
    λ t w are. answer_means t w c.judge_text.result.0 (c.verdict_means.ensures t w)
    (verdict_in c.judge_text.result.0 (left_of g.R.Read.remaining c.args.source) t w c.judge_text.ensures.exact are)
