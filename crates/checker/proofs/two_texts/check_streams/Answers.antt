use Rattle.counted.specs.Counting.{left_of}
use Rattle.checker.proofs.JudgeLemmas.{answer_means}
use Rattle.checker.proofs.TextLemmas.{verdict_of}
use Rattle.checker.proofs.two_texts.check_streams.Goals as goal

pub returns-clause-means : goal.returns-clause-means
returns-clause-means g c =
    λ t w are. answer_means t w c.judge_texts.result.0 (c.verdict_means.ensures t w)
    (verdict_of c.judge_texts.result.0 (left_of g.A.Read.remaining c.args.a)
    (left_of g.B.Read.remaining c.args.b) t w c.judge_texts.ensures.exact are)
