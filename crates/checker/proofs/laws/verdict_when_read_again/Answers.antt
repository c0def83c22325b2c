use Rattle.std.proofs.Common.{subst, sym}
use Rattle.verdict.specs.declared.report.Verdict.{Verdict}
use Rattle.checker.specs.Explains.{IsYes}
use Rattle.checker.proofs.AgainLemmas.{same_verdict}
use Rattle.checker.proofs.SpanLemmas.{spans_apart}
use Rattle.checker.proofs.laws.verdict_when_read_again.Goals as goal

pub returns-clause-same : goal.returns-clause-same
returns-clause-same c = same_verdict

pub returns-clause-yes : goal.returns-clause-yes
returns-clause-yes c = λ t u w text a b said. subst (λ (v : Verdict). IsYes v) (sym (same_verdict t u w text a b)) said

pub returns-clause-spans : goal.returns-clause-spans
returns-clause-spans c = spans_apart
