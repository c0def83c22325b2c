use Rattle.checker.proofs.PrintedLemmas.{case_is, printed_case_is, printed_case_yes}
use Rattle.checker.proofs.StepSpans.{steps_apart}
use Rattle.checker.proofs.laws.printed_case.Goals as goal

pub returns-clause-texts : goal.returns-clause-texts
returns-clause-texts c = case_is

pub returns-clause-printed : goal.returns-clause-printed
returns-clause-printed c = printed_case_is

pub returns-clause-yes : goal.returns-clause-yes
returns-clause-yes c = printed_case_yes

pub returns-clause-spans : goal.returns-clause-spans
returns-clause-spans c = steps_apart
