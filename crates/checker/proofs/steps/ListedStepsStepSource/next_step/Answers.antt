use Rattle.checker.proofs.StepLemmas.{yields_first, first_fits, rest_fit}
use Rattle.checker.proofs.steps.ListedStepsStepSource.next_step.Goals as goal

pub returns-in_ok-copied-in-Some-clause-next : goal.returns-in_ok-copied-in-Some-clause-next
returns-in_ok-copied-in-Some-clause-next c =
    let split = rw c.in-Some.is at c.split_first.ensures.cases in
    yields_first c.args.self.now.steps.now c.in-Some.rest.now c.in-Some.step.now split _ c.in_ok-copied-in-Some.ensures.ok

pub returns-in_ok-copied-in-Some-clause-place : goal.returns-in_ok-copied-in-Some-clause-place
returns-in_ok-copied-in-Some-clause-place c =
    let split = rw c.in-Some.is at c.split_first.ensures.cases in
    first_fits c.args.self.now.steps.now c.in-Some.rest.now c.in-Some.step.now split _ c.in_ok-copied-in-Some.ensures.ok c.requires

pub returns-in_ok-copied-in-Some-clause-working : goal.returns-in_ok-copied-in-Some-clause-working
returns-in_ok-copied-in-Some-clause-working c =
    let split = rw c.in-Some.is at c.split_first.ensures.cases in
    rest_fit c.args.self.now.steps.now c.in-Some.rest.now c.in-Some.step.now split c.requires
