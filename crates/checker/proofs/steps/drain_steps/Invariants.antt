use Rattle.std.proofs.Common.{◌≡◌, ◌-◌, List, None}
use Rattle.case_forms.specs.declared.steps.Step.{Step}
use Rattle.witness.specs.StepsLeft.{steps_left, fault_of, number_of, reader_failures}
use Rattle.checker.specs.Ahead.{Passes}
use Rattle.checker.proofs.steps.drain_steps.Given as goal

-- the steps so far were passed
abbrev pub invariant-loop : goal.invariant-loop
invariant-loop g l = record {
  working : fault_of l.steps ≡ None;
  passed : (items : List Step) × Passes (steps_left g.B.Read.remaining l.fn.steps) (steps_left g.B.Read.remaining l.steps) items;
  counts : reader_failures l.steps ≡ reader_failures l.fn.steps;
}

abbrev pub decreases-loop : goal.decreases-loop
decreases-loop g l = 10000001 - number_of l.steps
