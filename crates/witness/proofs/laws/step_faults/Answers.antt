use Rattle.witness.proofs.StepFaults.{step_faults}
use Rattle.witness.proofs.laws.step_faults.Goals as goal

pub returns : goal.returns
returns c v number raw e = step_faults v number raw e
