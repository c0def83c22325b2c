use Rattle.spec_step.proofs.hidden.HiddenModelStep.admits.Goals as goal

pub returns-in-Recover : goal.returns-in-Recover
returns-in-Recover c = rw c.in-Recover.is c.admits_recovery.ensures

pub returns-in-Reset : goal.returns-in-Reset
returns-in-Reset c = rw c.in-Reset.is c.admits_reset.ensures
