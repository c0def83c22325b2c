use Rattle.std.proofs.Common.{refl}
use Rattle.checker.proofs.steps.ListedStepsStepSource.drain.Goals as goal

pub returns-clause-all : goal.returns-clause-all
returns-clause-all c = (c.args.self.now.steps.now, refl)
