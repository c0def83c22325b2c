use Rattle.stack_core.proofs.ArriveLemmas.{any_error, may_recover}
use Rattle.stack_core.proofs.host_core.HostCore.recover.Goals as goal

pub returns-in_err-add-clause-due : goal.returns-in_err-add-clause-due
returns-in_err-add-clause-due c = any_error c.from_residual.result (may_recover c.args.self.now c.args.ports c.in-Some.recovery c.in-Some.ensures.some)
