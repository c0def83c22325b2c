use Rattle.stack_core.proofs.ArriveLemmas.{may_recover_least, none_left}
use Rattle.stack_core.proofs.host_core.HostCore.recovery.Goals as goal

pub returns-in_err-least-clause-none : goal.returns-in_err-least-clause-none
returns-in_err-least-clause-none c =
    none_left c.from_residual.result (λ may. c.in_err-least.ensures.none (may_recover_least c.args.self.now c.args.ports may))
