use Rattle.std.proofs.Common.{subst, ℕ}
use Rattle.std.specs.Option.{IfSome}
use Rattle.spec_network.specs.HostRules.{Permitted}
use Rattle.spec_tcp.specs.Machine.{tcp}
use Rattle.stack_core.specs.Cores.{Core, world}
use Rattle.stack_core.specs.TimerEvents.{expiry_step}
use Rattle.stack_core.proofs.host_core.HostCore.due.Goals as goal

pub returns-clause-some : goal.returns-clause-some
returns-clause-some c =
    subst (λ (k : Core). IfSome c.find_due.result
    (λ due. (n : ℕ) → Permitted (tcp k.recorded.header) c.args.moment (world k)
    (expiry_step k.recorded.me n due.ports due.expired))) c.self.view_is c.find_due.ensures.some

pub invariant_of-self : goal.invariant_of-self
invariant_of-self c = (c.self.invariant.0, c.self.invariant.1, record { quiet = c.self.invariant.2.quiet; timed = c.find_due.ensures.timed })
