use Rattle.std.proofs.Common.{ap, ◌∙◌}
use Rattle.case_forms.specs.declared.calls.Host.{Host}
use Rattle.spec_network.specs.Hosts.{At, Makes}
use Rattle.stack_core.specs.Cores.{with_step}
use Rattle.stack_core.proofs.OutgoingLemmas.{made_waits}
use Rattle.stack_core.proofs.host_core.HostCore.make.Goals as goal

pub returns-clause-waits : goal.returns-clause-waits
returns-clause-waits c =
    made_waits c.args.self.now c.add.new.self c.args.plan c.requires.permitted c.requires.short
    (c.in_ok-add.ensures.ok ∙ ap (λ (h : Host). with_step c.args.self.now (At h (Makes c.args.plan)))
    c.me-host.ensures)
