use Rattle.stack_core.proofs.ArriveLemmas.{settled_dropped}
use Rattle.stack_core.proofs.host_core.HostCore.reject.Goals as goal

pub returns-clause-ok : goal.returns-clause-ok
returns-clause-ok c =
    λ ports. settled_dropped c.args.self.now c.add-2.new.self c.args.line ports c.me-host.result c.me-host.ensures
    c.requires.not_taken (c.admits.ensures.no c.if-admits.false) c.in_ok-add-2.ensures.ok
