use Rattle.stack_core.proofs.OutgoingLemmas.{goes_out}
use Rattle.stack_core.proofs.host_core.HostCore.send.Goals as goal

pub returns-clause-ok : goal.returns-clause-ok
returns-clause-ok c =
    goes_out c.args.self.now c.add.new.self c.args.number c.in_ok-wire.field-0.wire c.in_ok-wire.field-0.flying
    c.me.result c.line.result c.in_ok-wire.ensures c.me.ensures c.line.ensures c.in_ok-add.ensures.ok
