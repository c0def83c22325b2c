use Rattle.stack_core.proofs.OutgoingLemmas.{shown_payload}
use Rattle.stack_core.proofs.host_core.HostCore.outgoing.Goals as goal

pub sent-requires : goal.sent-requires
sent-requires c =
    shown_payload c.args.self.now.recorded.header c.in_ok-wire.wire c.in_ok-copy.field-0 c.emission-m.result.now
    c.in_ok-wire.ensures.shows c.in_ok-copy.ensures
