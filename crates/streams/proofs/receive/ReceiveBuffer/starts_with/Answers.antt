use Rattle.std.proofs.Common.{ap, sym, ◌∙◌}
use Rattle.streams.specs.Received.{starts, waiting}
use Rattle.streams.proofs.Gone.{waiting_gone}
use Rattle.streams.proofs.receive.ReceiveBuffer.starts_with.Goals as goal

pub returns : goal.returns
returns c =
    c.starts_with.ensures ∙ ap (starts c.args.bytes.now)
    (sym (waiting_gone c.self.inside.gone c.self.inside.cells c.self.invariant.1) ∙ ap waiting c.self.view_is)
