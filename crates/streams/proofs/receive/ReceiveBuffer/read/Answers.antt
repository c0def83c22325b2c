use Rattle.std.proofs.Common.{take, ap, sym, ◌∙◌}
use Rattle.streams.specs.Received.{waiting}
use Rattle.streams.proofs.Gone.{waiting_gone}
use Rattle.streams.proofs.receive.ReceiveBuffer.read.Goals as goal

pub returns : goal.returns
returns c =
    c.in_ok-bytes.ensures ∙ ap (take c.args.most)
    (sym (waiting_gone c.self.inside.gone c.self.inside.cells c.self.invariant.1) ∙ ap waiting c.self.view_is)
