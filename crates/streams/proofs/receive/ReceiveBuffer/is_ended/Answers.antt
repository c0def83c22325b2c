use Rattle.std.proofs.Common.{ap, sym, ◌∙◌}
use Rattle.streams.specs.Received.{Receiving, is_ended}
use Rattle.streams.proofs.Gone.{ended_gone}
use Rattle.streams.proofs.receive.ReceiveBuffer.is_ended.Goals as goal

pub returns : goal.returns
returns c =
    c.is_ended.ensures ∙ (sym (ended_gone c.self.inside.gone c.self.inside.cells c.self.invariant.1)
    ∙ ap (λ (r : Receiving). is_ended r) c.self.view_is)
