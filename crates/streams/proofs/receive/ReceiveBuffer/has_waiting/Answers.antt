use Rattle.std.proofs.Common.{List, ℕ, length, ap, sym, ◌∙◌}
use Rattle.std.specs.Prelude.{nat_lt}
use Rattle.streams.specs.Received.{waiting}
use Rattle.streams.proofs.Gone.{waiting_gone}
use Rattle.streams.proofs.receive.ReceiveBuffer.has_waiting.Goals as goal

pub returns : goal.returns
returns c =
    c.has_leading.ensures ∙ ap (λ (bytes : List ℕ). nat_lt 0 (length bytes))
    (sym (waiting_gone c.self.inside.gone c.self.inside.cells c.self.invariant.1) ∙ ap waiting c.self.view_is)
