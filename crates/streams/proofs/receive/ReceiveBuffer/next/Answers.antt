use Rattle.std.proofs.Common.{arith, ap}
use Rattle.streams.specs.Received.{Receiving, next}
use Rattle.streams.proofs.Gone.{front_gone}
use Rattle.streams.proofs.receive.ReceiveBuffer.next.Goals as goal

pub returns-clause-value : goal.returns-clause-value
returns-clause-value c = let all = front_gone c.self.inside.gone c.self.inside.cells in let same = ap (λ (r : Receiving). next r) c.self.view_is in omega arith
