use Rattle.std.proofs.Common.{◌∙◌, List, Option, length, ap, sym, arith}
use Rattle.streams.specs.declared.cell.Cell.{Cell}
use Rattle.streams.specs.Cells.{front}
use Rattle.streams.proofs.Shown.{front_is}
use Rattle.streams.proofs.Writes.{length_front}
use Rattle.streams.proofs.cell_queue.CellQueue.ready.Goals as goal

pub returns-clause-value : goal.returns-clause-value
returns-clause-value c =
    let q = c.self.inside in
    c.self.invariant.2 ∙ (sym (front_is q.ready q.values q.marks q.fin c.self.invariant.0 c.self.invariant.1)
    ∙ ap (λ (xs : List (Option Cell)). length (front xs)) c.self.view_is)

pub returns-clause-small : goal.returns-clause-small
returns-clause-small c =
    let all = returns-clause-value c in
    let most = length_front c.args.self.now in
    omega arith
