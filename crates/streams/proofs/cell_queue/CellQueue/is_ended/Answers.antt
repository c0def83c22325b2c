use Rattle.std.proofs.Common.{◌-◌, ◌∙◌, List, Option, length, ap}
use Rattle.std.specs.Prelude.{slice_get}
use Rattle.streams.specs.declared.cell.Cell.{Cell}
use Rattle.streams.specs.Cells.{front, is_fin}
use Rattle.streams.proofs.Shown.{fin_is}
use Rattle.streams.proofs.cell_queue.CellQueue.is_ended.Goals as goal

pub returns : goal.returns
returns c =
    let q = c.self.inside in
    fin_is q.ready q.values q.marks q.fin q.front c.self.invariant.0 c.self.invariant.1 c.self.invariant.2
    ∙ ap (λ (xs : List (Option Cell)). is_fin (slice_get xs (length (front xs) - 1))) c.self.view_is
