use Rattle.std.proofs.Common.{◌∙◌, List, ℕ, Option, ap, sym}
use Rattle.streams.specs.declared.cell.Cell.{Cell}
use Rattle.streams.specs.Cells.{leading}
use Rattle.streams.specs.Received.{starts}
use Rattle.streams.proofs.Shown.{leading_shown}
use Rattle.streams.proofs.cell_queue.CellQueue.starts_with.Goals as goal

pub returns : goal.returns
returns c =
    let q = c.self.inside in
    rw (c.begins.ensures, c.as_slice.ensures)
    (ap (λ (ys : List ℕ). starts c.args.bytes.now ys)
    (sym (leading_shown q.ready q.values q.marks q.fin c.self.invariant.1))
    ∙ ap (λ (xs : List (Option Cell)). starts c.args.bytes.now (leading xs)) c.self.view_is)
