use Rattle.std.proofs.Common.{◌≡◌, ◌∙◌, List, ℕ, Option, take, ap, sym, subst}
use Rattle.std.specs.Result.{IfOk}
use Rattle.streams.specs.declared.cell.Cell.{Cell}
use Rattle.streams.specs.Cells.{leading}
use Rattle.streams.proofs.Shown.{leading_shown, take_twice}
use Rattle.streams.proofs.cell_queue.CellQueue.read.Goals as goal

pub returns : goal.returns
returns c =
    let q = c.self.inside in
    let same : take c.min-count.result c.as_slice.result.now ≡ take c.args.most (leading c.args.self.now) =
    rw (c.min-count.ensures, c.as_slice.ensures) (take_twice c.args.most q.ready q.values
    ∙ (ap (λ (ys : List ℕ). take c.args.most ys) (sym (leading_shown q.ready q.values q.marks q.fin c.self.invariant.1))
    ∙ ap (λ (xs : List (Option Cell)). take c.args.most (leading xs)) c.self.view_is)) in
    subst (λ (ys : List ℕ). IfOk c.from_slice.result (λ v. v.items ≡ ys)) same c.from_slice.ensures.items
