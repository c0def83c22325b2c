use Rattle.std.proofs.Common.{ap, sym}
use Rattle.std.specs.Prelude.{nat_lt}
use Rattle.streams.proofs.Shown.{leading_count}
use Rattle.streams.proofs.cell_queue.CellQueue.has_leading.Goals as goal

pub returns : goal.returns
returns c =
    let q = c.self.inside in
    ap (λ n. nat_lt 0 n) (sym (leading_count q.ready q.values q.marks q.fin c.args.self.now c.self.invariant.0 c.self.invariant.1 c.self.view_is))
