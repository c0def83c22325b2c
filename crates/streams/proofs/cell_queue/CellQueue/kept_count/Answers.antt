use Rattle.std.proofs.Common.{◌∙◌, Bool, List, length, ap, sym}
use Rattle.streams.specs.Cells.{body}
use Rattle.streams.specs.declared.cell.Cell.{Cell}
use Rattle.streams.proofs.Shown.{counted_bytes, counted_ended, kept_part, ready_within}
use Rattle.streams.proofs.cell_queue.CellQueue.kept_count.Goals as goal

pub overflow_sub-at : goal.overflow_sub-at
overflow_sub-at c =
    let q = c.self.inside in
    ready_within q.ready q.values q.marks q.fin c.args.self.now c.args.at c.self.invariant.0 c.self.view_is c.requires.at

pub returns-then-end : goal.returns-then-end
returns-then-end c =
    let q = c.self.inside in
    let part = c.part_kept-part.result.now in
    let within = ready_within q.ready q.values q.marks q.fin c.args.self.now c.args.at c.self.invariant.0 c.self.view_is c.requires.at in
    let same = kept_part q.ready q.values q.marks q.fin c.args.self.now c.args.at c.args.bytes.now c.args.fin part c.end_kept-end.result
    c.self.invariant.0 c.self.view_is within (rw c.len-known.ensures.value at c.part_kept-part.ensures)
    (rw c.len-known.ensures.value at c.end_kept-end.ensures) in
    sym (ap (λ (cs : List Cell). length cs) same
    ∙ (ap (λ (b : Bool). length (body part b)) c.if-end.true ∙ counted_ended part))

pub returns-else-end : goal.returns-else-end
returns-else-end c =
    let q = c.self.inside in
    let part = c.part_kept-part.result.now in
    let within = ready_within q.ready q.values q.marks q.fin c.args.self.now c.args.at c.self.invariant.0 c.self.view_is c.requires.at in
    let same = kept_part q.ready q.values q.marks q.fin c.args.self.now c.args.at c.args.bytes.now c.args.fin part c.end_kept-end.result
    c.self.invariant.0 c.self.view_is within (rw c.len-known.ensures.value at c.part_kept-part.ensures)
    (rw c.len-known.ensures.value at c.end_kept-end.ensures) in
    sym (ap (λ (cs : List Cell). length cs) same
    ∙ (ap (λ (b : Bool). length (body part b)) c.if-end.false ∙ counted_bytes part))
