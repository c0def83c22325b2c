use Rattle.std.proofs.Common.{◌≡◌, ◌<◌, ◌∙◌, ◌||◌, false, List, ℕ, length, ap, arith}
use Rattle.std.proofs.lemmas.Bool.Decides.{nat_tests}
use Rattle.std.proofs.lemmas.List.{length-drop}
use Rattle.streams.proofs.Shown.{kept_in_order, kept_nothing, kept_written, leading_gone, leading_within, ready_within}
use Rattle.streams.proofs.cell_queue.CellQueue.keep.Goals.{else-is_empty-via-then-is_empty+else-not-end, else-is_empty-via-else-is_empty, then-self, else-self}
use Rattle.streams.proofs.cell_queue.CellQueue.keep.Goals as goal

pub overflow_sub-at : goal.overflow_sub-at
overflow_sub-at c =
    let q = c.self.inside in
    ready_within q.ready q.values q.marks q.fin c.args.self.now c.args.at c.self.invariant.0 c.self.view_is c.requires.at

pub overflow_add-self : goal.overflow_add-self
overflow_add-self c =
    let q = c.self.inside in
    let least = ready_within q.ready q.values q.marks q.fin c.args.self.now c.args.at c.self.invariant.0 c.self.view_is c.requires.at in
    let small = c.requires.small in
    omega arith

pub overflow_add-self-then-len-eq0 : goal.overflow_add-self-then-len-eq0
overflow_add-self-then-len-eq0 c =
    let q = c.self.inside in
    let least = ready_within q.ready q.values q.marks q.fin c.args.self.now c.args.at c.self.invariant.0 c.self.view_is c.requires.at in
    let small = c.requires.small in
    omega arith

pub returns-then-len-eq0-clause-ok : goal.returns-then-len-eq0-clause-ok
returns-then-len-eq0-clause-ok c =
    let q = c.self.inside in
    rw c.in_ok-append.ensures.ok (kept_in_order q.ready q.values q.marks q.fin c.args.self.now c.args.at c.args.bytes.now c.args.fin
    c.self.invariant.0 (omega arith) c.self.view_is c.requires.at (omega arith))

pub returns-then-not-end-clause-ok : goal.returns-then-not-end-clause-ok
returns-then-not-end-clause-ok c =
    let q = c.self.inside in
    let within = ready_within q.ready q.values q.marks q.fin c.args.self.now c.args.at c.self.invariant.0 c.self.view_is c.requires.at in
    let part = c.part_kept-bytes.result.now in
    let empty : length part ≡ 0 = grind (arith, nat_tests, c.is_empty.ensures, c.if-is_empty.true) in
    kept_nothing q.ready q.values q.marks q.fin c.args.self.now c.args.at c.args.bytes.now c.args.fin part c.end_kept-end.result
    c.self.invariant.0 c.self.view_is within (rw c.len-known.ensures.value at c.part_kept-bytes.ensures)
    (rw c.len-known.ensures.value at c.end_kept-end.ensures)
    empty c.if-not-end.true

pub drop_front-requires : goal.drop_front-requires
drop_front-requires c = let most = leading_within c.place.new.marks in omega arith

pub overflow_add-self-2 : goal.overflow_add-self-2
overflow_add-self-2 c =
    let most = leading_within c.place.new.marks in
    let all = c.in_ok-place.ensures.same in
    let small = c.in_ok-place.ensures.small in
    omega arith

pub overflow_add-self-3 : goal.overflow_add-self-3
overflow_add-self-3 c =
    let most = leading_within c.place.new.marks in
    let all = c.in_ok-place.ensures.same in
    let small = c.in_ok-place.ensures.small in
    omega arith

pub invariant_of-self-2 : goal.invariant_of-self-2
invariant_of-self-2 c =
    let most = leading_within c.place.new.marks in
    let less = length-drop c.leading_received-count.result c.place.new.marks in
    let left = ap (λ (ys : List ℕ). length ys) c.drop_front.ensures in
    let all = c.in_ok-place.ensures.same in (
      omega arith,
      rw (c.drop_front.ensures, c.leading_received-count.ensures) (leading_gone c.place.new.marks),
      let last = c.ends-2.ensures.value in omega arith,
    )

pub returns-clause-ok : goal.returns-clause-ok
returns-clause-ok c =
    let q = c.self.inside in
    let within = ready_within q.ready q.values q.marks q.fin c.args.self.now c.args.at c.self.invariant.0 c.self.view_is c.requires.at in
    let part = c.part_kept-bytes.result.now in
    let end = c.end_kept-end.result in
    let fin : c.if-self.self ≡ (q.fin || end) = elim c.if-self.branch [
      | then-self w ↦ (rw w.if-self.true (w.self-is ∙ w.if-self.true))
      | else-self w ↦ (rw w.if-self.false w.self-is)
    ] in
    let some : end ≡ false → 0 < length part = λ e. elim c.else-is_empty.branch [
      | else-is_empty-via-then-is_empty+else-not-end w ↦ (absurd (let yes = w.if-not-end.false in cc))
      | else-is_empty-via-else-is_empty w ↦ grind (arith, nat_tests, c.is_empty.ensures, w.if-is_empty.false)
    ] in
    rw (fin, c.drop_front.ensures, c.leading_received-count.ensures)
    (kept_written q.ready q.values q.marks q.fin c.args.self.now c.args.at c.args.bytes.now c.args.fin part end
    c.place.new.values c.place.new.marks
    c.self.invariant.0 c.self.view_is within (rw c.len-known.ensures.value at c.part_kept-bytes.ensures)
    (rw c.len-known.ensures.value at c.end_kept-end.ensures)
    some c.in_ok-place.ensures.same c.in_ok-place.ensures.ready c.in_ok-place.ensures.cells)
