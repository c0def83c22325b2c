use Rattle.std.proofs.Common.{◌≤◌, ◌∙◌, List, ℕ, length, drop, ap, sym, arith}
use Rattle.std.proofs.lemmas.List.{length-drop}
use Rattle.streams.proofs.Shown.{drop_shown, leading_count}
use Rattle.streams.proofs.cell_queue.CellQueue.drop_front.Goals as goal

pub drop_front-requires : goal.drop_front-requires
drop_front-requires c =
    let q = c.self.inside in
    let bytes = leading_count q.ready q.values q.marks q.fin c.args.self.now c.self.invariant.0 c.self.invariant.1 c.self.view_is in
    let all = c.self.invariant.0 in
    omega arith

pub overflow_sub-self : goal.overflow_sub-self
overflow_sub-self c =
    let q = c.self.inside in
    let bytes = leading_count q.ready q.values q.marks q.fin c.args.self.now c.self.invariant.0 c.self.invariant.1 c.self.view_is in
    omega arith

pub overflow_sub-self-2 : goal.overflow_sub-self-2
overflow_sub-self-2 c =
    let q = c.self.inside in
    let bytes = leading_count q.ready q.values q.marks q.fin c.args.self.now c.self.invariant.0 c.self.invariant.1 c.self.view_is in
    let front = c.self.invariant.2 in
    omega arith

pub invariant_of-self : goal.invariant_of-self
invariant_of-self c =
    let q = c.self.inside in
    let bytes = leading_count q.ready q.values q.marks q.fin c.args.self.now c.self.invariant.0 c.self.invariant.1 c.self.view_is in
    let all = c.self.invariant.0 in
    let less = length-drop c.args.count q.values in
    let left = ap (λ (ys : List ℕ). length ys) c.drop_front.ensures in
    let front = c.self.invariant.2 in
    (omega arith, c.self.invariant.1, omega arith)

pub returns : goal.returns
returns c =
    let q = c.self.inside in
    let bytes = leading_count q.ready q.values q.marks q.fin c.args.self.now c.self.invariant.0 c.self.invariant.1 c.self.view_is in
    let fits : c.args.count ≤ q.ready = omega arith in
    rw c.drop_front.ensures (sym (drop_shown q.ready c.args.count q.values q.marks q.fin c.self.invariant.0 fits) ∙ ap (drop c.args.count) c.self.view_is)
