use Rattle.std.proofs.Common.{◌≤◌, ◌∙◌, ℕ, List, length, length-drop, arith, ap, sym, subst}
use Rattle.streams.specs.Received.{Receiving, told, waiting}
use Rattle.streams.specs.Forgetting.{forgotten}
use Rattle.streams.specs.Cells.{leading}
use Rattle.streams.proofs.Writes.{length_front, leading_front}
use Rattle.streams.proofs.Gone.{waiting_gone, deliver_view, deliver_count}
use Rattle.streams.proofs.receive.ReceiveBuffer.deliver.Goals as goal

fits : (c : goal.After-drop_front) → c.args.count ≤ length (leading c.self.inside.cells)
fits c =
    subst (λ (bytes : List ℕ). c.args.count ≤ length bytes)
    (sym (ap waiting c.self.view_is) ∙ waiting_gone c.self.inside.gone c.self.inside.cells c.self.invariant.1)
    c.requires

pub drop_front-requires : goal.drop_front-requires
drop_front-requires c =
    subst (λ (bytes : List ℕ). c.args.count ≤ length bytes)
    (sym (ap waiting c.self.view_is) ∙ waiting_gone c.self.inside.gone c.self.inside.cells c.self.invariant.1)
    c.requires

pub overflow_add-self : goal.overflow_add-self
overflow_add-self c = let h = fits c in let most = leading_front c.self.inside.cells in let all = length_front c.self.inside.cells in omega arith

pub invariant_of-self : goal.invariant_of-self
invariant_of-self c =
    let h = fits c.before in
    let most = leading_front c.self.inside.cells in
    let all = length_front c.self.inside.cells in
    let rest = length-drop c.args.count c.self.inside.cells in
    let empty = c.self.invariant.1 in
    rw c.drop_front.ensures (omega arith, λ none. omega arith)

pub returns : goal.returns
returns c =
    let h = fits c.before in
    rw (
      c.drop_front.ensures,
      deliver_view c.self.inside.gone c.args.count c.self.inside.cells c.self.invariant.1 h,
      deliver_count c.self.inside.gone c.args.count c.self.inside.cells c.self.invariant.1 h,
    )
    (ap (λ (r : Receiving). forgotten (told r c.args.count)) c.self.view_is)
