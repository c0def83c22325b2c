use Rattle.std.proofs.Common.{arith, ℕ, Bool, cond, Some, ap, ◌∙◌}
use Rattle.std.specs.BTreeMap.{is_at}
use Rattle.endpoint_state.specs.Indexes.{is_child_in, find_ports, ports_cmp}
use Rattle.endpoint_state.proofs.IndexLemmas.{indexed_push, indexed_more, at_ports}
use Rattle.endpoint_state.proofs.endpoints.Endpoints.add.Goals as goal

pub invariant_of-self-in_err-add_child : goal.invariant_of-self-in_err-add_child
invariant_of-self-in_err-add_child c = rw c.reserve.ensures.items (indexed_more _ _ _ c.self.invariant _ c.add_child.ensures.kept)

pub invariant_of-self-in_err-insert : goal.invariant_of-self-in_err-insert
invariant_of-self-in_err-insert c = rw (c.reserve.ensures.items, c.in_err-insert.ensures.err) (indexed_more _ _ _ c.self.invariant _ c.add_child.ensures.kept)

pub invariant_of-self-2 : goal.invariant_of-self-2
invariant_of-self-2 c = rw (c.push_reserved.ensures.items, c.reserve.ensures.items)
    (indexed_push _ _ c.self.inside.all.items c.self.invariant (find_ports c.insert.new.self.entries)
    (is_child_in c.add_child.new.children.entries) c.args.endpoint c.len-place.result
    (let ok = c.self.inside.all.ok in omega arith)
    (λ l r. c.in_ok-insert.ensures.updates.0 (l, r)
    ∙ ap (λ (p : ℕ × ℕ). cond (is_at (ports_cmp p) (l, r)) (Some c.len-place.result)
    (find_ports c.self.inside.places.entries l r)) c.ports.ensures
    ∙ ap (λ (b : Bool). cond b (Some c.len-place.result) (find_ports c.self.inside.places.entries l r))
    (at_ports c.args.endpoint.lport c.args.endpoint.rport l r)) c.add_child.ensures.kept
    c.in_ok-add_child.ensures.added)
