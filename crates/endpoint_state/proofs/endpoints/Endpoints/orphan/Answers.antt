use Rattle.std.proofs.Common.{◌≡◌, ◌∙◌, ℕ, true, List, [], map, ap, sym, subst}
use Rattle.spec_tcp.specs.Calls.Close.{orphaned}
use Rattle.endpoint_state.specs.Indexes.{find_ports, is_child_in, stands_in}
use Rattle.endpoint_state.proofs.OrphanLemmas.{orphans_all, indexed_orphans, child_known, no_child}
use Rattle.endpoint_state.proofs.endpoints.Endpoints.orphan.Goals as goal

pub invariant_of-self : goal.invariant_of-self
invariant_of-self c =
    rw c.orphan_each.ensures (indexed_orphans (find_ports c.self.inside.places.entries)
    (is_child_in c.self.inside.children.entries) c.args.listener c.as_slice.result.now c.self.inside.all.items
    c.self.invariant)

pub returns-in-Some : goal.returns-in-Some
returns-in-Some c = c.orphan_each.ensures
    ∙ (orphans_all (find_ports c.self.inside.places.entries)
    (is_child_in c.self.inside.children.entries) c.self.inside.all.items c.self.invariant c.args.listener
    c.as_slice.result.now
    (λ i is. subst (λ (ns : List ℕ). stands_in i ns ≡ true) (sym c.as_slice.ensures.value)
    (child_known c.self.inside.children.entries c.args.listener c.in-Some.children.now i
    (sym c.in-Some.ensures.value) is))
    ∙ ap (map (orphaned c.args.listener)) c.self.view_is)

pub returns-in_default : goal.returns-in_default
returns-in_default c = sym c.self.view_is
    ∙ (orphans_all (find_ports c.self.inside.places.entries)
    (is_child_in c.self.inside.children.entries) c.self.inside.all.items c.self.invariant c.args.listener []
    (λ i is. no_child c.self.inside.children.entries c.args.listener i (sym c.in_default.ensures.value) is)
    ∙ ap (map (orphaned c.args.listener)) c.self.view_is)
