use Rattle.std.proofs.Common.{arith, Some, ap, sym, ◌∙◌}
use Rattle.std.specs.Option.{option_map}
use Rattle.spec_tcp.specs.declared.endpoint.Endpoint.{Endpoint}
use Rattle.spec_tcp.specs.Makes.{after_making, emission_of}
use Rattle.endpoint_state.specs.Indexes.{find_ports, is_child_in}
use Rattle.endpoint_state.proofs.Forgotten.{changed_at, nobody_past, found_at}
use Rattle.endpoint_state.proofs.Keeps.{indexed_at, keeps_made}
use Rattle.endpoint_state.proofs.endpoints.Endpoints.make.Goals as goal

pub invariant_of-self-then-place-len : goal.invariant_of-self-then-place-len
invariant_of-self-then-place-len c =
    indexed_at (find_ports c.self.inside.places.entries)
    (is_child_in c.self.inside.children.entries) c.self.inside.all.items c.args.self.now c.args.me.number
    c.index_mut.result.now c.make_one.new.endpoint
    (λ e. after_making e c.args.making.now c.args.moment) c.self.invariant c.self.view_is c.requires.kept
    (let ok = c.self.inside.all.ok in let len = c.len.ensures in let less = c.if-place-len.true in omega arith)
    c.index_mut.ensures.value c.in_ok-emission.ensures.ok (λ e. keeps_made e c.args.making.now c.args.moment)

pub returns-then-place-len-clause-ok : goal.returns-then-place-len-clause-ok
returns-then-place-len-clause-ok c =
    changed_at c.self.inside.all.items c.args.self.now c.args.me.number c.index_mut.result.now c.make_one.new.endpoint
    (λ e. after_making e c.args.making.now c.args.moment) c.self.view_is c.requires.kept
    (let ok = c.self.inside.all.ok in let len = c.len.ensures in let less = c.if-place-len.true in omega arith)
    c.index_mut.ensures.value c.in_ok-emission.ensures.ok

pub returns-then-place-len-clause-made : goal.returns-then-place-len-clause-made
returns-then-place-len-clause-made c =
    ap (option_map (λ (e : Endpoint). emission_of c.args.me e c.args.making.now c.args.moment))
    (found_at c.self.inside.all.items c.args.self.now c.args.me.number c.index_mut.result.now c.self.view_is
    (let ok = c.self.inside.all.ok in let len = c.len.ensures in let less = c.if-place-len.true in omega arith)
    c.index_mut.ensures.value)
    ∙ ap (λ m. Some m) (sym c.in_ok-emission.ensures.made)

pub unreachable-requires : goal.unreachable-requires
unreachable-requires c =
    nobody_past c.self.inside.all.items c.args.self.now c.args.me.number c.self.view_is
    (let ok = c.self.inside.all.ok in let len = c.len.ensures in let past = c.if-place-len.false in omega arith)
    c.requires.there
