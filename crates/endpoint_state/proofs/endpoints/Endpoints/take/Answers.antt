use Rattle.std.proofs.Common.{arith, ◌∙◌}
use Rattle.spec_tcp.specs.Arrives.{endpoint_taken}
use Rattle.endpoint_state.specs.Indexes.{find_ports, is_child_in}
use Rattle.endpoint_state.proofs.Forgotten.{changed_at, changed_past}
use Rattle.endpoint_state.proofs.Keeps.{indexed_at, keeps_taken}
use Rattle.endpoint_state.proofs.PlaceLemmas.{on_err, unchanged_at}
use Rattle.endpoint_state.proofs.endpoints.Endpoints.take.Goals as goal

pub invariant_of-self-then-place-len : goal.invariant_of-self-then-place-len
invariant_of-self-then-place-len c =
    indexed_at (find_ports c.self.inside.places.entries)
    (is_child_in c.self.inside.children.entries) c.self.inside.all.items c.args.self.now c.args.place
    c.index_mut.result.now c.take_segment.new.endpoint
    (λ e. endpoint_taken c.args.header.now e c.args.how c.args.m.now c.args.moment) c.self.invariant c.self.view_is
    c.requires.kept (let ok = c.self.inside.all.ok in let len = c.len.ensures in let less = c.if-place-len.true in
    omega arith) c.index_mut.ensures.value c.in_ok-take_segment.ensures.ok
    (λ e. keeps_taken c.args.header.now e c.args.how c.args.m.now c.args.moment)

pub returns-then-place-len-clause-ok : goal.returns-then-place-len-clause-ok
returns-then-place-len-clause-ok c =
    changed_at c.self.inside.all.items c.args.self.now c.args.place c.index_mut.result.now c.take_segment.new.endpoint
    (λ e. endpoint_taken c.args.header.now e c.args.how c.args.m.now c.args.moment) c.self.view_is c.requires.kept
    (let ok = c.self.inside.all.ok in let len = c.len.ensures in let less = c.if-place-len.true in omega arith)
    c.index_mut.ensures.value c.in_ok-take_segment.ensures.ok

pub returns-clause-ok : goal.returns-clause-ok
returns-clause-ok c =
    changed_past c.self.inside.all.items c.args.self.now c.args.place
    (λ e. endpoint_taken c.args.header.now e c.args.how c.args.m.now c.args.moment) c.self.view_is c.requires.kept
    (let ok = c.self.inside.all.ok in let len = c.len.ensures in let past = c.if-place-len.false in omega arith)

pub returns-in_err-take_segment-clause-err : goal.returns-in_err-take_segment-clause-err
returns-in_err-take_segment-clause-err c =
    on_err c.from_residual.result _
    (unchanged_at c.self.inside.all.items c.args.place c.index_mut.result.now c.take_segment.new.endpoint
    (let ok = c.self.inside.all.ok in let len = c.len.ensures in let less = c.if-place-len.true in omega arith)
    c.index_mut.ensures.value c.in_err-take_segment.ensures.err ∙ c.self.view_is)
