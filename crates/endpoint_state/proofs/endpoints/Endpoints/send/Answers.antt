use Rattle.std.proofs.Common.{arith}
use Rattle.spec_tcp.specs.Calls.Send.{after_send}
use Rattle.endpoint_state.specs.Indexes.{find_ports, is_child_in}
use Rattle.endpoint_state.proofs.Forgotten.{changed_at, changed_past}
use Rattle.endpoint_state.proofs.Keeps.{indexed_at, keeps_sent}
use Rattle.endpoint_state.proofs.endpoints.Endpoints.send.Goals as goal

pub invariant_of-self-then-place-len : goal.invariant_of-self-then-place-len
invariant_of-self-then-place-len c =
    indexed_at (find_ports c.self.inside.places.entries)
    (is_child_in c.self.inside.children.entries) c.self.inside.all.items c.args.self.now c.args.place
    c.index_mut.result.now c.send.new.endpoint
    (after_send c.args.bytes.now c.args.count) c.self.invariant c.self.view_is c.requires
    (let ok = c.self.inside.all.ok in let len = c.len.ensures in let less = c.if-place-len.true in omega arith)
    c.index_mut.ensures.value c.in_ok-send.ensures.ok (keeps_sent c.args.bytes.now c.args.count)

pub returns-then-place-len-clause-ok : goal.returns-then-place-len-clause-ok
returns-then-place-len-clause-ok c =
    changed_at c.self.inside.all.items c.args.self.now c.args.place c.index_mut.result.now c.send.new.endpoint
    (after_send c.args.bytes.now c.args.count) c.self.view_is c.requires
    (let ok = c.self.inside.all.ok in let len = c.len.ensures in let less = c.if-place-len.true in omega arith)
    c.index_mut.ensures.value c.in_ok-send.ensures.ok

pub returns-clause-ok : goal.returns-clause-ok
returns-clause-ok c =
    changed_past c.self.inside.all.items c.args.self.now c.args.place
    (after_send c.args.bytes.now c.args.count) c.self.view_is c.requires
    (let ok = c.self.inside.all.ok in let len = c.len.ensures in let past = c.if-place-len.false in omega arith)
