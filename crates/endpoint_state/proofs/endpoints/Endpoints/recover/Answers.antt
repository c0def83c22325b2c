use Rattle.std.proofs.Common.{arith}
use Rattle.spec_tcp.specs.Recovery.{after_recovery}
use Rattle.endpoint_state.specs.Indexes.{find_ports, is_child_in}
use Rattle.endpoint_state.proofs.Forgotten.{changed_at, changed_past}
use Rattle.endpoint_state.proofs.Keeps.{indexed_at, keeps_recovered}
use Rattle.endpoint_state.proofs.endpoints.Endpoints.recover.Goals as goal

pub invariant_of-self : goal.invariant_of-self
invariant_of-self c =
    indexed_at (find_ports c.self.inside.places.entries)
    (is_child_in c.self.inside.children.entries) c.self.inside.all.items c.args.self.now c.args.place
    c.index_mut.result.now c.recover.new.endpoint
    (λ e. after_recovery e c.args.change c.args.cwnd c.args.ssthresh c.args.moment) c.self.invariant c.self.view_is c.requires
    (let ok = c.self.inside.all.ok in let len = c.len.ensures in let less = c.if-place-len.true in omega arith)
    c.index_mut.ensures.value c.recover.ensures (λ e. keeps_recovered e c.args.change c.args.cwnd c.args.ssthresh c.args.moment)

pub returns-then-place-len : goal.returns-then-place-len
returns-then-place-len c =
    changed_at c.self.inside.all.items c.args.self.now c.args.place c.index_mut.result.now c.recover.new.endpoint
    (λ e. after_recovery e c.args.change c.args.cwnd c.args.ssthresh c.args.moment) c.self.view_is c.requires
    (let ok = c.self.inside.all.ok in let len = c.len.ensures in let less = c.if-place-len.true in omega arith)
    c.index_mut.ensures.value c.recover.ensures

pub returns-else-place-len : goal.returns-else-place-len
returns-else-place-len c =
    changed_past c.self.inside.all.items c.args.self.now c.args.place
    (λ e. after_recovery e c.args.change c.args.cwnd c.args.ssthresh c.args.moment) c.self.view_is c.requires
    (let ok = c.self.inside.all.ok in let len = c.len.ensures in let past = c.if-place-len.false in omega arith)
