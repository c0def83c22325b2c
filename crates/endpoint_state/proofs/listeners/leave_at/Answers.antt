use Rattle.std.proofs.Common.{sym, ap, arith, drop}
use Rattle.spec_tcp.specs.declared.endpoint.Listener.{Listener}
use Rattle.endpoint_state.proofs.PlaceLemmas.{modified_at, modified_past}
use Rattle.endpoint_state.proofs.listeners.leave_at.Goals as goal

pub returns-then-place-len : goal.returns-then-place-len
returns-then-place-len c =
    modified_at c.args.listeners.now.items c.args.place c.index_mut-listener.result.now _
    (λ (x : Listener). let y : Listener = record x { queue = drop 1 x.queue } in y)
    (let ok = c.args.listeners.now.ok in omega arith) c.index_mut-listener.ensures.value
    (ap (λ q. let y : Listener = record c.index_mut-listener.result.now { queue = q } in y) c.leave.ensures)

pub returns-else-place-len : goal.returns-else-place-len
returns-else-place-len c =
    sym (modified_past c.args.listeners.now.items c.args.place
    (λ (x : Listener). let y : Listener = record x { queue = drop 1 x.queue } in y)
    (let ok = c.args.listeners.now.ok in omega arith))
