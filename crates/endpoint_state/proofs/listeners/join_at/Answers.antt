use Rattle.std.proofs.Common.{sym, ap, arith, ◌++◌, ◌∷◌, []}
use Rattle.spec_tcp.specs.declared.endpoint.Listener.{Listener}
use Rattle.endpoint_state.proofs.PlaceLemmas.{modified_at, modified_past}
use Rattle.endpoint_state.proofs.listeners.join_at.Goals as goal

pub returns-then-place-len-clause-ok : goal.returns-then-place-len-clause-ok
returns-then-place-len-clause-ok c =
    modified_at c.args.listeners.now.items c.args.place c.index_mut-listener.result.now _
    (λ (x : Listener). let y : Listener = record x { queue = x.queue ++ c.args.child ∷ [] } in y)
    (let ok = c.args.listeners.now.ok in omega arith) c.index_mut-listener.ensures.value
    (ap (λ q. let y : Listener = record c.index_mut-listener.result.now { queue = q } in y) c.in_ok-join.ensures.ok)

pub returns-clause-ok : goal.returns-clause-ok
returns-clause-ok c =
    sym (modified_past c.args.listeners.now.items c.args.place
    (λ (x : Listener). let y : Listener = record x { queue = x.queue ++ c.args.child ∷ [] } in y)
    (let ok = c.args.listeners.now.ok in omega arith))
