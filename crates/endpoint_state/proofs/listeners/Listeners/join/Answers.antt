use Rattle.std.proofs.Common.{nat_eq, refl, ◌++◌, ◌∷◌, []}
use Rattle.std.specs.Map.{lookup}
use Rattle.spec_tcp.specs.declared.endpoint.Listener.{Listener}
use Rattle.endpoint_state.proofs.ListenLemmas.{listening_tried}
use Rattle.endpoint_state.proofs.listeners.Listeners.join.Goals as goal

pub invariant_of-self : goal.invariant_of-self
invariant_of-self c =
    listening_tried (λ p. lookup (nat_eq p) c.self.inside.places.entries) c.self.inside.all.items c.self.invariant
    c.join_at.result c.join_at.new.listeners.items c.args.place
    (λ (x : Listener). let y : Listener = record x { queue = x.queue ++ c.args.child ∷ [] } in y) (λ x. refl)
    (λ x opened. opened) c.join_at.ensures.ok c.join_at.ensures.err
