use Rattle.std.proofs.Common.{nat_eq, refl, ◌-◌, length, take}
use Rattle.std.specs.Map.{lookup}
use Rattle.spec_tcp.specs.declared.endpoint.Listener.{Listener}
use Rattle.endpoint_state.proofs.ListenLemmas.{listening_modify}
use Rattle.endpoint_state.proofs.listeners.Listeners.leave_last.Goals as goal

pub invariant_of-self : goal.invariant_of-self
invariant_of-self c = rw c.leave_last_at.ensures
    (listening_modify (λ p. lookup (nat_eq p) c.self.inside.places.entries) c.self.inside.all.items c.self.invariant
    c.args.place (λ (x : Listener). let y : Listener = record x { queue = take (length x.queue - 1) x.queue } in
    y) (λ x. refl) (λ x opened. opened))
