use Rattle.std.proofs.Common.{List, None, nat_eq, arith, ap, ◌∙◌}
use Rattle.std.specs.Map.{lookup}
use Rattle.spec_tcp.specs.declared.endpoint.Listener.{Listener}
use Rattle.spec_tcp.specs.HostTcp.{last_from, listens_on}
use Rattle.endpoint_state.proofs.ListenLemmas.{listening_push}
use Rattle.endpoint_state.proofs.listeners.Listeners.add.Goals as goal

pub invariant_of-self-2 : goal.invariant_of-self-2
invariant_of-self-2 c = rw (c.push_reserved.ensures.items, c.reserve.ensures.items)
    (listening_push (λ p. lookup (nat_eq p) c.self.inside.places.entries) c.self.inside.all.items c.self.invariant
    (λ p. lookup (nat_eq p) c.insert.new.self.entries) c.args.listener c.len-place.result
    (let ok = c.self.inside.all.ok in omega arith)
    (ap (λ (xs : List Listener). last_from (listens_on c.args.listener.port) 0 None xs) c.self.view_is
    ∙ c.requires.free) (λ q. c.in_ok-insert.ensures.updates.0 q))
