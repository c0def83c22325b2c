use Rattle.std.proofs.Common.{◌∙◌, ℕ, true, drop, None, nat_eq, sym, subst, ap}
use Rattle.std.specs.List.{All}
use Rattle.spec_tcp.specs.declared.endpoint.Endpoint.{Endpoint}
use Rattle.spec_tcp.specs.declared.endpoint.Listener.{Listener}
use Rattle.spec_tcp.specs.declared.endpoint.Socket.{Socket}
use Rattle.spec_tcp.specs.declared.endpoint.SocketTarget.TheVariants.{EndpointAt}
use Rattle.indexmap.specs.IndexMap.{insert_entry}
use Rattle.streams.specs.Lists.{modify}
use Rattle.endpoint_state.specs.Changes.{changed}
use Rattle.spec_tcp.specs.HostTcp.{HostTcp, queue_of}
use Rattle.spec_tcp.specs.Bounds.{HasRoom}
use Rattle.spec_tcp.specs.Forgetting.{forget_body}
use Rattle.endpoint_state.proofs.BodyLemmas.{body_same}
use Rattle.endpoint_state.proofs.SocketLemmas.{accepted_none, accepted_first}
use Rattle.endpoint_state.proofs.host_tcp.HostTcp.accept_from.Goals as goal

pub returns-in_default-clause-ok : goal.returns-in_default-clause-ok
returns-in_default-clause-ok c =
    sym (ap forget_body (accepted_none c.args.self.now c.args.place c.args.child_number
    (queue_of c.args.self.now c.args.place) (sym c.first_child.ensures ∙ c.in_default.is))
    ∙ body_same c.args.self.now c.requires)

pub accept-requires : goal.accept-requires
accept-requires c = subst (λ (b : HostTcp). All HasRoom b.endpoints) (sym c.self.view_is) c.requires

pub returns-clause-ok : goal.returns-clause-ok
returns-clause-ok c =
    accepted_first c.args.self.now c.args.place c.args.child_number c.in-Some.child c.accept.new.self c.leave.new.self
    c.insert.new.self.entries (sym c.first_child.ensures ∙ c.in-Some.is)
    (c.accept.ensures ∙ ap (λ (b : HostTcp).
    changed b.endpoints c.in-Some.child
    (λ (e : Endpoint). let accepted : Endpoint = record e { listener = None } in accepted)) c.self.view_is)
    (c.leave.ensures ∙ ap (λ (b : HostTcp).
    modify b.listeners c.args.place
    (λ (x : Listener). let y : Listener = record x { queue = drop 1 x.queue } in y)) c.self.view_is)
    (c.in_ok-insert.ensures.ok ∙ (ap (λ (n : ℕ). insert_entry nat_eq c.self.inside.sockets.entries n c.new_socket.result) c.from.ensures
    ∙ ap (λ (s : Socket). insert_entry nat_eq c.self.inside.sockets.entries c.args.child_number s) c.new_socket.ensures
    ∙ ap (λ (b : HostTcp). insert_entry nat_eq b.sockets c.args.child_number
    (record { target = EndpointAt c.in-Some.child; live = true })) c.self.view_is))
