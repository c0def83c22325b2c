use Rattle.std.proofs.Common.{◌≡◌, ◌∙◌, [], ◌∷◌, ◌++◌, refl, ap}
use Rattle.spec_tcp.specs.declared.endpoint.Endpoint.{Endpoint}
use Rattle.spec_tcp.specs.HostTcp.{HostTcp}
use Rattle.spec_tcp.specs.Arrives.Listen.{child}
use Rattle.endpoint_state.proofs.PlaceLemmas.{on_ok}
use Rattle.endpoint_state.proofs.BodyLemmas.{forgot_push, body_is}
use Rattle.endpoint_state.proofs.host_tcp.HostTcp.create_child.Goals as goal

pub returns-clause-ok : goal.returns-clause-ok
returns-clause-ok c = on_ok c.add.result (c.add.new.self ≡ c.self.inside.endpoints ++ c.child-child.result ∷ []) _
    (λ is. body_is c.add.new.self _ c.self.inside.listeners _ c.self.inside.sockets.entries _
    (is ∙ (ap (λ (e : Endpoint). c.self.inside.endpoints ++ e ∷ []) c.child-child.ensures
    ∙ (ap (λ (b : HostTcp). b.endpoints
    ++ child c.args.profile c.args.place c.args.how c.args.m.now c.args.moment ∷ []) c.self.view_is
    ∙ forgot_push c.args.self.now.endpoints
    (child c.args.profile c.args.place c.args.how c.args.m.now c.args.moment) c.requires.kept refl)))
    (ap (λ (b : HostTcp). b.listeners) c.self.view_is) (ap (λ (b : HostTcp). b.sockets) c.self.view_is))
    c.add.ensures.ok
