use Rattle.std.proofs.Common.{◌∙◌, ◌-◌, List, length, take, refl, ap}
use Rattle.streams.specs.Lists.{modify}
use Rattle.spec_tcp.specs.declared.endpoint.Listener.{Listener}
use Rattle.endpoint_state.proofs.PlaceLemmas.{left_again}
use Rattle.endpoint_state.proofs.BodyLemmas.{body_is}
use Rattle.endpoint_state.proofs.host_tcp.HostTcp.take_and_join.Goals as goal

pub returns-in-Err-clause-err : goal.returns-in-Err-clause-err
returns-in-Err-clause-err c =
    body_is c.take.new.self c.self.inside.endpoints c.leave_last.new.self c.self.inside.listeners c.self.inside.sockets.entries _ c.in-Err.ensures.err
    (c.leave_last.ensures ∙ (ap (λ (xs : List Listener).
    modify xs c.args.listener (λ x. let y : Listener =
    record x { queue = take (length x.queue - 1) x.queue } in y)) c.in_ok-join.ensures.ok
    ∙ left_again c.self.inside.listeners c.args.listener c.args.place))
    refl
    ∙ c.self.view_is
