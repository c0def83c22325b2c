use Rattle.std.proofs.Common.{Some, ap, sym, ◌∙◌}
use Rattle.std.specs.Prelude.{slice_get}
use Rattle.spec_tcp.specs.declared.endpoint.SocketTarget.{SocketTarget}
use Rattle.stack_core.proofs.AnswerLemmas.{no_gap}
use Rattle.stack_core.proofs.answers.on_socket.Goals as goal

pub unreachable-requires : goal.unreachable-requires
unreachable-requires c =
    no_gap (slice_get c.args.body.now.endpoints c.in-Some-EndpointAt.place)
    (c.requires.named c.args.number c.in-Some-EndpointAt.place
    (sym c.target.ensures ∙ c.in-Some-EndpointAt.is
    ∙ ap (λ (target : SocketTarget). Some target) c.in-Some-EndpointAt.field-0-is))
    (sym c.in-None-endpoint_at.ensures)
