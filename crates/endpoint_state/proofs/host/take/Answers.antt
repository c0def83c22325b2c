use Rattle.std.proofs.Common.{ap, ◌∙◌, sym, Option, Bor}
use Rattle.std.specs.Option.{option_copied}
use Rattle.spec_tcp.specs.declared.endpoint.Emission.{Emission}
use Rattle.spec_network.specs.Tables.{waiting}
use Rattle.endpoint_state.proofs.Still.{waiting_small}
use Rattle.endpoint_state.proofs.KeptHostSteps.{Host_}
use Rattle.endpoint_state.proofs.host.take.Goals as goal

pub take-requires-clause-small : goal.take-requires-clause-small
take-requires-clause-small c = waiting_small c.args.host.now c.args.line c.in-Some.m.now c.requires.ready.tables
    (ap (λ (h : Host_). waiting c.args.line h.inbox) (sym c.host.view_is)
    ∙ (sym c.waiting.ensures ∙ ap (λ (o : Option (Bor Emission)). option_copied o) c.in-Some.is))
