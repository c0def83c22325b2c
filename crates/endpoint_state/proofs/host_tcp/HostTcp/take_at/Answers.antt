use Rattle.std.proofs.Common.{ap, sym, ◌∙◌, Option, Bor}
use Rattle.std.specs.Option.{option_copied}
use Rattle.spec_tcp.specs.declared.endpoint.Endpoint.{Endpoint}
use Rattle.endpoint_state.proofs.Readable.{took_alone, took_joined}
use Rattle.endpoint_state.proofs.host_tcp.HostTcp.take_at.Goals as goal

pub returns-in-Some-joins_by-clause-ok : goal.returns-in-Some-joins_by-clause-ok
returns-in-Some-joins_by-clause-ok c =
    took_joined c.args.header.now c.args.how c.args.m.now c.read-m.result c.args.moment c.args.place
    c.in-Some-joins_by.listener c.in-Some.endpoint.now c.args.self.now c.take_and_join.new.self c.take_and_join.result
    (sym c.endpoint_at.ensures ∙ ap (λ (o : Option (Bor Endpoint)). option_copied o) c.in-Some.is)
    c.read-m.ensures.value (sym c.joins_by.ensures ∙ c.in-Some-joins_by.is)
    c.take_and_join.ensures.ok

pub returns-in-None-clause-ok : goal.returns-in-None-clause-ok
returns-in-None-clause-ok c =
    took_alone c.args.header.now c.args.how c.args.m.now c.read-m.result c.args.moment c.args.place
    c.in-Some.endpoint.now c.args.self.now
    (record {
      endpoints = c.self.inside.endpoints;
      listeners = c.self.inside.listeners;
      sockets = c.self.inside.sockets.entries;
    }) c.take.new.self c.take.result
    c.self.view_is (sym c.endpoint_at.ensures ∙ ap (λ (o : Option (Bor Endpoint)). option_copied o) c.in-Some.is)
    c.read-m.ensures.value (sym c.joins_by.ensures ∙ c.in-None.is)
    c.take.ensures.ok
