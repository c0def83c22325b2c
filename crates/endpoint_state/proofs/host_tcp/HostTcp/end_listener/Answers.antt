use Rattle.std.proofs.Common.{◌∙◌, false, List, map, sym, ap, subst}
use Rattle.std.specs.List.{All}
use Rattle.streams.specs.Lists.{modify}
use Rattle.spec_tcp.specs.declared.endpoint.Endpoint.{Endpoint}
use Rattle.spec_tcp.specs.declared.endpoint.Listener.{Listener}
use Rattle.spec_tcp.specs.Bounds.{HasRoom}
use Rattle.spec_tcp.specs.HostTcp.{HostTcp}
use Rattle.spec_tcp.specs.Calls.Close.{orphaned}
use Rattle.endpoint_state.proofs.BodyLemmas.{body_is}
use Rattle.endpoint_state.proofs.OrphanLemmas.{orphans_forgotten}
use Rattle.endpoint_state.proofs.host_tcp.HostTcp.end_listener.Goals as goal

pub orphan-requires : goal.orphan-requires
orphan-requires c = subst (λ (es : List Endpoint). All HasRoom es) (sym (ap (λ (b : HostTcp). b.endpoints) c.self.view_is)) c.requires

pub returns : goal.returns
returns c = body_is c.orphan.new.self _ c.close.new.self _ c.self.inside.sockets.entries _
    (c.orphan.ensures ∙ (ap (λ (b : HostTcp). map (orphaned c.args.place) b.endpoints) c.self.view_is
    ∙ sym (orphans_forgotten c.args.place c.args.self.now.endpoints c.requires)))
    (c.close.ensures ∙ ap (λ (b : HostTcp). modify b.listeners c.args.place (λ x. let y : Listener = record x { is_open = false } in y)) c.self.view_is)
    (ap (λ (b : HostTcp). b.sockets) c.self.view_is)
