use Rattle.std.proofs.Common.{ap, ◌∙◌, sym, ◌≡◌, ℕ, Option, Bor, nat_eq}
use Rattle.std.specs.Option.{option_copied}
use Rattle.spec_network.specs.Tables.{Made, waiting, unsent}
use Rattle.indexmap.specs.IndexMap.{insert_entry}
use Rattle.spec_tcp.specs.declared.endpoint.Emission.{Emission}
use Rattle.spec_tcp.specs.Reset.{reset_of}
use Rattle.spec_network.specs.HostSteps.{inbox_settled}
use Rattle.endpoint_state.proofs.KeptHostSteps.{Host_, answered}
use Rattle.endpoint_state.proofs.host.reply_with_reset.Goals as goal

pub returns-clause-ok : goal.returns-clause-ok
returns-clause-ok c =
    let made : c.insert.new.self.entries ≡ insert_entry nat_eq c.host.inside.made.entries c.args.fresh (unsent (reset_of c.in-Some.m.now))
    = c.in_ok-insert.ensures.ok ∙ ap
    (λ (n : ℕ). insert_entry nat_eq c.host.inside.made.entries n c.unsent.result) c.from.ensures
    ∙ ap (λ (x : Made Emission). insert_entry nat_eq c.host.inside.made.entries c.args.fresh x)
    (c.unsent.ensures ∙ ap (λ (m : Emission). unsent m) c.reset_of-reset.ensures.reset) in
    let inbox : c.consume_arrival.new.inbox.entries ≡ inbox_settled c.args.line c.host.inside.inbox.entries = c.consume_arrival.ensures in
    rw (made, inbox) (answered c.args.line c.args.fresh c.in-Some.m.now c.args.host.now c.host.inside.body
    c.host.inside.made.entries c.host.inside.wire.entries c.host.inside.inbox.entries c.host.view_is
    (ap (λ (h : Host_). waiting c.args.line h.inbox) (sym c.host.view_is)
    ∙ (sym c.waiting.ensures ∙ ap (λ (o : Option (Bor Emission)). option_copied o) c.in-Some.is)))
