use Rattle.std.proofs.Common.{◌≡◌, None, Some, refl, sym, ap, subst, ◌+◌, ◌∙◌, nat_eq}
use Rattle.indexmap.specs.IndexMap.{insert_entry}
use Rattle.verdict.specs.Rules.{first_broken}
use Rattle.spec_network.specs.Tables.{with_host}
use Rattle.spec_network.specs.Hosts.{At, Hears}
use Rattle.spec_tcp.specs.declared.endpoint.Emission.{Emission}
use Rattle.endpoint_state.specs.Kinds.{heard_one, hearing_rules}
use Rattle.endpoint_state.specs.Sides.{AreReady}
use Rattle.endpoint_state.specs.Worlds.{Progress}
use Rattle.endpoint_state.proofs.KeptHostSteps.{Host_}
use Rattle.endpoint_state.proofs.KindLemmas.{heard_hosts}
use Rattle.endpoint_state.proofs.Progresses.{are_ready, done_at, kept_next, shown}
use Rattle.endpoint_state.proofs.world.World.hear.Goals as goal

pub invariant_of-self-2 : goal.invariant_of-self-2
invariant_of-self-2 c =
    let room : AreReady c.self.inside.hosts =
    are_ready c.args.self.now c.self.inside.hosts c.self.inside.threads.entries c.self.inside.header
    c.self.inside.count c.self.inside.steps c.self.view_is c.requires c.self.invariant in
    let p : Progress = shown c.self.inside.header c.self.inside.hosts c.self.inside.threads.entries c.self.inside.count c.self.inside.steps in
    let q : Progress =
    shown c.self.inside.header (with_host c.self.inside.hosts c.args.host c.arrive.new.host)
    c.self.inside.threads.entries c.self.inside.count (c.self.inside.steps + 1) in
    kept_next p q c.args.moment (At c.args.host (Hears c.args.line c.args.wire.now))
    (done_at p c.self.inside.header c.self.inside.hosts
    (with_host c.self.inside.hosts c.args.host c.arrive.new.host) c.self.inside.threads.entries
    c.self.inside.count c.self.inside.count c.self.inside.steps c.args.moment c.args.host
    (Hears c.args.line c.args.wire.now) refl
    (ap (λ (x : Host_). with_host c.self.inside.hosts c.args.host x)
    (c.in_ok-arrive.ensures.ok ∙ (ap
    (λ (m : Emission). let k : Host_ =
    record c.side.result.now { inbox = insert_entry nat_eq c.side.result.now.inbox c.args.line (Some m) } in
    k) c.in_ok-heard.ensures.heard
    ∙ ap (λ (h : Host_). heard_one c.args.moment c.args.line c.args.wire.now h) c.side.ensures.value))
    ∙ heard_hosts c.self.inside.header c.args.moment (c.self.inside.count + 1) c.args.line c.args.wire.now c.self.inside.hosts c.args.host room) refl)
    tt
    (subst (λ (p : Progress). first_broken (hearing_rules p.header) ≡ None) (sym c.self.view_is) (sym c.in_ok-admits_hearing.ensures))
    c.self.invariant

pub returns-clause-ok : goal.returns-clause-ok
returns-clause-ok c =
    let room : AreReady c.self.inside.hosts =
    are_ready c.args.self.now c.self.inside.hosts c.self.inside.threads.entries c.self.inside.header
    c.self.inside.count c.self.inside.steps c.self.view_is c.requires c.self.invariant in
    done_at c.args.self.now c.self.inside.header c.self.inside.hosts
    (with_host c.self.inside.hosts c.args.host c.arrive.new.host) c.self.inside.threads.entries
    c.self.inside.count c.self.inside.count c.self.inside.steps c.args.moment c.args.host
    (Hears c.args.line c.args.wire.now) c.self.view_is
    (ap (λ (x : Host_). with_host c.self.inside.hosts c.args.host x)
    (c.in_ok-arrive.ensures.ok ∙ (ap
    (λ (m : Emission). let k : Host_ =
    record c.side.result.now { inbox = insert_entry nat_eq c.side.result.now.inbox c.args.line (Some m) } in
    k) c.in_ok-heard.ensures.heard
    ∙ ap (λ (h : Host_). heard_one c.args.moment c.args.line c.args.wire.now h) c.side.ensures.value))
    ∙ heard_hosts c.self.inside.header c.args.moment (c.self.inside.count + 1) c.args.line c.args.wire.now c.self.inside.hosts c.args.host room) refl
