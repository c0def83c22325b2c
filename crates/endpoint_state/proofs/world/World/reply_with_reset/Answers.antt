use Rattle.std.proofs.Common.{[], refl, sym, ap, ◌+◌, ◌∙◌}
use Rattle.spec_network.specs.Tables.{with_host}
use Rattle.spec_network.specs.Hosts.{At, Answers}
use Rattle.verdict.specs.Rules.{first_broken}
use Rattle.spec_network.specs.HostRules.{host_step_rules}
use Rattle.spec_tcp.specs.Machine.{tcp}
use Rattle.std.specs.Prelude.{Err}
use Rattle.std.proofs.lemmas.Result.{err_from_is_err_and}
use Rattle.spec_network.specs.HostRules.{step_rules}
use Rattle.endpoint_state.specs.Faults.{fault_rule}
use Rattle.endpoint_state.specs.Kinds.{answered_one}
use Rattle.endpoint_state.specs.Sides.{AreReady}
use Rattle.endpoint_state.specs.Worlds.{Progress}
use Rattle.endpoint_state.proofs.KeptHostSteps.{Host_}
use Rattle.endpoint_state.proofs.KindLemmas.{answered_hosts}
use Rattle.endpoint_state.proofs.Progresses.{are_ready, done_at, kept_next, shown}
use Rattle.endpoint_state.proofs.world.World.reply_with_reset.Goals as goal

pub invariant_of-self-2 : goal.invariant_of-self-2
invariant_of-self-2 c =
    let room : AreReady c.self.inside.hosts =
    are_ready c.args.self.now c.self.inside.hosts c.self.inside.threads.entries c.self.inside.header
    c.self.inside.count c.self.inside.steps c.self.view_is c.requires c.self.invariant in
    let p : Progress = shown c.self.inside.header c.self.inside.hosts c.self.inside.threads.entries c.self.inside.count c.self.inside.steps in
    let q : Progress =
    shown c.self.inside.header (with_host c.self.inside.hosts c.args.host c.reply_with_reset.new.host)
    c.self.inside.threads.entries (c.self.inside.count + 1) (c.self.inside.steps + 1) in
    kept_next p q 0 (At c.args.host (Answers c.args.line))
    (done_at p c.self.inside.header c.self.inside.hosts
    (with_host c.self.inside.hosts c.args.host c.reply_with_reset.new.host) c.self.inside.threads.entries
    c.self.inside.count (c.self.inside.count + 1) c.self.inside.steps 0 c.args.host (Answers c.args.line) refl
    (ap (λ (x : Host_). with_host c.self.inside.hosts c.args.host x)
    (c.in_ok-reply_with_reset.ensures.ok
    ∙ ap (λ (x : Host_). answered_one c.args.line (c.self.inside.count + 1) x) c.side.ensures.value)
    ∙ answered_hosts c.self.inside.header 0
    (c.self.inside.count + 1) c.args.line c.self.inside.hosts c.args.host room) refl)
    tt
    (sym (c.in_ok-reply_with_reset.ensures.fault
    ∙ ap (λ (h : Host_). first_broken
    (host_step_rules (tcp c.self.inside.header) c.args.host 0 [] h (Answers c.args.line))) c.side.ensures.value))
    c.self.invariant

pub returns-clause-ok : goal.returns-clause-ok
returns-clause-ok c =
    let room : AreReady c.self.inside.hosts =
    are_ready c.args.self.now c.self.inside.hosts c.self.inside.threads.entries c.self.inside.header
    c.self.inside.count c.self.inside.steps c.self.view_is c.requires c.self.invariant in
    done_at c.args.self.now c.self.inside.header c.self.inside.hosts
    (with_host c.self.inside.hosts c.args.host c.reply_with_reset.new.host) c.self.inside.threads.entries
    c.self.inside.count (c.self.inside.count + 1) c.self.inside.steps 0 c.args.host
    (Answers c.args.line) c.self.view_is
    (ap (λ (x : Host_). with_host c.self.inside.hosts c.args.host x)
    (c.in_ok-reply_with_reset.ensures.ok
    ∙ ap (λ (x : Host_). answered_one c.args.line (c.self.inside.count + 1) x) c.side.ensures.value)
    ∙ answered_hosts c.self.inside.header 0
    (c.self.inside.count + 1) c.args.line c.self.inside.hosts c.args.host room) refl

pub returns-in_err-reply_with_reset-clause-fault : goal.returns-in_err-reply_with_reset-clause-fault
returns-in_err-reply_with_reset-clause-fault c =
    let p = err_from_is_err_and c.from_residual.result c.from_residual.ensures.1 in
    ap fault_rule (p.1 ∙ ap (λ f. Err f) p.2)
    ∙ c.in_err-reply_with_reset.ensures.fault
    ∙ ap (λ (h : Host_). first_broken (host_step_rules (tcp c.self.inside.header) c.args.host 0 [] h (Answers c.args.line)))
    c.side.ensures.value
    ∙ ap (λ (p : Progress). first_broken (step_rules (tcp p.header) 0 p.world (At c.args.host (Answers c.args.line))))
    c.self.view_is
