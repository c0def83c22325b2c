use Rattle.std.proofs.Common.{refl, sym, ◌+◌, ◌∙◌, ap, nat_eq}
use Rattle.indexmap.specs.IndexMap.{insert_entry}
use Rattle.case_forms.specs.declared.calls.Answer.{Answer}
use Rattle.spec_network.specs.Hosts.{Effect, Answered, turn_of}
use Rattle.spec_network.specs.HostRules.{aim_of, is_answered, is_idle, step_rules}
use Rattle.verdict.specs.Rules.{first_broken}
use Rattle.spec_tcp.specs.Machine.{tcp, aim}
use Rattle.std.specs.Prelude.{Err}
use Rattle.std.proofs.lemmas.Result.{err_from_is_err_and}
use Rattle.endpoint_state.specs.Faults.{fault_rule}
use Rattle.endpoint_state.specs.Worlds.{Progress}
use Rattle.endpoint_state.specs.Sides.{AreReady}
use Rattle.endpoint_state.proofs.Progresses.{shown, kept_next, are_ready}
use Rattle.endpoint_state.proofs.CallLemmas.{had_effect, called_is_permitted, refused_open}
use Rattle.endpoint_state.proofs.world.World.effect.Goals as goal

pub invariant_of-self-2 : goal.invariant_of-self-2
invariant_of-self-2 c =
    let p : Progress = shown c.self.inside.header c.self.inside.hosts c.self.inside.threads.entries c.self.inside.count c.self.inside.steps in
    let q : Progress = shown c.self.inside.header c.have_effect.new.hosts c.set_answer.new.threads.entries c.self.inside.count (c.self.inside.steps + 1) in
    let room : AreReady c.self.inside.hosts =
    are_ready c.args.self.now c.self.inside.hosts c.self.inside.threads.entries c.self.inside.header
    c.self.inside.count c.self.inside.steps c.self.view_is c.requires c.self.invariant in
    kept_next p q 0 (Effect c.args.thread c.args.answer.now)
    (had_effect p c.self.inside.header c.self.inside.hosts c.have_effect.new.hosts c.self.inside.threads.entries
    c.set_answer.new.threads.entries c.self.inside.count c.self.inside.steps c.args.thread c.in_ok-call.call.now
    c.args.answer.now
    (aim_of (tcp c.self.inside.header) c.self.inside.hosts (aim c.in_ok-call.call.now)) room refl c.in_ok-call.ensures.call refl c.in_ok-have_effect.ensures.ok
    (c.in-Ok.ensures.ok ∙ ap
    (λ (a : Answer). insert_entry nat_eq c.self.inside.threads.entries c.args.thread (Answered a))
    c.in_ok-given.ensures.same))
    c.in_ok-given.ensures.small
    (called_is_permitted c.self.inside.header p.world c.args.thread c.in_ok-call.call.now c.args.answer.now c.in_ok-call.ensures.call
    (sym c.in_ok-host.ensures.rule))
    c.self.invariant

pub returns-in_err-call-clause-fault : goal.returns-in_err-call-clause-fault
returns-in_err-call-clause-fault c =
    let p = err_from_is_err_and c.from_residual.result c.from_residual.ensures.1 in
    ap fault_rule (p.1 ∙ ap (λ f. Err f) p.2)
    ∙ refused_open (is_idle (turn_of c.args.thread c.self.inside.threads.entries))
    (is_answered (turn_of c.args.thread c.self.inside.threads.entries)) c.in_err-call.field-0.0 _ c.in_err-call.ensures.rule
    ∙ ap (λ (p : Progress). first_broken (step_rules (tcp p.header) 0 p.world (Effect c.args.thread c.args.answer.now)))
    c.self.view_is
