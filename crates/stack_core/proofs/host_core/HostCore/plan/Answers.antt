use Rattle.std.proofs.Common.{ap, ◌∙◌, subst, sym, List}
use Rattle.spec_tcp.specs.declared.endpoint.Endpoint.{Endpoint}
use Rattle.spec_tcp.specs.Forgetting.{forget}
use Rattle.stack_core.specs.Tended.{AreQuiet}
use Rattle.stack_core.proofs.TendedLemmas.{kept_ends_there}
use Rattle.stack_core.specs.Cores.{Core, world}
use Rattle.stack_core.proofs.MakingLemmas.{none_whole, plan_whole}
use Rattle.stack_core.proofs.host_core.HostCore.plan.Goals as goal

pub returns-clause-some : goal.returns-clause-some
returns-clause-some c = plan_whole c.forgetting_is_free.ensures c.world.result.now c.args.self.now.recorded c.me.result
    (c.world.ensures.header ∙ ap (λ (k : Core). k.recorded.header) c.self.view_is)
    (c.world.ensures.world ∙ ap (λ (k : Core). forget (world k)) c.self.view_is)
    (c.me.ensures ∙ ap (λ (k : Core). k.recorded.me) c.self.view_is) c.find_plan.result c.find_plan.ensures.some

pub returns-clause-none : goal.returns-clause-none
returns-clause-none c = none_whole c.forgetting_is_free.ensures c.world.result.now c.args.self.now.recorded c.me.result
    (c.world.ensures.header ∙ ap (λ (k : Core). k.recorded.header) c.self.view_is)
    (c.world.ensures.world ∙ ap (λ (k : Core). forget (world k)) c.self.view_is)
    (c.me.ensures ∙ ap (λ (k : Core). k.recorded.me) c.self.view_is) c.find_plan.result c.find_plan.ensures.none

pub find_plan-requires-clause-quiet : goal.find_plan-requires-clause-quiet
find_plan-requires-clause-quiet c = subst (λ (es : List Endpoint). AreQuiet c.self.inside.ready.looked c.self.inside.ready.entries.keys es)
    (sym (kept_ends_there c.self.inside.recording c.world.result.now c.me.result c.world.ensures.world c.me.ensures)) c.self.invariant.2.quiet

pub invariant_of-self : goal.invariant_of-self
invariant_of-self c = (
  c.self.invariant.0,
  c.self.invariant.1,
  record {
    quiet = subst (λ (es : List Endpoint). AreQuiet c.find_plan.new.ready.looked c.find_plan.new.ready.entries.keys es)
        (kept_ends_there c.self.inside.recording c.world.result.now c.me.result c.world.ensures.world c.me.ensures) c.find_plan.ensures.quiet;
    timed = c.self.invariant.2.timed;
  },
)
