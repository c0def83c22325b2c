use Rattle.std.proofs.Common.{◌≡◌, ℕ, ap, subst, ◌∙◌}
use Rattle.spec_network.specs.Hosts.{At, Makes}
use Rattle.stack_core.specs.Cores.{Core, event_begun, with_step, world}
use Rattle.stack_core.specs.Outgoing.{GoesOut}
use Rattle.stack_core.specs.PumpEvents.{made}
use Rattle.stack_core.specs.PumpEvents.IsPumped.{Answered, Made}
use Rattle.stack_core.proofs.host_core.HostCore.record_pump.Goals as goal

pub returns-in-Some-clause-some : goal.returns-in-Some-clause-some
returns-in-Some-clause-some c = Answered c.in-Some.number c.in-Some.ensures.some
    (subst (λ (x : Core). GoesOut x c.in-Some.number c.in_ok-flying.flying c.send.new.self)
    (c.begin_event.ensures.begun ∙ ap (λ (x : Core). event_begun x c.args.tick) c.reset_to_go.ensures.same)
    c.in_ok-flying.ensures.ok)

pub returns-clause-some : goal.returns-clause-some
returns-clause-some c =
    let plan = c.in-Some-plan.plan in
    let same : c.update_after_making.new.self ≡ made c.args.self.now c.args.tick plan =
    c.update_after_making.ensures ∙ c.spend_iss.ensures ∙ c.in_ok-make.ensures.ok
    ∙ ap (λ (x : Core). with_step x (At x.recorded.me (Makes plan)))
    (c.begin_event-2.ensures.begun ∙ ap (λ (x : Core). event_begun x c.args.tick)
    (c.plan.ensures.same ∙ c.reset_to_go.ensures.same)) in
    Made c.in_default.ensures.none plan (subst (λ (x : Core). GoesOut x (world x).count c.in_ok-flying-2.flying c.send-2.new.self) same
    (subst (λ (n : ℕ). GoesOut c.update_after_making.new.self n c.in_ok-flying-2.flying c.send-2.new.self) c.count-number.ensures c.in_ok-flying-2.ensures.ok))
