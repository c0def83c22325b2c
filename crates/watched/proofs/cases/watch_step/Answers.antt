use Rattle.std.proofs.Common.{◌≡◌, None, ap, ◌∙◌}
use Rattle.case_forms.specs.declared.trace.Header.{Header}
use Rattle.verdict.specs.Rules.{first_broken}
use Rattle.spec_network.specs.HostRules.{step_rules}
use Rattle.spec_tcp.specs.Machine.{tcp}
use Rattle.spec_duties.specs.declared.views.View.{View}
use Rattle.spec_flights.specs.Flights.{flights_after}
use Rattle.endpoint_state.specs.Worlds.{after}
use Rattle.watched.proofs.CaseLemmas.{done_does, done_is, told_view, step_is, step_admits, step_breaks, model_refuses}
use Rattle.watched.proofs.cases.watch_step.Goals as goal

pub watch-requires : goal.watch-requires
watch-requires g c =
    c.view_in-after.ensures
    ∙ told_view c.args.world.now c.args.flights.now c.args.duties.now c.args.moment (g.S.ModelStep.step c.args.step)
    c.args.seen.now c.args.flown.shown.now c.apply.new.world.world c.requires.seen c.requires.shown

pub returns-in_ok-note-in-Ok-clause-ok : goal.returns-in_ok-note-in-Ok-clause-ok
returns-in_ok-note-in-Ok-clause-ok g c =
    step_is c.args.world.now c.args.flights.now c.args.duties.now c.args.moment (g.S.ModelStep.step c.args.step)
    c.watch.result c.apply.new.world c.args.seen.now c.args.flown.shown.now c.note.new.self c.watch.new.duties
    (done_does c.args.flown.refusal c.apply.result c.with_refusal.result c.in-Ok.field-0 c.with_refusal.ensures c.in-Ok.is
    (c.apply.new.world ≡ after c.args.world.now c.args.moment (g.S.ModelStep.step c.args.step)) c.apply.ensures.ok)
    c.requires.seen c.requires.shown
    (c.in_ok-note-in-Ok.ensures
    ∙ ap (λ (h : Header). flights_after h c.args.moment c.view_in-after.result c.args.seen.now c.args.flights.now) c.header.ensures
    ∙ ap (λ (v : View). flights_after c.apply.new.world.header c.args.moment v c.args.seen.now c.args.flights.now) c.view_in-after.ensures)
    c.watch.ensures.ok

pub returns-in_ok-note-in-Ok-clause-admitted : goal.returns-in_ok-note-in-Ok-clause-admitted
returns-in_ok-note-in-Ok-clause-admitted g c =
    step_admits c.args.world.now c.args.flights.now c.args.duties.now c.args.moment (g.S.ModelStep.step c.args.step)
    c.watch.result c.apply.new.world c.args.flown.untrue c.args.flown.shown.now c.args.flown.refusal c.requires.untrue c.requires.refused
    (done_is c.args.flown.refusal c.apply.result c.with_refusal.result c.in-Ok.field-0 c.with_refusal.ensures c.in-Ok.is).0
    (done_does c.args.flown.refusal c.apply.result c.with_refusal.result c.in-Ok.field-0 c.with_refusal.ensures c.in-Ok.is
    (first_broken (step_rules (tcp c.args.world.now.header) c.args.moment c.args.world.now.world (g.S.ModelStep.step c.args.step)) ≡ None)
    c.apply.ensures.admitted)
    (done_does c.args.flown.refusal c.apply.result c.with_refusal.result c.in-Ok.field-0 c.with_refusal.ensures c.in-Ok.is
    (c.apply.new.world ≡ after c.args.world.now c.args.moment (g.S.ModelStep.step c.args.step)) c.apply.ensures.ok)
    c.requires.shown c.watch.ensures.admitted

pub returns-in_ok-note-in-Ok-clause-broken : goal.returns-in_ok-note-in-Ok-clause-broken
returns-in_ok-note-in-Ok-clause-broken g c =
    step_breaks c.args.world.now c.args.flights.now c.args.duties.now c.args.moment (g.S.ModelStep.step c.args.step)
    c.watch.result c.apply.new.world c.args.flown.untrue c.args.flown.shown.now c.args.flown.refusal c.requires.untrue c.requires.refused
    (done_is c.args.flown.refusal c.apply.result c.with_refusal.result c.in-Ok.field-0 c.with_refusal.ensures c.in-Ok.is).0
    (done_does c.args.flown.refusal c.apply.result c.with_refusal.result c.in-Ok.field-0 c.with_refusal.ensures c.in-Ok.is
    (first_broken (step_rules (tcp c.args.world.now.header) c.args.moment c.args.world.now.world (g.S.ModelStep.step c.args.step)) ≡ None)
    c.apply.ensures.admitted)
    (done_does c.args.flown.refusal c.apply.result c.with_refusal.result c.in-Ok.field-0 c.with_refusal.ensures c.in-Ok.is
    (c.apply.new.world ≡ after c.args.world.now c.args.moment (g.S.ModelStep.step c.args.step)) c.apply.ensures.ok)
    c.requires.shown c.watch.ensures.broken

pub returns-in-Err-clause-broken : goal.returns-in-Err-clause-broken
returns-in-Err-clause-broken g c =
    model_refuses c.args.world.now c.args.flights.now c.args.duties.now c.args.moment (g.S.ModelStep.step c.args.step)
    c.args.flown.refusal c.apply.result c.with_refusal.result c.in-Err.fault c.requires.refused c.apply.ensures.admitted c.apply.ensures.broken
    c.with_refusal.ensures c.in-Err.is
