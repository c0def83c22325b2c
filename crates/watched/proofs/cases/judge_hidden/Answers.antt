use Rattle.std.proofs.Common.{◌∙◌, ap}
use Rattle.case_forms.specs.declared.trace.Header.{Header}
use Rattle.spec_duties.specs.declared.observations.Observation.{Observation}
use Rattle.spec_flights.specs.Flights.{excused}
use Rattle.watched.specs.Watched.{known_of}
use Rattle.watched.proofs.ExcuseLemmas.{hidden_sees, same_sees}
use Rattle.watched.proofs.cases.judge_hidden.Goals as goal

pub watch_step-requires-clause-shown : goal.watch_step-requires-clause-shown
watch_step-requires-clause-shown c =
    (λ i. (c.refused.ensures i).shown.now)
    ∙ hidden_sees c.args.world.now.header c.args.moment (known_of c.args.world.now c.args.flights.now c.args.duties.now) c.args.step.now _
    c.observe_effect-seen.result c.observe_effect-seen.ensures c.in-Effect.is tt

pub watch_step-requires-in-Build-clause-shown : goal.watch_step-requires-in-Build-clause-shown
watch_step-requires-in-Build-clause-shown c =
    (λ i. (c.refused-in-Build.ensures i).shown.now)
    ∙ hidden_sees c.args.world.now.header c.args.moment (known_of c.args.world.now c.args.flights.now c.args.duties.now) c.args.step.now _
    c.observe_making-seen.result c.observe_making-seen.ensures c.in-Build.is tt

pub watch_step-requires-in-Process-clause-shown : goal.watch_step-requires-in-Process-clause-shown
watch_step-requires-in-Process-clause-shown c =
    (λ i. (c.refused-in-Process.ensures i).shown.now)
    ∙ hidden_sees c.args.world.now.header c.args.moment (known_of c.args.world.now c.args.flights.now c.args.duties.now) c.args.step.now _
    c.observe_taking-seen.result c.observe_taking-seen.ensures c.in-Process.is tt

pub watch_step-requires-in-Recover-clause-shown : goal.watch_step-requires-in-Recover-clause-shown
watch_step-requires-in-Recover-clause-shown c =
    (λ i. (c.refused-in-Recover.ensures i).shown.now)
    ∙ same_sees c.args.world.now.header c.args.moment (known_of c.args.world.now c.args.flights.now c.args.duties.now) c.args.step.now _
    c.observe_hidden-seen.result c.observe_hidden-seen.ensures c.in-Recover.is tt

pub watch_step-requires-in-Drop-clause-shown : goal.watch_step-requires-in-Drop-clause-shown
watch_step-requires-in-Drop-clause-shown c =
    (λ i. (c.refused-in-Drop.ensures i).shown.now)
    ∙ c.excused-shown.ensures
    ∙ ap (λ (h : Header). excused h c.args.flights.now c.observe_hidden-seen-in-Drop.result) c.header-in-Drop.ensures
    ∙ ap (λ (s : Observation). excused c.args.world.now.header c.args.flights.now s) c.observe_hidden-seen-in-Drop.ensures

pub watch_step-requires-in-Reset-clause-shown : goal.watch_step-requires-in-Reset-clause-shown
watch_step-requires-in-Reset-clause-shown c =
    (λ i. (c.refused-in-Reset.ensures i).shown.now)
    ∙ same_sees c.args.world.now.header c.args.moment (known_of c.args.world.now c.args.flights.now c.args.duties.now) c.args.step.now _
    c.observe_hidden-seen-in-Reset.result c.observe_hidden-seen-in-Reset.ensures c.in-Reset.is tt
