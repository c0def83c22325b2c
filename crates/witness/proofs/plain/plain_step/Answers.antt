use Rattle.std.proofs.Common.{refl, ◌∙◌}
use Rattle.case_forms.specs.declared.steps.Label.TheVariants.{L, D, M, T}
use Rattle.witness.specs.declared.labels.LabelWord.TheVariants as words
use Rattle.witness.proofs.PlainLaw.{step_is, effect_is, after}
use Rattle.witness.proofs.plain.plain_step.Goals as goal

pub returns-then-plain_letter : goal.returns-then-plain_letter
returns-then-plain_letter c =
    rw c.put.ensures (step_is c.args.version c.args.number c.in_ok-moment.moment c.stop.result c.args.raw.now
    words.Line (L c.in_ok-named.named) c.in-Ok.fields _ _ _
    tt c.in-Ok.ensures c.in_ok-moment.ensures.taken
    (c.if-plain_letter.ensures.taken refl) c.in_ok-named.ensures c.in_ok-expect_end.ensures c.stop.ensures)

pub returns-then-plain_letter-2 : goal.returns-then-plain_letter-2
returns-then-plain_letter-2 c =
    let ended =
    effect_is c.in_ok-thread.field-0 c.in_ok-answer.answer c.in_ok-rest.field-0.now _ _
    c.in_ok-thread.ensures.taken c.in_ok-rest.ensures c.in_ok-answer.ensures in
    rw c.put-then-plain_letter-2.ensures (step_is c.args.version c.args.number c.in_ok-moment.moment c.stop.result c.args.raw.now
    words.Effect (D c.in_ok-thread.field-0 c.in_ok-answer.answer) c.in-Ok.fields _ _ _
    tt c.in-Ok.ensures c.in_ok-moment.ensures.taken
    (after (c.if-plain_letter.ensures.left refl) (c.if-plain_letter-2.ensures.taken refl))
    ended.1 ended.2 c.stop.ensures)

pub returns-then-plain_letter-3 : goal.returns-then-plain_letter-3
returns-then-plain_letter-3 c =
    rw c.put-then-plain_letter-3.ensures (step_is c.args.version c.args.number c.in_ok-moment.moment c.stop.result c.args.raw.now
    words.Taking (T c.in_ok-host.host c.in_ok-host.line c.in_ok-host.choice) c.in-Ok.fields _ _ _
    tt c.in-Ok.ensures c.in_ok-moment.ensures.taken
    (after (c.if-plain_letter-2.ensures.left refl ∙ c.if-plain_letter.ensures.left refl) (c.if-plain_letter-3.ensures.taken refl))
    c.in_ok-host.ensures c.in_ok-expect_end-2.ensures c.stop.ensures)

pub returns-then-plain_letter-4 : goal.returns-then-plain_letter-4
returns-then-plain_letter-4 c =
    rw c.put-then-plain_letter-4.ensures (step_is c.args.version c.args.number c.in_ok-moment.moment c.stop.result c.args.raw.now
    words.Making (M c.in_ok-host-2.host c.in_ok-host-2.plan) c.in-Ok.fields _ _ _
    tt c.in-Ok.ensures c.in_ok-moment.ensures.taken
    (after
    (c.if-plain_letter-3.ensures.left refl ∙ c.if-plain_letter-2.ensures.left refl ∙ c.if-plain_letter.ensures.left refl)
    (c.if-plain_letter-4.ensures.taken refl))
    c.in_ok-host-2.ensures.label c.in_ok-host-2.ensures.end c.stop.ensures)
