use Rattle.std.proofs.Common.{◌∙◌, ap, sym}
use Rattle.spec_duties.specs.Answering.{answered_since, owed_at_end}
use Rattle.spec_duties.specs.declared.answering.OpenCall.{OpenCall}
use Rattle.watched.proofs.case_end.owed_at_end.Goals as goal

pub returns-in-Waits : goal.returns-in-Waits
returns-in-Waits c = λ h.
    c.waits_since.ensures h ∙ ap (λ (call : OpenCall). owed_at_end h c.args.world.now.world c.args.duties.now.waits call) (sym c.in-Waits.is)

pub returns-in-Answered : goal.returns-in-Answered
returns-in-Answered c = λ h.
    c.answered_since.ensures
    ∙ ap (λ (call : OpenCall). answered_since c.args.duties.now.waits call) c.in-Answered.is
    ∙ ap (λ (call : OpenCall). owed_at_end h c.args.world.now.world c.args.duties.now.waits call) (sym c.in-Answered.is)
