use Rattle.std.proofs.Common.{ℕ, Option, ◌∙◌, ap}
use Rattle.spec_duties.specs.Answering.{answer_due}
use Rattle.spec_duties.specs.Deadlines.{is_late}
use Rattle.watched.proofs.case_end.is_unanswered_late.Goals as goal

pub returns : goal.returns
returns c =
    c.is_late.ensures
    ∙ ap (λ (due : Option ℕ). is_late c.args.at.slack c.args.at.moment due)
    (c.answer_due-due.ensures ∙ ap (λ (since : Option ℕ). answer_due since) (c.owed_at_end.ensures c.args.at.header.now))
