use Rattle.std.proofs.Common.{ℕ, Option, None, ◌∙◌, ap, sym}
use Rattle.spec_network.specs.Tables.{on}
use Rattle.spec_duties.specs.Answering.{ready_for, unanswered_since}
use Rattle.spec_duties.specs.declared.answering.OpenCall.TheVariants as open_call
use Rattle.spec_duties.specs.declared.answering.Waiting.{Waiting}
use Rattle.watched.proofs.case_end.waits_since.Goals as goal

pub returns-in-Some : goal.returns-in-Some
returns-in-Some c = λ h.
    c.unanswered_since.ensures
    ∙ ap (λ (ready : Option ℕ). unanswered_since ready (open_call.Waits c.args.since c.args.socket c.args.awaited)) c.ready_for.ensures
    ∙ ap (λ (o : Option Waiting). on o None (λ x. unanswered_since (ready_for c.args.duties.now.waits x)
    (open_call.Waits c.args.since c.args.socket c.args.awaited))) (sym c.in-Some.is ∙ c.waiting_on.ensures h)

pub returns-in-None : goal.returns-in-None
returns-in-None c = λ h.
    ap (λ (o : Option Waiting). on o None (λ x. unanswered_since (ready_for c.args.duties.now.waits x)
    (open_call.Waits c.args.since c.args.socket c.args.awaited))) (sym c.in-None.is ∙ c.waiting_on.ensures h)
