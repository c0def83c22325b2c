use Rattle.std.proofs.Common.{◌∙◌, ap, sym}
use Rattle.spec_duties.specs.Answering.{answering}
use Rattle.watched.proofs.waiting.answering.Goals as goal

pub returns-in-Recv : goal.returns-in-Recv
returns-in-Recv c = λ h.
    c.answering_on.ensures h
    ∙ ap (λ call. answering h c.args.world.now.world c.args.thread c.args.answer.now call) (sym c.in-Recv.is)

pub returns-in-Await : goal.returns-in-Await
returns-in-Await c = λ h.
    c.answering_on-in-Await.ensures h
    ∙ ap (λ call. answering h c.args.world.now.world c.args.thread c.args.answer.now call) (sym c.in-Await.is)

pub returns-in-Accept : goal.returns-in-Accept
returns-in-Accept c = λ h.
    c.answering_on-in-Accept.ensures h
    ∙ ap (λ call. answering h c.args.world.now.world c.args.thread c.args.answer.now call) (sym c.in-Accept.is)
