use Rattle.std.proofs.Common.{refl, ◌∙◌}
use Rattle.trace_reader.specs.declared.events.Letter.TheVariants as letters
use Rattle.trace_reader.proofs.PlainLaw.{any_version, event_is}
use Rattle.trace_reader.proofs.plain.plain_event.Goals as goal

pub returns-then-plain_letter : goal.returns-then-plain_letter
returns-then-plain_letter c = event_is c.args.version letters.B _ _ _ c.plain_call.result refl (c.if-plain_letter.ensures.taken refl) c.plain_call.ensures

pub returns-then-plain_letter-2 : goal.returns-then-plain_letter-2
returns-then-plain_letter-2 c =
    event_is c.args.version letters.E _ _ _ c.plain_answer.result (c.if-plain_letter.ensures.left refl) (c.if-plain_letter-2.ensures.taken refl)
    (any_version c.args.version _ c.plain_answer.result c.plain_answer.ensures)

pub returns-then-plain_letter-3 : goal.returns-then-plain_letter-3
returns-then-plain_letter-3 c =
    event_is c.args.version letters.O _ _ _ c.plain_sent.result (c.if-plain_letter-2.ensures.left refl ∙ c.if-plain_letter.ensures.left refl)
    (c.if-plain_letter-3.ensures.taken refl) c.plain_sent.ensures

pub returns-then-plain_letter-4 : goal.returns-then-plain_letter-4
returns-then-plain_letter-4 c =
    event_is c.args.version letters.I _ _ _ c.plain_came.result
    (c.if-plain_letter-3.ensures.left refl ∙ c.if-plain_letter-2.ensures.left refl ∙ c.if-plain_letter.ensures.left refl)
    (c.if-plain_letter-4.ensures.taken refl) c.plain_came.ensures
