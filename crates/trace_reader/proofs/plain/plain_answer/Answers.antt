use Rattle.std.proofs.Common.{◌∙◌, ap, Some}
use Rattle.trace_reader.proofs.PlainLaw.{answer_alone, data_is}
use Rattle.trace_reader.proofs.plain.plain_answer.Goals as goal

pub returns-in-Data : goal.returns-in-Data
returns-in-Data c = λ v.
    data_is v c.in_ok-plain_word.field-0.now c.in_ok-digits.digits.now _ _ c.in_ok-plain_word.ensures.taken
    (c.in_ok-word.ensures ∙ ap (λ w. Some w) c.in-Data.is) c.in_ok-digits.ensures.ends c.in_ok-digits.ensures.most

pub returns : goal.returns
returns c = λ v.
    answer_alone v c.in_ok-word.word c.in_ok-plain_word.field-0.now _ c.in_ok-event.event _ _ _ c.in_ok-plain_word.ensures.taken
    (c.in_ok-word.ensures) c.in_ok-event.ensures.read (c.is_empty.ensures.0 c.if-not-is_empty.false)
