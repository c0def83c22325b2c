use Rattle.std.proofs.Common.{◌∙◌, ap, Some}
use Rattle.trace_reader.proofs.PlainLaw.{call_alone, send_is}
use Rattle.trace_reader.proofs.plain.plain_call.Goals as goal

pub returns-in-Send : goal.returns-in-Send
returns-in-Send c =
    send_is c.args.version c.in_ok-plain_word.field-0.now c.in_ok-digits.digits.now c.in_ok-socket.field-0 _ _ _ c.in_ok-plain_word.ensures.taken
    (c.in_ok-word.ensures ∙ ap (λ w. Some w) c.in-Send.is) c.in_ok-socket.ensures.taken c.in_ok-digits.ensures.ends c.in_ok-digits.ensures.most

pub returns : goal.returns
returns c =
    call_alone c.args.version c.in_ok-word.word c.in_ok-plain_word.field-0.now _ c.in_ok-event.event _ _ _ c.in_ok-plain_word.ensures.taken
    (c.in_ok-word.ensures) c.in_ok-event.ensures.read (c.is_empty.ensures.0 c.if-not-is_empty.false)
