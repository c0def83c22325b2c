use Rattle.trace_reader.proofs.PlainLaw.{sent_is}
use Rattle.trace_reader.proofs.plain.plain_sent.Goals as goal

pub returns : goal.returns
returns c = sent_is c.args.version c.in_ok-plain_host.field-0 c.in_ok-digits.digits.now _ _ c.in_ok-plain_host.ensures c.in_ok-digits.ensures
