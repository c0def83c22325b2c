use Rattle.std.proofs.Common.{rules, ◌≡◌}
use Rattle.trace_reader.proofs.PlainLaw.{line_is}
use Rattle.trace_reader.proofs.plain.plain_line.Goals as goal

pub returns-clause-line : goal.returns-clause-line
returns-clause-line c = λ bytes spelled.
    let stop : c.in_ok-stop.stop ≡ c.in-Ok.fields.stop = search rules in
    line_is c.args.version c.args.before c.args.number c.in_ok-stop.stop c.in_ok-moment.moment c.in_ok-thread.field-0
    c.in_ok-read.read.event c.in_ok-read.read.digits.now bytes c.args.raw.now c.in-Ok.fields _ _
    c.in-Ok.ensures stop c.in_ok-moment.ensures.taken c.in_ok-thread.ensures.taken c.in_ok-read.ensures spelled
