use Rattle.std.proofs.Common.{◌<◌, arith}
use Rattle.line_fields.proofs.LastFields.{alone}
use Rattle.line_fields.proofs.Columns.{ends_within}
use Rattle.line_fields.proofs.answers.last_count.Goals as goal

pub returns-clause-alone : goal.returns-clause-alone
returns-clause-alone c =
    let found = c.plain_number-value in
    let some : 0 < found.result.1 = omega arith in
    let place = found.ensures.place some in
    alone c.args.text.now (omega (arith, ends_within c.args.text.now))
