use Rattle.std.proofs.Common.{arith}
use Rattle.line_fields.proofs.FirstField.{spelled_number}
use Rattle.line_fields.proofs.fields.Fields.number.Goals as goal

pub returns-in-Some-clause-value : goal.returns-in-Some-clause-value
returns-in-Some-clause-value c =
    spelled_number c.args.least c.args.most c.in-Some.n _ _ c.in-Some.ensures.taken (omega arith) c.in-Some.ensures.range.0 c.in-Some.ensures.range.1
