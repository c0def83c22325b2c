use Rattle.std.proofs.Common.{arith}
use Rattle.line_fields.proofs.FirstField.{taken_number}
use Rattle.line_fields.proofs.fields.Fields.plain_number.Goals as goal

pub returns-clause-taken : goal.returns-clause-taken
returns-clause-taken c = taken_number c.args.least c.args.most _ _ c.plain.result c.plain.ensures.taken c.plain.ensures.range (omega arith)
