use Rattle.std.proofs.Common.{arith}
use Rattle.line_fields.proofs.FirstField.{taken_rising}
use Rattle.line_fields.proofs.fields.Fields.plain_rising.Goals as goal

pub returns-clause-taken : goal.returns-clause-taken
returns-clause-taken c = taken_rising c.args.before c.args.most _ _ c.plain.result c.plain.ensures.taken c.plain.ensures.range (omega arith)
