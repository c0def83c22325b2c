use Rattle.std.proofs.Common.{arith}
use Rattle.line_fields.proofs.FirstField.{spelled_rising}
use Rattle.line_fields.proofs.fields.Fields.rising.Goals as goal

pub returns-in-Some : goal.returns-in-Some
returns-in-Some c =
    spelled_rising c.args.before c.args.most c.in-Some.n _ _ c.in-Some.ensures.taken (omega arith) c.in-Some.ensures.range.0 c.in-Some.ensures.range.1
