use Rattle.std.proofs.Common.{arith}
use Rattle.line_fields.proofs.DigitLemmas.{in_table, at_most}
use Rattle.line_fields.proofs.digits.digit.Goals as goal

pub returns-clause-value : goal.returns-clause-value
returns-clause-value c = in_table c.args.byte (omega arith)

pub returns-clause-most : goal.returns-clause-most
returns-clause-most c = at_most c.args.byte (omega arith)
