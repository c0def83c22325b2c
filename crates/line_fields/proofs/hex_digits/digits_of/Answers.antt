use Rattle.line_fields.proofs.PrintLanes.{digits_are, printed_len}
use Rattle.line_fields.proofs.hex_digits.digits_of.Goals as goal

pub returns-clause-len : goal.returns-clause-len
returns-clause-len c = printed_len c.args.values c.fits-values.0

pub returns-clause-digits : goal.returns-clause-digits
returns-clause-digits c = digits_are c.args.values c.fits-values.0
