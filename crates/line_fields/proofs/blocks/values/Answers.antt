use Rattle.line_fields.proofs.Lanes.{values_are, values_len}
use Rattle.line_fields.proofs.blocks.values.Goals as goal

pub returns-clause-len : goal.returns-clause-len
returns-clause-len c = values_len c.args.digits c.fits-digits.0

pub returns-clause-values : goal.returns-clause-values
returns-clause-values c = values_are c.args.digits c.fits-digits.0 c.fits-digits.1
