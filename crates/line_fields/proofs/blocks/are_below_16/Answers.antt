use Rattle.line_fields.proofs.Lanes.{tested_below}
use Rattle.line_fields.proofs.blocks.are_below_16.Goals as goal

pub returns : goal.returns
returns c = tested_below c.args.high c.args.low c.requires.0 c.requires.1
