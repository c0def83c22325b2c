use Rattle.line_fields.proofs.PrintLanes.{pairs_are}
use Rattle.line_fields.proofs.hex_digits.block_digits.Goals as goal

pub returns-clause-printed : goal.returns-clause-printed
returns-clause-printed c =
    let first = c.digits_of-first in
    let second = c.digits_of-second in
    pairs_are c.args.bytes first.result second.result c.fits-bytes.0 c.fits-bytes.1 first.ensures.len first.ensures.digits second.ensures.digits
