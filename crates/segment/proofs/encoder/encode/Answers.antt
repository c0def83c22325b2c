use Rattle.segment.proofs.Again.{is_again}
use Rattle.segment.proofs.encoder.encode.Goals as goal

pub returns-clause-again : goal.returns-clause-again
returns-clause-again c = is_again c.args.s.now c.write.result c.write.ensures.bytes c.write.ensures.too_long c.write.ensures.fits
