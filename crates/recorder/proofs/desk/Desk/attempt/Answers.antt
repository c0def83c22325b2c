use Rattle.std.proofs.Common.{◌∙◌}
use Rattle.recorder.proofs.desk.Desk.attempt.Goals as goal

pub invariant_of-self-in-None : goal.invariant_of-self-in-None
invariant_of-self-in-None g c = record {
  counted = (rw c.in-None.is at c.in-Ok.ensures.none) ∙ c.args.self.now.counted;
  parts = c.args.self.now.parts;
  idle = c.args.self.now.idle;
  fits = c.args.self.now.fits;
}
