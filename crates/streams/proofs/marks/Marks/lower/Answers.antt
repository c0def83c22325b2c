use Rattle.std.proofs.Common.{arith}
use Rattle.std.proofs.Math.Nat.{le_refl}
use Rattle.streams.proofs.MarkLemmas.{ranges_low}
use Rattle.streams.proofs.marks.Marks.lower.Goals as goal

pub returns-clause-below : goal.returns-clause-below
returns-clause-below c end h = (
  ranges_low c.add_range.new.ranges.entries 0 c.args.self.now.floor end (omega arith)
      (c.add_range.ensures.below c.args.self.now.floor end (le_refl c.args.self.now.floor) h.1 h.0),
  omega arith,
)
