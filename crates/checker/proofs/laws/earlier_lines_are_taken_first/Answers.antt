use Rattle.interval_order.proofs.PlacedFrom.{precedes_stands_before}
use Rattle.checker.specs.Seen.{moves}
use Rattle.checker.proofs.laws.earlier_lines_are_taken_first.Goals as goal

pub returns : goal.returns
returns c = λ t w e. precedes_stands_before t.header t.lines (moves w.steps) e.placed
