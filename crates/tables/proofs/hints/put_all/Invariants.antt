use Rattle.std.proofs.Common.{take}
use Rattle.tables.specs.Hints.{AreHinted}
use Rattle.tables.proofs.hints.put_all.Given as goal

abbrev pub invariant-loop-place : goal.invariant-loop-place
invariant-loop-place g l = AreHinted l.hints (take l.place l.entries)
