use Rattle.checker.proofs.CaseLemmas.{IsCutSoFar}
use Rattle.checker.proofs.case.cut.Given as goal

-- the lines so far are the trace's, and the place is behind them
abbrev pub invariant-loop-raw : goal.invariant-loop-raw
invariant-loop-raw l = IsCutSoFar l.version l.text l.at l.raw-iterator
