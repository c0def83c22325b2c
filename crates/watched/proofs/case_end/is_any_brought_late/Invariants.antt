use Rattle.std.proofs.Common.{◌≡◌, drop}
use Rattle.spec_duties.specs.End.{any_unsent, is_brought_late}
use Rattle.watched.proofs.case_end.is_any_brought_late.Given as goal

-- none of the segments so far is late
abbrev pub invariant-loop-entry : goal.invariant-loop-entry
invariant-loop-entry l =
    any_unsent (is_brought_late l.slack l.moment) (drop l.entry-index l.unsent) ≡ any_unsent (is_brought_late l.slack l.moment) l.unsent
