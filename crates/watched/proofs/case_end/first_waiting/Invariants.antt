use Rattle.std.proofs.Common.{◌≡◌, drop}
use Rattle.spec_duties.specs.End.{first_waiting}
use Rattle.watched.proofs.case_end.first_waiting.Given as goal

-- none of the segments so far waits too long
abbrev pub invariant-loop-entry : goal.invariant-loop-entry
invariant-loop-entry l =
    first_waiting l.slack l.moment (drop l.entry-index l.inbox) ≡ first_waiting l.slack l.moment l.inbox
