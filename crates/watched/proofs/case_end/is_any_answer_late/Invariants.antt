use Rattle.std.proofs.Common.{◌≡◌, drop}
use Rattle.spec_duties.specs.Answering.{any_call, is_unanswered_late}
use Rattle.watched.proofs.case_end.is_any_answer_late.Given as goal

-- none of the answers so far is late
abbrev pub invariant-loop-entry : goal.invariant-loop-entry
invariant-loop-entry l =
    any_call (is_unanswered_late l.at.header.now l.at.slack l.at.moment l.world.world l.duties.waits) (drop l.entry-index l.calls)
    ≡ any_call (is_unanswered_late l.at.header.now l.at.slack l.at.moment l.world.world l.duties.waits) l.calls
