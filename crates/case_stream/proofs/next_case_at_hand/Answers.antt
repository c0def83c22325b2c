use Rattle.std.proofs.Common.{rules}
use Rattle.case_stream.proofs.AtHand.{word_ended}
use Rattle.case_stream.proofs.CaseSoFar.{at_start}
use Rattle.case_stream.proofs.next_case_at_hand.Goals as goal

pub returns-in-ToWord-clause-case : goal.returns-in-ToWord-clause-case
returns-in-ToWord-clause-case g c e =
    let lines = c.in_ok-is_more_at_hand.ensures in
    word_ended _ _ _ _ _ _ _ (at_start _ _ c.clear.ensures.items) lines.appends (search rules) lines.taken _ c.in-ToWord.is
