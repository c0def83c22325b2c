use Rattle.answer_stream.proofs.Telling.{none_continue}
use Rattle.answer_stream.proofs.batch.Batch.new.Goals as goal

pub invariant_of-result : goal.invariant_of-result
invariant_of-result g c = record { told = none_continue _ _ _ _ c.new.ensures.greatest c.new.ensures.lines }
