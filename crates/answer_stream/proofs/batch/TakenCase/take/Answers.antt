use Rattle.answer_stream.proofs.Held.{held_number}
use Rattle.answer_stream.proofs.batch.TakenCase.take.Goals as goal

pub invariant_of-self-2 : goal.invariant_of-self-2
invariant_of-self-2 g c = record { at = λ x is. held_number _ _ _ _ _ is c.in-Some.ensures }
