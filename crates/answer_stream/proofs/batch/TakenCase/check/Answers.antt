use Rattle.std.proofs.Common.{rules, ◌≡◌, Some}
use Rattle.answer_stream.proofs.Held.{held_answer}
use Rattle.answer_stream.proofs.batch.TakenCase.check.Goals as goal

pub invariant_of-result : goal.invariant_of-result
invariant_of-result g c =
    let number : c.args.self.now.number ≡ Some c.in_ok-number.number = search rules in
    record { answers = held_answer _ _ _ _ _ c.check_held.ensures (rw c.as_slice.ensures.value (c.args.self.now.at c.in_ok-number.number number)) }
