use Rattle.std.proofs.Common.{map}
use Rattle.parallel_check.proofs.Slots.{AnswersFirst}
use Rattle.parallel_check.proofs.plain.check_many_plain.Given as goal

abbrev pub invariant-loop-text : goal.invariant-loop-text
invariant-loop-text l = AnswersFirst (map (λ c. c.items) l.cases) l.answers.items l.text-index
