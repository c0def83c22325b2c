use Rattle.parallel_check.specs.Answers.{AreSlots}
use Rattle.parallel_check.proofs.Slots.{AnswersFirst}
use Rattle.parallel_check.proofs.gather.settle.Given as goal

abbrev pub invariant-loop-index : goal.invariant-loop-index
invariant-loop-index g l = record {
  slots : AreSlots g.C.Cases.cases l.slots.items;
  answers : AnswersFirst g.C.Cases.cases l.answers.items l.index;
}
