use Rattle.parallel_check.specs.Answers.{AreSlots}
use Rattle.parallel_check.proofs.gather.gather.Given as goal

abbrev pub invariant-loop-part : goal.invariant-loop-part
invariant-loop-part g l = record {
  next : (goal.iterator-loop-part g).can_next l.part-iterator;
  ends : (goal.iterator-loop-part g).is_finite l.part-iterator;
  slots : AreSlots g.C.Cases.cases l.slots.items;
}
