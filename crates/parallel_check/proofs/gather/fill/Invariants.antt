use Rattle.parallel_check.specs.Answers.{AreSlots}
use Rattle.parallel_check.proofs.gather.fill.Given as goal

abbrev pub invariant-loop-done : goal.invariant-loop-done
invariant-loop-done g l = record {
  next : (goal.iterator-loop-done g).can_next l.done-iterator;
  ends : (goal.iterator-loop-done g).is_finite l.done-iterator;
  slots : AreSlots g.C.Cases.cases l.slots.items;
}
