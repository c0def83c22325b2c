use Rattle.std.proofs.Common.{◌≡◌, ◌++◌, length}
use Rattle.recorder.specs.Numbers.{AllSmall, names_by}
use Rattle.recorder.specs.Saying.{all_renumbered, lines_said, steps_said}
use Rattle.recorder.proofs.step_lines.tell_all.Given as goal

-- what is told, and what is left will tell, is all
abbrev pub invariant-loop-entry : goal.invariant-loop-entry
invariant-loop-entry l = record {
  small : AllSmall l.entries;
  lines : l.lines ++ lines_said (all_renumbered (names_by l.fn.counts.lines l.fn.counts.mades) l.entries)
      ≡ lines_said (all_renumbered (names_by l.fn.counts.lines l.fn.counts.mades) l.fn.entries);
  steps : l.steps ++ steps_said (all_renumbered (names_by l.fn.counts.lines l.fn.counts.mades) l.entries)
      ≡ steps_said (all_renumbered (names_by l.fn.counts.lines l.fn.counts.mades) l.fn.entries);
}

abbrev pub decreases-loop-entry : goal.decreases-loop-entry
decreases-loop-entry l = length l.entries
