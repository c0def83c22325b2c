use Rattle.std.proofs.Common.{◌≡◌, ◌∷◌, [], ◌++◌, take}
use Rattle.std.specs.List.{AllByRecursion}
use Rattle.witness.specs.FirstLine.{first_text}
use Rattle.witness.specs.Printed.{steps_text}
use Rattle.witness.specs.Printable.{IsInMemory}
use Rattle.witness.proofs.printer.push_witness.Given as goal

-- the first line and the steps so far were printed, and these steps are as their types say
abbrev pub invariant-loop-step : goal.invariant-loop-step
invariant-loop-step l = record {
  text : l.out.items ≡ (l.fn.out.items ++ (first_text l.fn.witness.version ++ 10 ∷ [])) ++ steps_text (take l.step-index l.step-items);
  memory : AllByRecursion IsInMemory (take l.step-index l.step-items);
}
