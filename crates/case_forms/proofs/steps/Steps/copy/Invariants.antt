use Rattle.std.proofs.Common.{◌≡◌, take}
use Rattle.case_forms.proofs.steps.Steps.copy.Given as goal

-- the steps so far were copied
abbrev pub invariant-loop-step : goal.invariant-loop-step
invariant-loop-step l = l.copied ≡ take l.step-index l.step-items
