-- Why a step was refused.
use Rattle.std.specs.Prelude.{Option, None, Some, Result, Ok, Err}
use Rattle.verdict.specs.declared.rule.Rule.{Rule}
use Rattle.endpoint_state.specs.declared.fault.StepFault.{StepFault}
use Rattle.endpoint_state.specs.declared.fault.StepFault.TheVariants.{Broken, OutOfMemory}

-- the rule that a step broke; none if it was done or memory ran out
abbrev pub fault_rule : {A : Type 0} → Result A StepFault → Option Rule
fault_rule (Ok x) = None
fault_rule (Err (Broken rule)) = Some rule
fault_rule (Err OutOfMemory) = None
