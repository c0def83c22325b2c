-- Why a step was refused.
use Rattle.verdict.specs.declared.rule.Rule.{Rule}
use Rattle.endpoint_state.specs.declared.fault.StepFault.{StepFault}
use Rattle.endpoint_state.specs.declared.fault.StepFault.TheVariants.{Broken, OutOfMemory}

-- what holds of the rule, if the fault is a broken rule
abbrev pub IfBroken : StepFault → (Rule → Type 0) → Type 0
IfBroken (Broken rule) P = P rule
IfBroken OutOfMemory P = Unit {0}
