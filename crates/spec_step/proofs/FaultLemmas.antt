-- What the rule of a fault says of each way in which a step may end.
use Rattle.std.proofs.Common.{◌≡◌, Option, None, Some, sym}
use Rattle.std.specs.Prelude.{Result, Ok, Err, OnOk, IfErr}
use Rattle.verdict.specs.declared.rule.Rule.{Rule}
use Rattle.endpoint_state.specs.declared.fault.StepFault.{StepFault}
use Rattle.endpoint_state.specs.declared.fault.StepFault.TheVariants.{Broken, OutOfMemory}
use Rattle.endpoint_state.specs.Faults.{fault_rule}
use Rattle.spec_step.specs.Faults.{IfBroken}

pub admitted : {A : Type 0} (r : Result A StepFault) (o : Option Rule) → fault_rule r ≡ o → OnOk r (o ≡ None)
admitted (Ok x) o is = sym is
admitted (Err fault) o is = tt

pub broken : {A : Type 0} (r : Result A StepFault) (o : Option Rule) → fault_rule r ≡ o → IfErr r (λ fault. IfBroken fault (λ rule. o ≡ Some rule))
broken (Ok x) o is = tt
broken (Err (Broken rule)) o is = sym is
broken (Err OutOfMemory) o is = tt

pub memory : {A : Type 0} (r : Result A StepFault) (o : Option Rule) → fault_rule r ≡ o → r ≡ Err OutOfMemory → o ≡ None
memory (Ok x) o is ran_out = sym is
memory (Err (Broken rule)) o is ran_out = absurd cc
memory (Err OutOfMemory) o is ran_out = sym is
