use Rattle.std.proofs.Common.{rules, ◌≡◌, false, Option, None, Some}
use Rattle.std.specs.Prelude.{IfNone}
use Rattle.case_forms.specs.declared.steps.TakeChoice.{TakeChoice}
use Rattle.stack_core.proofs.host_core.HostCore.take_with.Goals as goal

if_none : (o : Option TakeChoice) (P Q : Type 0) → (P → Q) → IfNone o P → IfNone o Q
if_none None P Q f p = f p
if_none (Some choice) P Q f p = tt

pub returns-clause-none : goal.returns-clause-none
returns-clause-none c = if_none c.choice_if.result (c.admits-may.result ≡ false) _ (λ no. search rules) c.choice_if.ensures.none
