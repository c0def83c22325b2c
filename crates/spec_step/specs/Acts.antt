-- What a label does: it uses a line, or it is a hidden step.
use Rattle.std.specs.Prelude.{◌≡◌, ◌≤◌, ◌^◌, Some}
use Rattle.case_forms.specs.declared.steps.Label.{Label}
use Rattle.case_forms.specs.declared.steps.Label.TheVariants.{L}
use Rattle.spec_network.specs.Hosts.{Answers, At, Does, Drops, Effect, Makes, Step, Takes}
use Rattle.spec_tcp.specs.Machine.{tcp_shape}
use Rattle.spec_tcp.specs.Steps.{hidden_step}
use Rattle.spec_step.specs.declared.hidden.Hidden.{Hidden}
use Rattle.spec_step.specs.declared.hidden.Hidden.TheVariants as hidden
use Rattle.spec_step.specs.declared.step.Act.{Act}
use Rattle.spec_step.specs.declared.step.Act.TheVariants as acts

-- a hidden step as the model does it
abbrev pub step_hidden : Hidden → Step tcp_shape
step_hidden (hidden.Effect thread answer) = Effect thread answer.now
step_hidden (hidden.Build host plan) = At host (Makes plan.now)
step_hidden (hidden.Process host line choice) = At host (Takes line choice)
step_hidden (hidden.Drop host line) = At host (Drops line)
step_hidden (hidden.Reset host line) = At host (Answers line)
step_hidden (hidden.Recover host recovery) = At host (Does recovery)

-- its positions are at most the greatest that a text can contain
abbrev pub IsSmall : Hidden → Type 0
IsSmall (hidden.Build host plan) = plan.now.pos ≤ 10 ^ 18
IsSmall _ = Unit {0}

-- an act is that of a label: it uses the label's line, or is the label's step of the model
abbrev pub IsActOf : {A : Type 0} → Label A → Act A → Type 0
IsActOf label (acts.Line taken) = label ≡ L taken.now
IsActOf label (acts.Hidden step) = hidden_step label ≡ Some (step_hidden step)

abbrev pub IsSmallAct : {A : Type 0} → Act A → Type 0
IsSmallAct (acts.Line taken) = Unit {0}
IsSmallAct (acts.Hidden step) = IsSmall step
