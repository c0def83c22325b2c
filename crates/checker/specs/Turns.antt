-- What a turn of the loop has come to.
use Rattle.std.specs.Prelude.{◌≡◌, ◌+◌, ℕ, Bool, true, false, List, [], ◌∷◌, ◌++◌, length, Option, Some, Result}
use Rattle.std.specs.Prelude.{Ok, Err}
use Rattle.case_forms.specs.declared.trace.Header.{Header}
use Rattle.case_forms.specs.declared.trace.Line.{Line}
use Rattle.case_forms.specs.declared.steps.Step.{Step}
use Rattle.verdict.specs.declared.rule.Rule.{Rule}
use Rattle.verdict.specs.declared.report.Verdict.TheVariants.{No}
use Rattle.line_fields.specs.declared.fault.TextFault.{TextFault}
use Rattle.line_fields.specs.Left.{Yields}
use Rattle.interval_order.specs.Orders.{Order}
use Rattle.endpoint_state.specs.declared.fault.StepFault.{StepFault}
use Rattle.spec_step.specs.Faults.{IfBroken}
use Rattle.spec_cases.specs.Cases.{Watched as Progress}
use Rattle.checker.specs.declared.turns.StepCounts.{StepCounts}
use Rattle.checker.specs.Verdicts.{line_named}
use Rattle.checker.specs.Ahead.{Passes}
use Rattle.checker.specs.Streaming.{SoFar, IsWhole, verdict_on}

-- the verdict is no, by this rule at this step after these others, whatever follows
abbrev pub IsNo : Header → Option (Result (List Line) TextFault) → Option (Result (List Line) TextFault) → List Step
    → Step → Rule → Type 0
IsNo header lines left earlier s rule =
    (passed : List Line) × Passes lines left passed
    × ((all : List Line) → IsWhole lines all → (rest : List Step)
    → verdict_on header all [] (earlier ++ s ∷ rest) ≡ No (length earlier + 2) (line_named s.label) rule)

-- a step is done, after more lines were offered; or it is refused
abbrev pub AfterStep : Header → Option (Result (List Line) TextFault) → Option (Result (List Line) TextFault) →
    Option (Result (List Step) TextFault) → Option (Result (List Step) TextFault)
    → Order → Progress → List Line → List Step → Step → Result (Unit {0}) StepFault → Type 0
AfterStep header lines left steps next o p offered earlier s (Ok u) =
    (more : List Line) × SoFar header lines left steps next o p (offered ++ more) (earlier ++ s ∷ [])
AfterStep header lines left steps next o p offered earlier s (Err fault) =
    IfBroken fault (λ rule. IsNo header lines left earlier s rule)

-- a step after the first ones is refused, whatever follows
abbrev pub IsBroken : Header → Option (Result (List Line) TextFault) → Option (Result (List Line) TextFault) →
    Option (Result (List Step) TextFault) → Option (Result (List Step) TextFault) → ℕ → ℕ → Rule → Type 0
IsBroken header lines left steps next place named rule =
    (earlier : List Step) × (ahead : Option (Result (List Step) TextFault)) × (s : Step) × (passed : List Line) ×
    Passes steps ahead earlier × Yields ahead next (Some s) × Passes lines left passed
    × ((all : List Line) → IsWhole lines all → (rest : List Step)
    → verdict_on header all [] (earlier ++ s ∷ rest) ≡ No (place + 2) named rule)

-- with one step more, which takes a line or is hidden
abbrev pub counted_with : StepCounts → Bool → StepCounts
counted_with t true = record { lines = t.lines + 1; hidden = t.hidden }
counted_with t false = record { lines = t.lines; hidden = t.hidden + 1 }
