-- The next step of a text or of a list.
use Rattle.std.proofs.Common.{◌≡◌, ◌+◌, ◌-◌, ℕ, List, ◌∷◌, length, Option, Some, None, Ok, IfSome, All, sym, ap, subst, ◌∙◌, arith}
use Rattle.std.specs.List.{IsFirstAndRest}
use Rattle.std.proofs.lemmas.List.Elements.{All-head, All-rest}
use Rattle.case_forms.specs.declared.steps.Step.{Step}
use Rattle.case_forms.specs.declared.version.Version.{Version}
use Rattle.case_forms.specs.Witnesses.{IsWithinLimits}
use Rattle.line_fields.specs.Left.{Yields}
use Rattle.witness.specs.StepsLeft.{StandsAt}
use Rattle.witness.specs.WitnessText.{number_after}

-- a line of the text is left less
pub room_left : (v : Version) (number next : ℕ) (item : Option Step)
    → IfSome item (λ step. StandsAt v number step × (next ≡ number_after number step))
    → IfSome item (λ step. IsWithinLimits step.label × (10000001 - number ≡ 10000001 - next + 1))
room_left v number next None at = tt
room_left v number next (Some step) at =
    let few = at.0.few in
    let is : next ≡ number + 1 = at.1 in
    (at.0.within, omega (arith, few, is))

module _ (steps rest : List Step) (first : Step) (split : IsFirstAndRest steps first rest) where
  pub yields_first : (copy : Step) → copy ≡ first → Yields (Some (Ok steps)) (Some (Ok rest)) (Some copy)
  yields_first copy same = ap (λ (l : List Step). Ok l) (split.0 ∙ ap (λ (s : Step). s ∷ rest) (sym same))

  pub first_fits : (copy : Step) → copy ≡ first → All (λ s. IsWithinLimits s.label) steps → IsWithinLimits copy.label × (length steps ≡ length rest + 1)
  first_fits copy same within = (
    subst (λ (s : Step). IsWithinLimits s.label) (sym same)
        (All-head (λ (s : Step). IsWithinLimits s.label) first rest
        (subst (λ (l : List Step). All (λ s. IsWithinLimits s.label) l) split.0 within)),
    sym split.1,
  )

  pub rest_fit : All (λ s. IsWithinLimits s.label) steps → All (λ s. IsWithinLimits s.label) rest
  rest_fit within = All-rest (λ (s : Step). IsWithinLimits s.label) first rest steps split.0 within
