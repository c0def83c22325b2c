-- What the reader of a witness answers is the first fault of its text.
use Rattle.std.proofs.Common.{◌≡◌, ℕ, List, [], ◌∷◌, Result, Ok, Err, refl, ap, sym, subst, ◌∙◌}
use Rattle.std.specs.Prelude.{◌↔◌}
use Rattle.bstr.specs.Text.{lines_of}
use Rattle.case_forms.specs.declared.steps.Step.{Step}
use Rattle.case_forms.specs.declared.steps.Witness.{Witness}
use Rattle.case_forms.specs.declared.version.Version.{Version}
use Rattle.line_fields.specs.Faults.{missing_line}
use Rattle.line_fields.specs.Folding.{read_lines}
use Rattle.line_fields.specs.LineFaults.{IsTextFaultOf, IsNextFault}
use Rattle.line_fields.specs.Lines.{expect_line}
use Rattle.line_fields.specs.Reading.{◌>>=◌}
use Rattle.line_fields.specs.declared.fault.TextFault.{TextFault}
use Rattle.line_fields.proofs.LineFaults.{exact_faults, faults_among}
use Rattle.line_fields.proofs.LineRests.{exact_takes, exact_again}
use Rattle.witness.specs.FirstLine.{first_text}
use Rattle.witness.specs.StepForms.{IsStepFault, IsStepsFault, IsWitnessFault, First, Steps}
use Rattle.witness.specs.Steps.{IsStepText, step_of}
use Rattle.witness.specs.WitnessText.{number_after, witness_in, witness_for}
use Rattle.witness.proofs.StepFaults.{step_faults}
use Rattle.witness.proofs.StepLaw.{reads_step}
use Rattle.witness.proofs.TextLaw.{first_ends}

abbrev bad : TextFault → Result Witness TextFault
bad e = Err e

abbrev good_steps : List Step → Result (List Step) TextFault
good_steps steps = Ok steps

abbrev bad_steps : TextFault → Result (List Step) TextFault
bad_steps e = Err e

abbrev made : Version → List Step → Result Witness TextFault
made v steps = Ok (record { version = v; steps = steps })

steps_faults : (v : Version) (raws : List (List ℕ)) (e : TextFault) → (read_lines (step_of v) number_after 2 raws ≡ Err e) ↔ IsStepsFault v 2 raws e
steps_faults v raws e = faults_among (step_of v) (IsStepText v) (IsStepFault v) number_after (reads_step v) (step_faults v) 2 raws e

-- what is behind the first line
abbrev behind : Version → List (List ℕ) → Result Witness TextFault
behind v raws = read_lines (step_of v) number_after 2 raws >>= made v

behind_err : (v : Version) (raws : List (List ℕ)) (e : TextFault) → (behind v raws ≡ Err e) ↔ IsStepsFault v 2 raws e
behind_err v raws e = go (read_lines (step_of v) number_after 2 raws) refl
  where
    go : (o : Result (List Step) TextFault) → read_lines (step_of v) number_after 2 raws ≡ o → ((o >>= made v) ≡ Err e) ↔ IsStepsFault v 2 raws e
    go (Ok steps) is = (λ same. absurd cc, λ g. let clash : good_steps steps ≡ bad_steps e = sym is ∙ (steps_faults v raws e).1 g in absurd cc)
    go (Err f) is = (
      λ same. let one : f ≡ e = cc in (steps_faults v raws e).0 (is ∙ ap bad_steps one),
      λ g. let same : bad_steps f ≡ bad_steps e = sym is ∙ (steps_faults v raws e).1 g in let one : f ≡ e = cc in ap bad one,
    )

abbrev bad_line : TextFault → Result (Unit {0}) TextFault
bad_line e = Err e

abbrev good_line : Unit {0} → Result (Unit {0}) TextFault
good_line u = Ok u

abbrev Text : Version → ℕ → List ℕ → TextFault → Type 0
Text v number raw e = IsTextFaultOf (λ line. line ≡ first_text v) number raw e

pub witness_faults : (v : Version) (text : List ℕ) (e : TextFault) → (witness_for v text ≡ Err e) ↔ IsWitnessFault v text e
unfolding witness_for
witness_faults v text e = go (lines_of text) refl
  where
    go : (raws : List (List ℕ)) → lines_of text ≡ raws → (witness_in v raws ≡ Err e) ↔ IsWitnessFault v text e
    go [] lines = (λ is. First (subst (λ (l : List (List ℕ)). IsNextFault (Text v) 1 l e) (sym lines) cc), λ g. back g)
      where
        back : IsWitnessFault v text e → bad (missing_line 1) ≡ Err e
        back (First fault) = let same : e ≡ missing_line 1 = subst (λ (l : List (List ℕ)). IsNextFault (Text v) 1 l e) lines fault in ap bad (sym same)
        back (Steps first raws split line fault) = let clash : first ∷ raws ≡ [] = sym split ∙ lines in absurd cc
    go (raw ∷ raws) lines = by (expect_line 1 (first_text v) raw) refl
      where
        by : (o : Result (Unit {0}) TextFault) → expect_line 1 (first_text v) raw ≡ o → ((o >>= λ begun. behind v raws) ≡ Err e) ↔ IsWitnessFault v text e
        by (Err f) is = (
          λ same. let one : f ≡ e = cc in
              First (subst (λ (l : List (List ℕ)). IsNextFault (Text v) 1 l e) (sym lines)
              ((exact_faults 1 (first_text v) raw e).0 (is ∙ ap bad_line one))),
          λ g. back g,
        )
          where
            back : IsWitnessFault v text e → bad f ≡ Err e
            back (First fault) =
                let same : bad_line f ≡ Err e =
                sym is ∙ (exact_faults 1 (first_text v) raw e).1
                (subst (λ (l : List (List ℕ)). IsNextFault (Text v) 1 l e) lines fault) in
                let one : f ≡ e = cc in ap bad one
            back (Steps first rest split line fault) =
                let same : first ∷ rest ≡ raw ∷ raws = sym split ∙ lines in
                let one : first ≡ raw = cc in
                let clash : bad_line f ≡ Ok tt =
                sym is ∙ ap (expect_line 1 (first_text v)) (sym one)
                ∙ exact_again 1 (first_text v) first (first_ends v) line in
                absurd cc
        by (Ok u) is = (λ same. Steps raw raws lines (exact_takes 1 (first_text v) raw u is) ((behind_err v raws e).0 same), λ g. back g)
          where
            back : IsWitnessFault v text e → behind v raws ≡ Err e
            back (First fault) =
                let clash : good_line u ≡ Err e =
                sym is ∙ (exact_faults 1 (first_text v) raw e).1
                (subst (λ (l : List (List ℕ)). IsNextFault (Text v) 1 l e) lines fault) in
                absurd cc
            back (Steps first rest split line fault) =
                let same : first ∷ rest ≡ raw ∷ raws = sym split ∙ lines in
                let one : rest ≡ raws = cc in
                (behind_err v raws e).1 (subst (λ (l : List (List ℕ)). IsStepsFault v 2 l e) one fault)
