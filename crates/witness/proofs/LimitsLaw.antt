-- What a text stands for keeps the limits of a witness.
use Rattle.std.proofs.Common.{◌≤◌, ◌+◌, ℕ, List, [], ◌∷◌, length, arith}
use Rattle.std.specs.List.{All}
use Rattle.std.proofs.lemmas.List.Elements.{All-nil, All-cons}
use Rattle.std.specs.Prelude.{IfOk, Result, Ok, Err}
use Rattle.case_forms.specs.Witnesses.{IsWithinLimits, TellsShift, IsWitness}
use Rattle.case_forms.specs.declared.named_line.NamedLine.{NamedLine}
use Rattle.case_forms.specs.declared.steps.Label.{Label}
use Rattle.case_forms.specs.declared.steps.Label.TheVariants.{L, D, M, T, K, R, F}
use Rattle.case_forms.specs.declared.steps.Step.{Step}
use Rattle.case_forms.specs.declared.steps.Witness.{Witness}
use Rattle.case_forms.specs.declared.version.Version.{Version}
use Rattle.line_fields.specs.declared.fault.TextFault.{TextFault}
use Rattle.line_fields.specs.Reading.{Gives}
use Rattle.line_fields.specs.Folding.{AreSpelled}
use Rattle.witness.specs.Labels.{IsLabel}
use Rattle.witness.specs.Steps.{IsStepText}
use Rattle.witness.specs.WitnessText.{number_after, IsWitnessText, witness_for}
use Rattle.witness.proofs.TextLaw.{text_takes}

pub label_within : (v : Version) (label : Label NamedLine) → IsLabel v label → IsWithinLimits label
label_within v (L line) fits = tt
label_within v (D thread answer) fits = tt
label_within v (M host plan) fits = fits.1
label_within v (T host line choice) fits = tt
label_within v (K host line) fits = tt
label_within v (R host line) fits = tt
label_within v (F host recovery) fits = tt

pub label_shifts : (v : Version) (label : Label NamedLine) → IsLabel v label → TellsShift v label
label_shifts v (L line) fits = tt
label_shifts v (D thread answer) fits = tt
label_shifts v (M host plan) fits = fits.4.1
label_shifts v (T host line choice) fits = tt
label_shifts v (K host line) fits = tt
label_shifts v (R host line) fits = tt
label_shifts v (F host recovery) fits = tt

-- the steps of lines that are numbered from here on end at the last line that a text can have
record AreLimited (v : Version) (number : ℕ) (steps : List Step) : Type 0 where
  few : number + length steps ≤ 10000001
  within : All (λ s. IsWithinLimits s.label) steps
  shifts : All (λ s. TellsShift v s.label) steps

steps_limited : (v : Version) (number : ℕ) (steps : List Step) (raws : List (List ℕ)) → number ≤ 10000001
    → AreSpelled (IsStepText v) number_after number steps raws → AreLimited v number steps
steps_limited v number [] [] le spelled =
    record {
      few = omega arith;
      within = All-nil (λ s. IsWithinLimits s.label);
      shifts = All-nil (λ s. TellsShift v s.label);
    }
steps_limited v number [] (raw ∷ raws) le spelled = absurd spelled
steps_limited v number (s ∷ steps) [] le spelled = absurd spelled
steps_limited v number (s ∷ steps) (raw ∷ raws) le spelled =
    let own = spelled.0 in
    let count = own.line.count in
    let behind = steps_limited v (number + 1) steps raws (omega arith) spelled.1 in
    let few = behind.few in record {
      few = omega arith;
      within = All-cons (λ s. IsWithinLimits s.label) s steps (label_within v s.label own.label) behind.within;
      shifts = All-cons (λ s. TellsShift v s.label) s steps (label_shifts v s.label own.label) behind.shifts;
    }

text_limited : (w : Witness) (text : List ℕ) → IsWitnessText w text → IsWitness w
text_limited w text t =
    let limited = steps_limited w.version 2 w.steps t.raws (omega arith) t.steps in
    let few = limited.few in record { few = omega arith; within = limited.within; shifts = limited.shifts }

pub is_limited : (v : Version) (text : List ℕ) (r : Result Witness TextFault) → Gives (λ w. w) r (witness_for v text) → IfOk r IsWitness
is_limited v text (Ok w) given = text_limited w text (text_takes v w text given).1
is_limited v text (Err e) given = tt
