-- A text that stands for a witness stands for the one that it shows alone.
use Rattle.std.proofs.Common.{◌≡◌, ◌≤◌, ◌+◌, ℕ, List, [], ◌∷◌, Option, None, Some, refl, sym, subst, ◌∙◌, arith}
use Rattle.std.specs.Prelude.{IfSome}
use Rattle.seqno.specs.declared.word.Word.{Word}
use Rattle.case_forms.specs.declared.calls.Host.{Host}
use Rattle.case_forms.specs.declared.named_line.NamedLine.{NamedLine}
use Rattle.case_forms.specs.declared.steps.Label.{Label}
use Rattle.case_forms.specs.declared.steps.Label.TheVariants.{L, D, M, T, K, R, F}
use Rattle.case_forms.specs.declared.steps.Step.{Step}
use Rattle.case_forms.specs.declared.steps.Witness.{Witness}
use Rattle.case_forms.specs.declared.timer.RecoveryChange.{RecoveryChange}
use Rattle.case_forms.specs.declared.timer.RecoveryChange.TheVariants.{Begins, IsUndone}
use Rattle.case_forms.specs.declared.version.Version.{Version}
use Rattle.case_forms.specs.declared.version.Version.TheVariants as versions
use Rattle.case_forms.specs.Versions.{named_as, says_sender, scales}
use Rattle.case_forms.specs.Witnesses.{IsShift}
use Rattle.line_fields.specs.Folding.{AreSpelled}
use Rattle.line_fields.specs.Hosts.{greatest_host, IsHost}
use Rattle.line_fields.specs.Lines.{IsLine}
use Rattle.witness.specs.FirstLine.{first_text}
use Rattle.witness.specs.Labels.{IsChange, IsEndpoint, IsEntry, IsLabel}
use Rattle.witness.specs.Steps.{IsStepText}
use Rattle.witness.specs.WitnessText.{number_after, IsWitnessText, seen_alone}

-- what the texts of a half case may name, those of two hosts may name too
module _ (half whole : Version) (more : greatest_host half ≤ greatest_host whole) (scaled : scales half ≡ scales whole)
    (newer : says_sender half ≡ says_sender whole) where
  host_two : (h : Host) → IsHost half h → IsHost whole h
  host_two h fits = omega (arith, more, fits)

  endpoint_two : (h : Host) (local remote : ℕ) → IsEndpoint half h local remote → IsEndpoint whole h local remote
  endpoint_two h local remote fits = (host_two h fits.0, fits.1, fits.2, fits.3, fits.4)

  entry_two : (h : Host) (line : ℕ) → IsEntry half h line → IsEntry whole h line
  entry_two h line fits = (host_two h fits.0, fits.1)

  shift_two : (iss : Option Word) (shift : Option ℕ) → IfSome shift (IsShift half iss) → IfSome shift (IsShift whole iss)
  shift_two iss None fits = tt
  shift_two iss (Some shift) fits = (sym scaled ∙ fits.0, fits.1, fits.2)

  change_two : (change : RecoveryChange) → IsChange half change → IsChange whole change
  change_two Begins fits = tt
  change_two IsUndone fits = sym newer ∙ fits

  label_two : (label : Label NamedLine) → IsLabel half label → IsLabel whole label
  label_two (L line) fits = fits
  label_two (D thread answer) fits = fits
  label_two (M host plan) fits =
      (endpoint_two host plan.lport plan.rport fits.0, fits.1, fits.2, fits.3, (fits.4.0, shift_two plan.iss plan.shift fits.4.1))
  label_two (T host line choice) fits = (entry_two host line fits.0, fits.1)
  label_two (K host line) fits = entry_two host line fits
  label_two (R host line) fits = entry_two host line fits
  label_two (F host recovery) fits = (endpoint_two host recovery.lport recovery.rport fits.0, fits.1, fits.2, change_two recovery.change fits.3)

  step_two : (number : ℕ) (s : Step) (raw : List ℕ) → IsStepText half number s raw → IsStepText whole number s raw
  step_two number s raw t =
      record { texts = t.texts; written = t.written; line = t.line; moment = t.moment; label = label_two s.label t.label; span = t.span }

  steps_two : (number : ℕ) (steps : List Step) (raws : List (List ℕ)) → AreSpelled (IsStepText half) number_after number steps raws
      → AreSpelled (IsStepText whole) number_after number steps raws
  steps_two number [] [] h = tt
  steps_two number [] (raw ∷ raws) h = absurd h
  steps_two number (s ∷ steps) [] h = absurd h
  steps_two number (s ∷ steps) (raw ∷ raws) h = (step_two number s raw h.0, steps_two (number + 1) steps raws h.1)

  text_two : first_text half ≡ first_text whole → (steps : List Step) (text : List ℕ) → IsWitnessText (record { version = half; steps = steps }) text
      → IsWitnessText (record { version = whole; steps = steps }) text
  text_two same steps text t = record {
    first = t.first;
    raws = t.raws;
    begins = subst (λ (x : List ℕ). IsLine 1 x t.first) same t.begins;
    steps = steps_two 2 steps t.raws t.steps;
    parts = t.parts;
  }

alone_by : (v : Version) (steps : List Step) (text : List ℕ) → IsWitnessText (record { version = v; steps = steps }) text
    → IsWitnessText (record { version = named_as v; steps = steps }) text
alone_by versions.One steps text t = t
alone_by versions.Two steps text t = t
alone_by versions.Three steps text t = t
alone_by versions.Four steps text t = t
alone_by versions.FourHalf steps text t = text_two versions.FourHalf versions.Four (omega arith) refl refl refl steps text t
alone_by versions.Five steps text t = t
alone_by versions.FiveHalf steps text t = text_two versions.FiveHalf versions.Five (omega arith) refl refl refl steps text t
alone_by versions.Six steps text t = t
alone_by versions.SixHalf steps text t = text_two versions.SixHalf versions.Six (omega arith) refl refl refl steps text t

pub text_alone : (w : Witness) (text : List ℕ) → IsWitnessText w text → IsWitnessText (seen_alone w) text
text_alone w text t = alone_by w.version w.steps text t
