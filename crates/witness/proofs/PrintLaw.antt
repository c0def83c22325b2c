-- What is printed of a witness stands for the witness.
use Rattle.std.proofs.Common.{◌≡◌, ◌<◌, ◌+◌, ℕ, suc, List, [], ◌∷◌, ◌++◌, length, take, get_or, refl, sym, ap, ◌∙◌, append_assoc, arith, inl}
use Rattle.std.specs.Prelude.{map}
use Rattle.std.specs.Fmt.{decimal}
use Rattle.std.specs.List.{concat}
use Rattle.std.proofs.Math.Seq.{take-suc}
use Rattle.std.proofs.lemmas.List.{append-nil}
use Rattle.case_forms.specs.declared.named_line.NamedLine.{NamedLine}
use Rattle.case_forms.specs.declared.steps.Label.{Label}
use Rattle.case_forms.specs.declared.steps.Step.{Step}
use Rattle.case_forms.specs.declared.steps.Witness.{Witness}
use Rattle.case_forms.specs.declared.version.Version.{Version}
use Rattle.line_fields.specs.Folding.{AreSpelled}
use Rattle.line_fields.specs.Spelling.{number, piece_texts, joined, printed_line, printed_behind}
use Rattle.line_fields.proofs.Clean.{joined_spaced}
use Rattle.line_fields.proofs.Written.{printed_written, written_len}
use Rattle.witness.specs.FirstLine.{first_text}
use Rattle.witness.specs.Labels.{label_pieces}
use Rattle.witness.specs.Steps.{step_pieces, IsStepText}
use Rattle.witness.specs.WitnessText.{number_after, IsWitnessText}
use Rattle.witness.specs.Printed.{steps_text, witness_text, without_span, without_spans}

abbrev step_line : Step → List ℕ
step_line s = printed_line (step_pieces s)

-- ---- one step

-- what is written of a step is its line
pub writes_line : (out : List ℕ) (s : Step) → ((out ++ decimal s.moment) ++ printed_behind (label_pieces s.label)) ++ 10 ∷ [] ≡ out ++ step_line s
writes_line out s =
    let line : decimal s.moment ++ printed_behind (label_pieces s.label) ≡ joined (piece_texts (step_pieces s)) =
    sym (joined_spaced (decimal s.moment) (piece_texts (label_pieces s.label))) in
    ap (λ (x : List ℕ). x ++ 10 ∷ [])
    (append_assoc out (decimal s.moment) (printed_behind (label_pieces s.label))
    ∙ ap (λ (x : List ℕ). out ++ x) line) ∙ append_assoc out (joined (piece_texts (step_pieces s))) (10 ∷ [])

-- ---- one step after the other

steps_text-push : (steps : List Step) (s : Step) → steps_text (steps ++ s ∷ []) ≡ steps_text steps ++ step_line s
steps_text-push [] s = append-nil (step_line s)
steps_text-push (t ∷ steps) s =
    ap (λ (x : List ℕ). step_line t ++ x) (steps_text-push steps s)
    ∙ sym (append_assoc (step_line t) (steps_text steps) (step_line s))

-- one more step behind what was written
pub writes_more : (old new front : List ℕ) (steps : List Step) (i : ℕ) (none : Step) → i < length steps
    → old ≡ front ++ steps_text (take i steps) → new ≡ old ++ printed_line (step_pieces (get_or steps i none))
    → new ≡ front ++ steps_text (take (i + 1) steps)
writes_more old new front steps i none lt before wrote =
    let one : suc i ≡ i + 1 = omega arith in
    let more : steps_text (take i steps) ++ step_line (get_or steps i none) ≡ steps_text (take (i + 1) steps) =
    sym (steps_text-push (take i steps) (get_or steps i none)) ∙ ap steps_text (sym (take-suc steps i none lt) ∙ ap (λ (n : ℕ). take n steps) one) in
    wrote ∙ ap (λ (x : List ℕ). x ++ step_line (get_or steps i none)) before
    ∙ append_assoc front (steps_text (take i steps)) (step_line (get_or steps i none))
    ∙ ap (λ (x : List ℕ). front ++ x) more

-- ---- the whole text

-- a step that some line spells is spelled by what is printed of it
step_again : (v : Version) (number : ℕ) (s : Step) (raw : List ℕ) → IsStepText v number s raw → IsStepText v number s (step_line s)
step_again v number s raw t =
    let line = t.line in
    let short = line.short in
    let len = written_len (step_pieces s) t.texts t.written in
    record {
      texts = piece_texts (step_pieces s);
      written = printed_written (step_pieces s) t.texts t.written;
      line = record { ends = (10 ∷ [], inl refl, refl); short = omega arith; count = line.count };
      moment = t.moment;
      label = t.label;
      span = t.span ∙ ap (λ (stop : ℕ). record { line = number; start = 0; stop = stop }) len;
    }

printed_again : (v : Version) (number : ℕ) (steps : List Step) (raws : List (List ℕ))
    → AreSpelled (IsStepText v) number_after number steps raws
    → AreSpelled (IsStepText v) number_after number steps (map step_line steps)
printed_again v number [] raws h = tt
printed_again v number (s ∷ steps) [] h = absurd h
printed_again v number (s ∷ steps) (raw ∷ raws) h = (step_again v number s raw h.0, printed_again v (number_after number s) steps raws h.1)

abbrev Said : Type 0
Said = Version × List (ℕ × Label NamedLine)

-- what is printed says what the steps say
abbrev said_line : ℕ × Label NamedLine → List ℕ
said_line said = printed_line (number said.0 ∷ label_pieces said.1)

lines_said : (steps : List Step) → map step_line steps ≡ map said_line (map without_span steps)
lines_said [] = refl
lines_said (s ∷ steps) = ap (λ (lines : List (List ℕ)). step_line s ∷ lines) (lines_said steps)

pub print_again : (v w : Witness) (text : List ℕ) → IsWitnessText v text → without_spans v ≡ without_spans w → IsWitnessText v (witness_text w)
print_again v w text t same =
    let begins = t.begins in
    let version : v.version ≡ w.version = ap (λ (said : Said). said.0) same in
    let steps : map without_span v.steps ≡ map without_span w.steps = ap (λ (said : Said). said.1) same in
    let lines : map step_line w.steps ≡ map step_line v.steps =
    lines_said w.steps ∙ ap (λ (said : List (ℕ × Label NamedLine)). map said_line said) (sym steps)
    ∙ sym (lines_said v.steps) in
    record {
      first = first_text v.version ++ 10 ∷ [];
      raws = map step_line v.steps;
      begins = record { ends = (10 ∷ [], inl refl, refl); short = begins.short; count = begins.count };
      steps = printed_again v.version 2 v.steps t.raws t.steps;
      parts =
          ap (λ (u : Version). (first_text u ++ 10 ∷ []) ++ steps_text w.steps) (sym version)
          ∙ ap (λ (ls : List (List ℕ)). (first_text v.version ++ 10 ∷ []) ++ concat ls) lines;
    }
