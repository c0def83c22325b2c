-- A reader of steps one by one, against the reading of all of them.
use Rattle.std.proofs.Common.{◌≡◌, ℕ, List, [], ◌∷◌, ◌++◌, Option, None, Some, Result, Ok, Err, refl, sym, ap, ◌∙◌}
use Rattle.std.specs.Option.{option_map}
use Rattle.std.proofs.lemmas.List.{append-nil}
use Rattle.bstr.specs.Text.{lines_of}
use Rattle.case_forms.specs.declared.steps.Step.{Step}
use Rattle.case_forms.specs.declared.steps.Witness.{Witness}
use Rattle.case_forms.specs.declared.version.Version.{Version}
use Rattle.line_fields.specs.declared.fault.TextFault.{TextFault}
use Rattle.line_fields.specs.declared.fault.SourceFault.TheVariants as reads
use Rattle.line_fields.specs.Reading.{◌>>=◌, Fails}
use Rattle.line_fields.specs.Lines.{line_text, line_rest, expect_line}
use Rattle.line_fields.specs.Folding.{read_lines}
use Rattle.line_fields.specs.Rows.{rest_alone, TakesRow, HasNoRow, next_text, FailsAt, Reads}
use Rattle.line_fields.specs.Left.{in_front, Yields, FailsLeft, Remains}
use Rattle.line_fields.proofs.Loop.{Fails-map, with_front, regroup}
use Rattle.line_fields.proofs.LeftLemmas.{left_in, yields_item, yields_none, fails_line, fails_text}
use Rattle.witness.specs.FirstLine.{first_text}
use Rattle.witness.specs.Steps.{step_of}
use Rattle.witness.specs.WitnessText.{number_after, witness_for}
use Rattle.witness.specs.StepsLeft.{first_line, steps_of, steps_from, StandsAt}
use Rattle.witness.proofs.StepLaw.{reads_step}
use Rattle.witness.proofs.TextLaw.{text_takes}
use Rattle.witness.proofs.LimitsLaw.{label_within, label_shifts}

-- in each version
module _ (v : Version) where
  begins : (number : ℕ) (raw : List ℕ) (e : TextFault) → line_text number raw ≡ Err e → step_of v number raw ≡ Err e
  unfolding step_of line_rest
  begins number raw e is = rw is refl

  pub next_fails : (number : ℕ) (a : Option (List (List ℕ))) (e : TextFault) → FailsAt (next_text number) e a
      → FailsLeft e (left_in (step_of v) number_after number a)
  next_fails number a e fails = fails_text (step_of v) number_after number number (begins number) a e fails

  pub line_fails : (number : ℕ) (a b : Option (List (List ℕ))) (raw : List ℕ) (e : TextFault) → TakesRow a b raw
      → Fails e.kind e (step_of v number raw) → FailsLeft e (left_in (step_of v) number_after number a)
  line_fails number a b raw e took fails = fails_line (step_of v) number_after number a b raw e took fails

  pub step_read : (number : ℕ) (a b : Option (List (List ℕ))) (raw : List ℕ) (step : Step) → TakesRow a b raw
      → step_of v number raw ≡ Ok step
      → Yields (left_in (step_of v) number_after number a)
      (left_in (step_of v) number_after (number_after number step) b) (Some step)
  step_read number a b raw step took is = yields_item (step_of v) number_after number a b raw step took is

  pub all_read : (number : ℕ) (a b : Option (List (List ℕ))) → HasNoRow a b
      → Yields (left_in (step_of v) number_after number a) (left_in (step_of v) number_after number b) None
  all_read number a b none = yields_none (step_of v) number_after number a b none

  pub stands : (number : ℕ) (raw : List ℕ) (s : Step) → step_of v number raw ≡ Ok s → StandsAt v number s
  stands number raw s is = let l = (reads_step v).takes number raw s is in
      record { within = label_within v s.label l.label; shifts = label_shifts v s.label l.label; few = l.line.count }

  -- ---- the first line

  again : (read : Result (List Step) TextFault) → steps_of (read >>= λ steps. Ok (record { version = v; steps = steps })) ≡ read
  again (Ok steps) = refl
  again (Err e) = refl

  from_first : (raws : List (List ℕ)) → steps_from v None raws ≡ (first_line v raws >>= λ rest. read_lines (step_of v) number_after 2 rest)
  from_first [] = refl
  from_first (raw ∷ raws) = by_first (expect_line 1 (first_text v) raw)
    where
      by_first : (first : Result (Unit {0}) TextFault)
          → steps_of (first >>= λ u. read_lines (step_of v) number_after 2 raws >>= λ steps.
          Ok (record { version = v; steps = steps }))
          ≡ ((first >>= λ u. Ok raws) >>= λ rest. read_lines (step_of v) number_after 2 rest)
      by_first (Ok u) = again (read_lines (step_of v) number_after 2 raws)
      by_first (Err e) = refl

  pub first_read : (a b : Option (List (List ℕ))) → Reads rest_alone (first_line v) a b (Ok tt)
      → Remains (option_map (steps_from v None) a) (option_map (steps_from v (Some 2)) b)
  first_read None b read = tt
  first_read (Some raws) None read = absurd read
  first_read (Some raws) (Some rest) read = from_first raws ∙ rw read refl

  pub first_fails : (a b : Option (List (List ℕ))) (e : TextFault)
      → Reads rest_alone (first_line v) a b (Err (reads.Text e)) → FailsLeft e (option_map (steps_from v None) a)
  first_fails None b e read = tt
  first_fails (Some raws) b e read = Fails-map e.kind e (first_line v raws) (steps_from v None raws) (λ is. from_first raws ∙ rw is refl) read

-- ---- the steps of a whole witness

abbrev Steps : Type 0
Steps = Result (List Step) TextFault

nothing_in_front : (read : Steps) → with_front [] read ≡ read
nothing_in_front (Ok steps) = refl
nothing_in_front (Err e) = refl

pub whole_begins : (v : Version) (text : List ℕ) → steps_of (witness_for v text) ≡ with_front [] (steps_from v None (lines_of text))
unfolding witness_for
whole_begins v text = sym (nothing_in_front (steps_from v None (lines_of text)))

pub whole_on : (total : Steps) (front : List Step) (step : Step) (left rest : Steps) → total ≡ with_front front left
    → left ≡ in_front step rest → total ≡ with_front (front ++ step ∷ []) rest
whole_on total front step left rest so_far is = so_far ∙ ap (λ (l : Steps). with_front front l) is ∙ regroup front step rest

pub whole_err : (read : Result Witness TextFault) (e : TextFault) → steps_of read ≡ Err e → read ≡ Err e
whole_err (Ok w) e is = let h = is in absurd cc
whole_err (Err d) e is = let h = is in cc

pub whole_fails : (read : Result Witness TextFault) (front : List Step) (left : Steps) (e : TextFault)
    → steps_of read ≡ with_front front left → Fails e.kind e left → Fails e.kind e read
whole_fails read front left e so_far fails = Fails-map e.kind e left read (λ is. whole_err read e (so_far ∙ rw is refl)) fails

-- ---- all steps were read

pub whole_ok : (v : Version) (text : List ℕ) (steps : List Step) (read : Result Witness TextFault)
    → witness_for v text ≡ read → steps_of read ≡ Ok steps → read ≡ Ok (record { version = v; steps = steps })
whole_ok v text steps (Ok w) is e =
    let version = (text_takes v w text is).0 in
    let same : w.steps ≡ steps = let h = e in cc in
    rw (← version, ← same) refl
whole_ok v text steps (Err d) is e = absurd cc

pub whole_read : (v : Version) (text : List ℕ) (front : List Step) (left : Steps)
    → steps_of (witness_for v text) ≡ with_front front left → left ≡ Ok []
    → witness_for v text ≡ Ok (record { version = v; steps = front })
whole_read v text front left so_far none =
    let all : steps_of (witness_for v text) ≡ Ok front = so_far ∙ rw (none, append-nil) refl in
    whole_ok v text front (witness_for v text) refl all
