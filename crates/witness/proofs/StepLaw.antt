-- A step is read exactly from a line that spells it.
use Rattle.std.proofs.Common.{◌≡◌, ◌≤◌, ℕ, List, [], ◌∷◌, ◌++◌, Result, Ok, refl, sym, ap, subst, ◌∙◌, arith}
use Rattle.std.specs.Fmt.{decimal}
use Rattle.std.specs.List.{AllByRecursion}
use Rattle.std.proofs.lemmas.List.{append-nil}
use Rattle.case_forms.specs.declared.named_line.NamedLine.{NamedLine}
use Rattle.case_forms.specs.declared.steps.Label.{Label}
use Rattle.case_forms.specs.declared.steps.Step.{Step}
use Rattle.case_forms.specs.declared.version.Version.{Version}
use Rattle.line_fields.specs.declared.fault.TextFault.{TextFault}
use Rattle.line_fields.specs.Word.{Rest, rest_of}
use Rattle.line_fields.specs.Reading.{◌>>=◌, number_field, no_more}
use Rattle.line_fields.specs.Reader.{texts}
use Rattle.line_fields.specs.Lines.{IsRaw, line_rest}
use Rattle.line_fields.specs.Spelling.{number, AreWritten, IsClean, joined}
use Rattle.line_fields.proofs.Readers.{bind_ok, ok_is, reads_number, no_more_takes, no_more_again}
use Rattle.line_fields.proofs.Written.{first_plain, written_clean}
use Rattle.line_fields.proofs.Joined.{IsClean-decimal}
use Rattle.line_fields.proofs.LineRests.{fields_taken, fields_read, is_raw}
use Rattle.line_fields.proofs.Loop.{IsLineReader}
use Rattle.witness.specs.Labels.{label_pieces, IsLabel}
use Rattle.witness.specs.LabelFields.{label_field}
use Rattle.witness.specs.Steps.{step_pieces, IsStepText, step_fields, step_of}
use Rattle.witness.proofs.LabelLaw.{reads_label, label_clean}

-- in each version
module _ (v : Version) where
  -- ---- the fields of a step

  abbrev last_of : ℕ × Rest → Label NamedLine × Rest → Result (ℕ × Label NamedLine) TextFault
  last_of m l = no_more l.1 >>= λ u. Ok (m.0, l.0)

  abbrev behind_moment : ℕ × Rest → Result (ℕ × Label NamedLine) TextFault
  behind_moment m = label_field v m.1 >>= last_of m

  record AreFields (f : ℕ × Label NamedLine) (ws : List (List ℕ)) : Type 0 where
    written : AreWritten (number f.0 ∷ label_pieces f.1) ws
    moment : f.0 ≤ 1000000000000000000
    label : IsLabel v f.1

  step_fields_take : (r : Rest) (f : ℕ × Label NamedLine) → step_fields v r ≡ Ok f → AreFields f (texts r)
  step_fields_take r f e =
      let a = bind_ok (number_field 0 1000000000000000000 r) behind_moment f e in
      let b = bind_ok (label_field v a.0.1) (last_of a.0) f a.2 in
      let c = bind_ok (no_more b.0.1) (λ u. Ok (a.0.0, b.0.0)) f b.2 in
      let m = (reads_number 0 1000000000000000000 (omega arith)).takes r a.0 a.1 in
      let l = (reads_label v).takes a.0.1 b.0 b.1 in
      let none = no_more_takes b.0.1 c.0 c.1 in
      let behind : texts a.0.1 ≡ l.0 = l.2 ∙ ap (λ (us : List (List ℕ)). l.0 ++ us) none ∙ append-nil l.0 in
      let spelled : texts r ≡ decimal a.0.0 ∷ l.0 =
      m.2 ∙ ap (λ (us : List (List ℕ)). us ++ texts a.0.1) m.1.2
      ∙ ap (λ (us : List (List ℕ)). decimal a.0.0 ∷ us) behind in
      let written = subst (λ (us : List (List ℕ)). AreWritten (number a.0.0 ∷ label_pieces b.0.0) us) (sym spelled) (refl, l.1.1) in
      subst (λ (g : ℕ × Label NamedLine). AreFields g (texts r)) (ok_is (a.0.0, b.0.0) f c.2) (record { written = written; moment = m.1.1; label = l.1.0 })

  step_fields_again : (r : Rest) (f : ℕ × Label NamedLine) → AreFields f (texts r) → step_fields v r ≡ Ok f
  step_fields_again r f s =
      let w = first_plain (decimal f.0) (label_pieces f.1) (texts r) s.written in
      let m = (reads_number 0 1000000000000000000 (omega arith)).again r f.0 (decimal f.0 ∷ []) w.0 tt (omega arith, s.moment, refl) w.1 in
      let l = (reads_label v).again m.0 f.1 w.0 [] refl (s.label, w.2) (m.2 ∙ sym (append-nil w.0)) in
      let none = no_more_again l.0 l.2 in
      rw (m.1, l.1, none) refl

  -- ---- a step

  abbrev made : ℕ → Rest → ℕ × Label NamedLine → Step
  made number r f = record { moment = f.0; label = f.1; span = record { line = number; start = 0; stop = r.stop } }

  abbrev done_with : ℕ → Rest → ℕ × Label NamedLine → Result Step TextFault
  done_with number r f = Ok (made number r f)

  abbrev done : Step → Result Step TextFault
  done s = Ok s

  step_takes : (number : ℕ) (raw : List ℕ) (s : Step) → step_of v number raw ≡ Ok s → IsStepText v number s raw
  unfolding step_of
  step_takes number raw s e =
      let a = bind_ok (line_rest number raw) (λ r. step_fields v r >>= done_with number r) s e in
      let b = bind_ok (step_fields v a.0) (done_with number a.0) s a.2 in
      let r = fields_taken number raw a.0 a.1 in
      let f = step_fields_take a.0 b.0 b.1 in
      subst (λ (t : Step). IsStepText v number t raw) (ok_is (made number a.0 b.0) s b.2) (record {
        texts = texts a.0;
        written = f.written;
        line = r.line;
        moment = f.moment;
        label = f.label;
        span = ap (λ (stop : ℕ). record { line = number; start = 0; stop = stop }) r.stop;
      })

  step_clean : (number : ℕ) (raw : List ℕ) (s : Step) (t : IsStepText v number s raw) → AllByRecursion IsClean t.texts
  step_clean number raw s t =
      written_clean (step_pieces s) t.texts
      (IsClean-decimal s.moment (let h = t.moment in omega arith), label_clean v s.label t.label) t.written

  step_again : (number : ℕ) (raw : List ℕ) (s : Step) → IsStepText v number s raw → step_of v number raw ≡ Ok s
  unfolding step_of
  step_again number raw s t =
      let w = first_plain (decimal s.moment) (label_pieces s.label) t.texts t.written in
      let rest = fields_read number raw t.texts (decimal s.moment) w.0 w.1 (step_clean number raw s t) t.line in
      let line = rest.0 in
      let own : Rest = rest_of number (joined t.texts) in
      let written = subst (λ (ts : List (List ℕ)). AreWritten (step_pieces s) ts) (sym rest.1) t.written in
      let fields = step_fields_again own (s.moment, s.label) (record { written = written; moment = t.moment; label = t.label }) in
      let same : made number own (s.moment, s.label) ≡ s = rw (← t.span) refl in
      rw (line, fields) (ap done same)

  -- a line is read as a step exactly where it spells the step
  pub reads_step : IsLineReader (step_of v) (IsStepText v)
  reads_step = record { takes = step_takes; again = step_again }

  -- what spells a step is one line
  pub is_step_raw : (number : ℕ) (s : Step) (raw : List ℕ) → IsStepText v number s raw → IsRaw raw
  is_step_raw number s raw t = is_raw number t.texts raw (step_clean number raw s t) t.line
