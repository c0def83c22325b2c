-- The lines of a case before its witness, read one by one.
use Rattle.std.proofs.Common.{◌≡◌, ◌⊎◌, inl, inr, ℕ, Bool, true, false, nat_lt, length, List, [], ◌∷◌, Option, None}
use Rattle.std.proofs.Common.{Some, Result, Ok, Err, refl, sym, ap, subst, ◌∙◌, not}
use Rattle.std.specs.Option.{option_map}
use Rattle.std.specs.Prelude.{if◌then◌else◌, ◌&&◌}
use Rattle.std.specs.Str.{bytes_eq}
use Rattle.std.proofs.lemmas.Slice.Eq.{bytes_eq-Decides}
use Rattle.bstr.specs.Text.{without_terminator}
use Rattle.case_forms.specs.declared.version.Version.{Version}
use Rattle.case_forms.specs.declared.version.Version.TheVariants.{One, Two, Three, Four, FourHalf, Five, FiveHalf, Six, SixHalf}
use Rattle.line_fields.specs.declared.fault.FaultKind.{FaultKind}
use Rattle.line_fields.specs.declared.fault.FaultKind.TheVariants.{LineTooLong, TooManyLines, OutOfMemory}
use Rattle.line_fields.specs.declared.fault.TextFault.{TextFault}
use Rattle.line_fields.specs.declared.fault.SourceFault.{SourceFault}
use Rattle.line_fields.specs.Lines.{is_ended, line_text, whole_line}
use Rattle.line_fields.specs.Reading.{Fails}
use Rattle.line_fields.specs.Rows.{TakesRow, next_text, FailsAt}
use Rattle.witness.specs.FirstLine.{first_text, begins_witness}
use Rattle.case_lines.specs.FirstLine.{version_named}
use Rattle.case_lines.specs.declared.text_lines.TextEnd.{TextEnd}
use Rattle.case_lines.specs.declared.text_lines.TextEnd.TheVariants as ends
use Rattle.case_lines.specs.CaseLines.{before_witness, behind_witness, trace_rows, witness_rows, end_with, end_after}
use Rattle.case_lines.specs.CaseLines.{has_met, IsOpen, KeepsWitness}

pub and_both : (x y : Bool) → (x && y) ≡ true → (x ≡ true) × (y ≡ true)
and_both true true h = (refl, refl)
and_both true false h = absurd cc
and_both false y h = absurd cc

-- ---- a case of a version

module _ (v : Version) where
  taken_with : (raw : List ℕ) (rest : List (List ℕ)) → has_met (end_with v raw) ≡ false
      → before_witness v (raw ∷ rest) ≡ raw ∷ trace_rows (end_with v raw) rest
  taken_with raw rest unmet = by (begins_witness v raw) refl
    where
      by : (begins : Bool) → begins_witness v raw ≡ begins → before_witness v (raw ∷ rest) ≡ raw ∷ trace_rows (end_with v raw) rest
      by true is = absurd (let h : has_met (end_with v raw) ≡ true = rw is refl in cc)
      by false is = rw is refl

  kept_with : (raw : List ℕ) (rest : List (List ℕ)) → behind_witness v (raw ∷ rest) ≡ witness_rows (end_with v raw) rest
  kept_with raw rest = by (begins_witness v raw) refl
    where
      by : (begins : Bool) → begins_witness v raw ≡ begins → behind_witness v (raw ∷ rest) ≡ witness_rows (end_with v raw) rest
      by true is = rw is refl
      by false is = rw is refl

-- the first line of a witness is short
pub short : (v : Version) → nat_lt 140000 (length (first_text v)) ≡ false
short One = refl
short Two = refl
short Three = refl
short Four = refl
short FourHalf = refl
short Five = refl
short FiveHalf = refl
short Six = refl
short SixHalf = refl

-- a line that begins a witness isn't too long
begins_short : (v : Version) (number : ℕ) (raw : List ℕ) (e : TextFault) → begins_witness v raw ≡ true
    → line_text number raw ≡ Err e → e.kind ≡ LineTooLong → ⊥
unfolding line_text
begins_short v number raw e begins is long =
    let both = and_both (is_ended raw) (bytes_eq (without_terminator raw) (first_text v)) begins in
    let text : without_terminator raw ≡ first_text v = (bytes_eq-Decides (without_terminator raw) (first_text v)).0 both.1 in
    by (nat_lt 10000000 number) refl (rw (text, short v, both.0) at is)
  where
    by : (many : Bool) → nat_lt 10000000 number ≡ many
        → (if many then Err (record { kind = TooManyLines; span = whole_line number (first_text v) }) else Ok (first_text v)) ≡ Err e → ⊥
    by true is told = cc
    by false is told = cc

long_left : (v : Version) (number : ℕ) (raws : List (List ℕ)) (e : TextFault) → e.kind ≡ LineTooLong
    → next_text number raws ≡ Err e → next_text number (before_witness v raws) ≡ Err e
long_left v number [] e long is = is
long_left v number (raw ∷ rest) e long is = by (begins_witness v raw) refl
  where
    by : (begins : Bool) → begins_witness v raw ≡ begins → next_text number (before_witness v (raw ∷ rest)) ≡ Err e
    by true begins = absurd (begins_short v number raw e begins is long)
    by false begins = rw begins is

long_in : (end : TextEnd) (number : ℕ) (raws : List (List ℕ)) (e : TextFault) → e.kind ≡ LineTooLong → IsOpen end
    → next_text number raws ≡ Err e → next_text number (trace_rows end raws) ≡ Err e
long_in ends.Source number raws e long unended is = absurd unended
long_in ends.Case number raws e long unended is = long_left (version_named raws) number raws e long is
long_in (ends.Witness v) number raws e long unended is = long_left v number raws e long is
long_in ends.Met number raws e long unended is = absurd unended
long_in ends.Over number raws e long unended is = absurd unended

-- a line that is too long, or that memory ran out, is the fault of the trace, too
pub long_fails : (end : TextEnd) (number : ℕ) (a : Option (List (List ℕ))) (e : TextFault) → IsOpen end
    → (e.kind ≡ LineTooLong) ⊎ (e.kind ≡ OutOfMemory) → FailsAt (next_text number) e a
    → FailsAt (next_text number) e (option_map (trace_rows end) a)
long_fails end number None e unended kind fails = tt
long_fails end number (Some raws) e unended (inl long) fails =
    subst (λ (k : FaultKind). Fails k e (next_text number (trace_rows end raws))) (sym long)
    (long_in end number raws e long unended (subst (λ (k : FaultKind). Fails k e (next_text number raws)) long fails))
long_fails end number (Some raws) e unended (inr memory) fails =
    subst (λ (k : FaultKind). Fails k e (next_text number (trace_rows end raws))) (sym memory) tt

-- ---- one line

abbrev one_more_is : Bool → Result Bool SourceFault
one_more_is more = Ok more

pub unmet : (met : Bool) → one_more_is (not met) ≡ Ok true → met ≡ false
unmet true more = absurd cc
unmet false more = refl

taken : (end : TextEnd) (raw : List ℕ) (rest : List (List ℕ)) → IsOpen end → has_met (end_after end raw) ≡ false
    → trace_rows end (raw ∷ rest) ≡ raw ∷ trace_rows (end_after end raw) rest
taken ends.Source raw rest unended unmet = absurd unended
taken ends.Case raw rest unended unmet = taken_with (version_named (raw ∷ [])) raw rest unmet
taken (ends.Witness v) raw rest unended unmet = taken_with v raw rest unmet
taken ends.Met raw rest unended unmet = absurd unended
taken ends.Over raw rest unended unmet = absurd unended

kept : (end : TextEnd) (raw : List ℕ) (rest : List (List ℕ)) → IsOpen end → witness_rows end (raw ∷ rest) ≡ witness_rows (end_after end raw) rest
kept ends.Source raw rest unended = absurd unended
kept ends.Case raw rest unended = kept_with (version_named (raw ∷ [])) raw rest
kept (ends.Witness v) raw rest unended = kept_with v raw rest
kept ends.Met raw rest unended = absurd unended
kept ends.Over raw rest unended = absurd unended

-- a line of the trace was read
pub takes : (end : TextEnd) (a b : Option (List (List ℕ))) (raw : List ℕ) → IsOpen end
    → has_met (end_after end raw) ≡ false → TakesRow a b raw
    → TakesRow (option_map (trace_rows end) a) (option_map (trace_rows (end_after end raw)) b) raw
takes end None b raw unended unmet took = tt
takes end (Some raws) None raw unended unmet took = absurd took
takes end (Some raws) (Some rest) raw unended unmet took = ap (trace_rows end) took ∙ taken end raw rest unended unmet

-- the witness stays what it was
pub keeps : (end : TextEnd) (a b : Option (List (List ℕ))) (raw : List ℕ) → IsOpen end → TakesRow a b raw
    → KeepsWitness (option_map (witness_rows end) a) (option_map (witness_rows (end_after end raw)) b)
keeps end None b raw unended took = λ w is. absurd cc
keeps end (Some raws) None raw unended took = absurd took
keeps end (Some raws) (Some rest) raw unended took =
    let same : witness_rows end raws ≡ witness_rows (end_after end raw) rest = ap (witness_rows end) took ∙ kept end raw rest unended in
    λ w is. ap (λ (x : Option (List (List ℕ))). Some x) (sym same) ∙ is
