-- A case in one text: the lines of its trace, which are kept, and the steps after them.
use Rattle.std.proofs.Common.{◌≡◌, ◌≢◌, ◌⊎◌, inl, inr, ℕ, zero, suc, ◌+◌, ◌≤◌, Bool, true, false, ◌==◌}
use Rattle.std.proofs.Common.{List, [], ◌∷◌, ◌++◌, length, take, drop, Option, None, Some, Result, Ok, Err}
use Rattle.std.proofs.Common.{refl, sym, ap, subst, ◌∙◌, arith, append-nil, length-drop}
use Rattle.std.specs.List.{concat}
use Rattle.std.specs.Option.{option_map}
use Rattle.std.specs.Result.{IfOk}
use Rattle.case_forms.specs.declared.steps.Witness.{Witness}
use Rattle.checker.specs.Verdicts.{verdict}
use Rattle.std.proofs.lemmas.Bool.{cond-true, cond-false, eqb-true, eq-eqb, true≢false}
use Rattle.std.proofs.lemmas.List.Elements.{All-cons, All-nil}
use Rattle.bstr.specs.Text.{lines_of, line_len}
use Rattle.bstr.proofs.lemmas.LineLemmas.{line_len-bounds, lines-nil, lines-step}
use Rattle.bstr.proofs.lemmas.RestLemmas.{concat-lines_of}
use Rattle.case_forms.specs.declared.trace.Line.{Line}
use Rattle.line_fields.proofs.Texts.{one_line, lines_of-line}
use Rattle.line_fields.specs.Lines.{HasNoFeed}
use Rattle.bstr.specs.Text.{without_terminator}
use Rattle.std.proofs.Common.{nat_lt, take-append-drop}
use Rattle.std.specs.Option.{IfSome}
use Rattle.std.specs.Str.{bytes_eq}
use Rattle.std.proofs.lemmas.Slice.Eq.{bytes_eq-Decides}
use Rattle.case_forms.specs.declared.trace.Header.{Header}
use Rattle.case_forms.specs.declared.trace.Trace.{Trace}
use Rattle.case_forms.specs.declared.steps.Step.{Step}
use Rattle.case_forms.specs.declared.version.Version.{Version}
use Rattle.case_forms.specs.declared.version.Version.TheVariants as versions
use Rattle.case_forms.specs.Versions.{named_as}
use Rattle.line_fields.specs.declared.fault.TextFault.{TextFault}
use Rattle.line_fields.specs.Faults.{missing_line}
use Rattle.line_fields.specs.Lines.{is_ended, text_in, line_text, expect_line}
use Rattle.line_fields.specs.Rows.{rows_of}
use Rattle.witness.specs.FirstLine.{first_text, begins_witness}
use Rattle.witness.specs.StepsLeft.{steps_from, first_line}
use Rattle.witness.proofs.StreamLaw.{first_read}
use Rattle.case_lines.specs.FirstLine.{version_named}
use Rattle.trace_reader.specs.TraceText.{trace_of, trace_in}
use Rattle.case_lines.specs.CaseLines.{before_witness, behind_witness, trace_rows, witness_rows, has_met, IsAtEnd}
use Rattle.case_lines.specs.CaseLines.{KeepsWitness}
use Rattle.case_lines.specs.declared.text_lines.TextEnd.{TextEnd}
use Rattle.case_lines.specs.declared.text_lines.TextEnd.TheVariants as ends
use Rattle.case_lines.proofs.CaseLinesLaw.{and_both, short}
use Rattle.trace_reader.proofs.TraceLaw.{trace_named, trace_takes}
use Rattle.verdict.specs.declared.report.Verdict.{Verdict}
use Rattle.checker.specs.declared.case.CaseFault.{CaseFault}
use Rattle.checker.specs.declared.case.CaseFault.TheVariants as faults
use Rattle.checker.specs.Ahead.{TraceFails}
use Rattle.checker.specs.Cases.{cut_place, trace_part, witness_part, case_result}
use Rattle.checker.specs.OneText.{GivesText, AreInText, steps_behind, trace_with}
use Rattle.checker.specs.Streaming.{Tells}
use Rattle.checker.specs.Texts.{GivesTexts}
use Rattle.checker.proofs.CaseLemmas.{concat_both}
use Rattle.checker.proofs.TextLemmas.{trace_tells, texts_tell, verdict_of}
use Rattle.trace_reader.specs.EventLines.{Place, behind}
use Rattle.trace_reader.specs.TraceLeft.{StandsAt, AreAt, place_behind, source_of, end_of_text, rows_behind}
use Rattle.case_lines.specs.TextLeft.{rows_left}
use Rattle.trace_reader.specs.declared.stream.TraceReader.{TraceReader}
use Rattle.counted.specs.declared.ends.Counted.{Counted}
use Rattle.counted.specs.Counting.{left_of}

-- ---- lines that are kept one after the other

pub at_more : (place : Place) (lines : List Line) (line : Line) → AreAt place lines
    → StandsAt (place_behind place lines) line → AreAt place (lines ++ line ∷ [])
at_more place [] line at stands = (stands, tt)
at_more place (l ∷ lines) line at stands = (at.0, at_more (behind place l) lines line at.1 stands)

pub behind_more : (place : Place) (lines : List Line) (line : Line)
    → place_behind place (lines ++ line ∷ []) ≡ behind (place_behind place lines) line
behind_more place [] line = refl
behind_more place (l ∷ lines) line = behind_more (behind place l) lines line

-- ---- the first lines of a text, and its last, are the lines of their bytes

drop_length : (xs : List ℕ) → drop (length xs) xs ≡ []
drop_length [] = refl
drop_length (x ∷ xs) = drop_length xs

take_length : (xs : List ℕ) → take (length xs) xs ≡ xs
take_length [] = refl
take_length (x ∷ xs) = ap (λ (ys : List ℕ). x ∷ ys) (take_length xs)

-- a line goes to the end of the text, or ends with the first LF
abbrev LineEnds : List ℕ → Type 0
LineEnds text =
    (line_len text ≡ length text)
    ⊎ ((front : List ℕ) × HasNoFeed front × (take (line_len text) text ≡ front ++ 10 ∷ []))

feed_ends : (b : ℕ) (rest : List ℕ) → (b == 10) ≡ true → LineEnds (b ∷ rest)
unfolding line_len
feed_ends b rest feed =
    let one : line_len (b ∷ rest) ≡ 1 = cond-true _ _ _ feed in
    let same : b ≡ 10 = eqb-true b 10 feed in
    inr ([], All-nil (λ x. x ≢ 10), ap (λ (m : ℕ). take m (b ∷ rest)) one ∙ ap (λ (x : ℕ). x ∷ []) same)

later_ends : (b : ℕ) (rest : List ℕ) → (b == 10) ≡ false → LineEnds rest → LineEnds (b ∷ rest)
unfolding line_len
later_ends b rest other (inl all) = inl (cond-false _ _ _ other ∙ ap suc all)
later_ends b rest other (inr ends) =
    let more : line_len (b ∷ rest) ≡ suc (line_len rest) = cond-false _ _ _ other in
    let not_feed : b ≢ 10 = λ same. true≢false (sym (eq-eqb b 10 same) ∙ other) in
    inr (
      b ∷ ends.0,
      All-cons (λ x. x ≢ 10) b ends.0 not_feed ends.1,
      ap (λ (m : ℕ). take m (b ∷ rest)) more ∙ ap (λ (xs : List ℕ). b ∷ xs) ends.2,
    )

line_ends : (text : List ℕ) → LineEnds text
unfolding line_len
line_ends [] = inl refl
line_ends (b ∷ rest) = by (b == 10) refl (line_ends rest)
  where
    by : (feed : Bool) → (b == 10) ≡ feed → LineEnds rest → LineEnds (b ∷ rest)
    by true is ends = feed_ends b rest is
    by false is ends = later_ends b rest is ends

-- the lines after the first k
rows_back : (k : ℕ) (text : List ℕ) → lines_of (concat (drop k (lines_of text))) ≡ drop k (lines_of text)
rows_back zero text = ap lines_of (concat-lines_of text)
rows_back (suc k) [] = rw lines-nil lines-nil
rows_back (suc k) (b ∷ bs) =
    let text = b ∷ bs in
    let step : lines_of text ≡ take (line_len text) text ∷ lines_of (drop (line_len text) text) = lines-step text (omega arith) in
    rw step (rows_back k (drop (line_len text) text))

none_taken : (k : ℕ) → concat (take k []) ≡ []
none_taken zero = refl
none_taken (suc k) = refl

-- the first line of a text is that of these bytes, too, which are none if the text has no more
first_row : (text others : List ℕ) → LineEnds text → lines_of text ≡ take (line_len text) text ∷ lines_of (drop (line_len text) text)
    → (drop (line_len text) text ≡ [] → others ≡ [])
    → lines_of (take (line_len text) text ++ others) ≡ take (line_len text) text ∷ lines_of others
first_row text others (inl all) step none =
    let end : drop (line_len text) text ≡ [] = ap (λ (m : ℕ). drop m text) all ∙ drop_length text in
    let whole : take (line_len text) text ≡ text = ap (λ (m : ℕ). take m text) all ∙ take_length text in
    rw (none end, append-nil (take (line_len text) text))
    (ap lines_of whole ∙ step ∙ ap (λ (xs : List ℕ). take (line_len text) text ∷ lines_of xs) end)
first_row text others (inr ends) step none =
    rw ends.2 (lines_of-line (ends.0 ++ 10 ∷ []) others (length ends.0) (one_line ends.0 ends.1))

rows_front : (fuel : ℕ) (text : List ℕ) (k : ℕ) → length text ≤ fuel → lines_of (concat (take k (lines_of text))) ≡ take k (lines_of text)
rows_front fuel text zero le = lines-nil
rows_front fuel [] (suc k) le = rw lines-nil lines-nil
rows_front zero (b ∷ bs) (suc k) le = absurd (omega arith)
rows_front (suc fuel) (b ∷ bs) (suc k) le =
    let text = b ∷ bs in
    let n = line_len text in
    let bounds = line_len-bounds text (omega arith) in
    let left = length-drop n text in
    let step : lines_of text ≡ take n text ∷ lines_of (drop n text) = lines-step text (omega arith) in
    let again = rows_front fuel (drop n text) k (omega (arith, bounds.0, left)) in
    rw step (first_row text (concat (take k (lines_of (drop n text)))) (line_ends text) step
    (λ all. ap (λ (raws : List (List ℕ)). concat (take k raws)) (ap lines_of all ∙ lines-nil) ∙ none_taken k)
    ∙ ap (λ (raws : List (List ℕ)). take n text ∷ raws) again)

-- ---- a case of a version, by its lines

module _ (v : Version) where
  cut_here : (raw : List ℕ) (raws : List (List ℕ)) → begins_witness v raw ≡ true → cut_place v (raw ∷ raws) ≡ 0
  cut_here raw raws is = rw is refl

  cut_later : (raw : List ℕ) (raws : List (List ℕ)) → begins_witness v raw ≡ false → cut_place v (raw ∷ raws) ≡ suc (cut_place v raws)
  cut_later raw raws is =
      let there : cut_place v (raw ∷ raws) ≡ 1 + cut_place v raws = rw is refl in omega (arith, there)

  taken_before : (raws : List (List ℕ)) → take (cut_place v raws) raws ≡ before_witness v raws
  taken_before [] = refl
  taken_before (raw ∷ raws) = by (begins_witness v raw) refl (taken_before raws)
    where
      by : (begins : Bool) → begins_witness v raw ≡ begins → take (cut_place v raws) raws ≡ before_witness v raws
          → take (cut_place v (raw ∷ raws)) (raw ∷ raws) ≡ before_witness v (raw ∷ raws)
      by true is more = ap (λ (n : ℕ). take n (raw ∷ raws)) (cut_here raw raws is) ∙ rw is refl
      by false is more =
          ap (λ (n : ℕ). take n (raw ∷ raws)) (cut_later raw raws is) ∙ ap (λ (rest : List (List ℕ)). raw ∷ rest) more ∙ rw is refl

  -- what is left from the cut on: nothing, or a line that begins the witness, and those after it
  abbrev pub IsBehind : List (List ℕ) → Option (List (List ℕ)) → Type 0
  IsBehind left None = left ≡ []
  IsBehind left (Some rest) = (first : List ℕ) × (begins_witness v first ≡ true) × (left ≡ first ∷ rest)

  dropped_behind : (raws : List (List ℕ)) → IsBehind (drop (cut_place v raws) raws) (behind_witness v raws)
  dropped_behind [] = refl
  dropped_behind (raw ∷ raws) = by (begins_witness v raw) refl (dropped_behind raws)
    where
      by : (begins : Bool) → begins_witness v raw ≡ begins → IsBehind (drop (cut_place v raws) raws) (behind_witness v raws)
          → IsBehind (drop (cut_place v (raw ∷ raws)) (raw ∷ raws)) (behind_witness v (raw ∷ raws))
      by true is more = rw is (raw, is, refl)
      by false is more =
          subst (λ (n : ℕ). IsBehind (drop n (raw ∷ raws)) (behind_witness v (raw ∷ raws))) (sym (cut_later raw raws is)) (rw is more)

  pub trace_lines : (text : List ℕ) → lines_of (trace_part v text) ≡ before_witness v (lines_of text)
  trace_lines text = rows_front (length text) text (cut_place v (lines_of text)) (omega arith) ∙ taken_before (lines_of text)

  pub witness_lines : (text : List ℕ) → IsBehind (lines_of (witness_part v text)) (behind_witness v (lines_of text))
  witness_lines text =
      subst (λ (left : List (List ℕ)). IsBehind left (behind_witness v (lines_of text)))
      (sym (rows_back (cut_place v (lines_of text)) text)) (dropped_behind (lines_of text))

  both_parts : (text : List ℕ) → trace_part v text ++ witness_part v text ≡ text
  both_parts text =
      let k = cut_place v (lines_of text) in
      sym (concat_both (take k (lines_of text)) (drop k (lines_of text))) ∙ ap concat (take-append-drop k (lines_of text)) ∙ concat-lines_of text

-- a line that begins a witness is the first line of a witness of that name
first_named : (v : Version) → first_text (named_as v) ≡ first_text v
first_named versions.One = refl
first_named versions.Two = refl
first_named versions.Three = refl
first_named versions.Four = refl
first_named versions.FourHalf = refl
first_named versions.Five = refl
first_named versions.FiveHalf = refl
first_named versions.Six = refl
first_named versions.SixHalf = refl

text_taken : (text wanted : List ℕ) (ended : Bool) → text ≡ wanted → ended ≡ true → nat_lt 140000 (length wanted) ≡ false
    → text_in 1 text ended ≡ Ok wanted
text_taken text wanted ended is end few = rw (is, end, few) refl

first_text_taken : (v : Version) (raw : List ℕ) → begins_witness (named_as v) raw ≡ true → line_text 1 raw ≡ Ok (first_text v)
unfolding line_text
first_text_taken v raw begins =
    let both = and_both (is_ended raw) (bytes_eq (without_terminator raw) (first_text (named_as v))) begins in
    let text = (bytes_eq-Decides (without_terminator raw) (first_text (named_as v))).0 both.1 ∙ first_named v in
    text_taken (without_terminator raw) (first_text v) (is_ended raw) text both.0 (short v)

expect_first : (v : Version) (raw : List ℕ) → begins_witness (named_as v) raw ≡ true → expect_line 1 (first_text v) raw ≡ Ok tt
unfolding expect_line
expect_first v raw begins =
    let same : bytes_eq (first_text v) (first_text v) ≡ true = (bytes_eq-Decides (first_text v) (first_text v)).1 refl in
    rw (first_text_taken v raw begins, same) refl

-- the steps after that line are those of the witness
steps_same : (v : Version) (first : List ℕ) (rest : List (List ℕ)) → begins_witness (named_as v) first ≡ true
    → steps_from v None (first ∷ rest) ≡ steps_from v (Some 2) rest
steps_same v first rest begins =
    let first_is : first_line v (first ∷ rest) ≡ Ok rest = rw (expect_first v first begins) refl in
    first_read v (Some (first ∷ rest)) (Some rest) first_is

-- ---- the answer to the text

module _ (text : List ℕ) where
  abbrev rows : List (List ℕ)
  rows = lines_of text

  abbrev version : Version
  version = version_named rows

  abbrev trace : List ℕ
  trace = trace_part version text

  abbrev witness : List ℕ
  witness = witness_part version text

  trace_is : trace_of trace ≡ trace_in (before_witness version rows)
  unfolding trace_of
  trace_is = ap trace_in (trace_lines version text)

  gives : (r : Result Verdict CaseFault) → GivesTexts r (Some trace) (Some witness) → GivesText r (Some text)
  unfolding case_result
  gives (Ok v) is = is
  gives (Err (faults.Trace f)) is = is
  gives (Err (faults.Witness f)) is = is
  gives (Err faults.Read) is = tt
  gives (Err faults.OutOfMemory) is = tt

  version_is : (t : Trace) → trace_of trace ≡ Ok t → version ≡ named_as t.header.version
  version_is t is =
      ap (λ (xs : List ℕ). version_named (lines_of xs)) (sym (both_parts version text))
      ∙ trace_named t trace witness (trace_takes trace t is)

  -- the witness was met
  met_in : (h : Header) (lines : List Line) (rest : List (List ℕ)) (r : Result Verdict CaseFault)
      → trace_in (before_witness version rows) ≡ Ok (trace_with h lines) → behind_witness version rows ≡ Some rest
      → Tells h (Some (Ok lines)) (Some (steps_from h.version (Some 2) rest)) r → GivesText r (Some text)
  met_in h lines rest r whole behind tells =
      let read : trace_of trace ≡ Ok (trace_with h lines) = trace_is ∙ whole in
      let cut = subst (IsBehind version (lines_of witness)) behind (witness_lines version text) in
      let begins = subst (λ (v : Version). begins_witness v cut.0 ≡ true) (version_is (trace_with h lines) read) cut.1 in
      let steps : steps_from h.version None (lines_of witness) ≡ steps_from h.version (Some 2) rest =
      ap (steps_from h.version None) cut.2 ∙ steps_same h.version cut.0 rest begins in
      gives r (texts_tell h (Some trace) (Some witness) (Some (Ok lines)) r read
      (subst (λ (s : Result (List Step) TextFault). Tells h (Some (Ok lines)) (Some s) r) (sym steps) tells))

  -- there is none
  none_in : (h : Header) (lines : List Line) → trace_in (before_witness version rows) ≡ Ok (trace_with h lines)
      → behind_witness version rows ≡ None → GivesText (Err (faults.Witness (missing_line 1))) (Some text)
  none_in h lines whole behind =
      let read : trace_of trace ≡ Ok (trace_with h lines) = trace_is ∙ whole in
      let cut = subst (IsBehind version (lines_of witness)) behind (witness_lines version text) in
      gives (Err (faults.Witness (missing_line 1)))
      (texts_tell h (Some trace) (Some witness) (Some (Ok lines)) (Err (faults.Witness (missing_line 1))) read
      ((lines, refl), ap (steps_from h.version None) cut))

  -- the trace has a fault
  fails_in : (e : CaseFault) → TraceFails e (Some (trace_in (before_witness version rows))) → GivesText (Err e) (Some text)
  fails_in e fails =
      gives (Err e) (trace_tells (Some trace) (Some witness) e
      (subst (λ (read : Result Trace TextFault). TraceFails e (Some read)) (sym trace_is) fails))

unknown : (r : Result Verdict CaseFault) → GivesText r None
unknown (Ok v) = tt
unknown (Err (faults.Trace f)) = tt
unknown (Err (faults.Witness f)) = tt
unknown (Err faults.Read) = tt
unknown (Err faults.OutOfMemory) = tt

-- what the reader of a case has left before any of it is read
abbrev pub fresh_rows : Option (List ℕ) → Option (List (List ℕ))
fresh_rows known = option_map (trace_rows ends.Case) (rows_of known)

abbrev pub fresh_behind : Option (List ℕ) → Option (Option (List (List ℕ)))
fresh_behind known = option_map (witness_rows ends.Case) (rows_of known)

pub met_tells : (known left : Option (List ℕ)) (end : TextEnd) (h : Header) (lines : List Line) (r : Result Verdict CaseFault)
    → IfSome (option_map trace_in (fresh_rows known)) (λ whole. whole ≡ Ok (trace_with h lines))
    → KeepsWitness (fresh_behind known) (option_map (witness_rows end) (rows_of left)) → has_met end ≡ true
    → Tells h (Some (Ok lines)) (steps_behind h.version left) r → GivesText r known
met_tells None left end h lines r whole keeps met tells = unknown r
met_tells (Some text) None end h lines r whole keeps met tells = let lost = keeps _ refl in absurd cc
met_tells (Some text) (Some ys) ends.Met h lines r whole keeps met tells =
    let kept = keeps _ refl in
    let behind : behind_witness (version_named (lines_of text)) (lines_of text) ≡ Some (lines_of ys) = cc in
    met_in text h lines (lines_of ys) r whole behind tells
met_tells (Some text) (Some ys) ends.Source h lines r whole keeps met tells = absurd cc
met_tells (Some text) (Some ys) ends.Case h lines r whole keeps met tells = absurd cc
met_tells (Some text) (Some ys) (ends.Witness v) h lines r whole keeps met tells = absurd cc
met_tells (Some text) (Some ys) ends.Over h lines r whole keeps met tells = absurd cc

pub none_tells : (known left : Option (List ℕ)) (end : TextEnd) (h : Header) (lines : List Line)
    → IfSome (option_map trace_in (fresh_rows known)) (λ whole. whole ≡ Ok (trace_with h lines))
    → KeepsWitness (fresh_behind known) (option_map (witness_rows end) (rows_of left)) → has_met end ≡ false
    → IsAtEnd end → GivesText (Err (faults.Witness (missing_line 1))) known
none_tells None left end h lines whole keeps met over = tt
none_tells (Some text) None end h lines whole keeps met over = let lost = keeps _ refl in absurd cc
none_tells (Some text) (Some ys) ends.Source h lines whole keeps met over =
    let kept = keeps _ refl in none_in text h lines whole cc
none_tells (Some text) (Some ys) ends.Over h lines whole keeps met over =
    let kept = keeps _ refl in none_in text h lines whole cc
none_tells (Some text) (Some ys) ends.Met h lines whole keeps met over = absurd cc
none_tells (Some text) (Some ys) ends.Case h lines whole keeps met over = absurd over
none_tells (Some text) (Some ys) (ends.Witness v) h lines whole keeps met over = absurd over

pub fault_tells : (known : Option (List ℕ)) (e : CaseFault) → TraceFails e (option_map trace_in (fresh_rows known)) → GivesText (Err e) known
fault_tells None e fails = unknown (Err e)
fault_tells (Some text) e fails = fails_in text e fails

-- ---- the reader of a case of which nothing was read

pub fresh_same : {A : Type 0} (known : A → Option (List ℕ)) (s : Counted A) (r : TraceReader A) → source_of r ≡ s → end_of_text r ≡ ends.Case
    → (rows_left known r.text ≡ fresh_rows (left_of known s)) × (rows_behind known r ≡ fresh_behind (left_of known s))
fresh_same known s r source end = (
  λ i. option_map (trace_rows (end i)) (rows_of (left_of known (source i))),
  λ i. option_map (witness_rows (end i)) (rows_of (left_of known (source i))),
)

-- the verdict is that on the trace and the witness that the text stands for
pub verdict_in : (r : Result Verdict CaseFault) (known : Option (List ℕ)) (t : Trace) (w : Witness) → GivesText r known
    → AreInText known t w → IfOk r (λ v. v ≡ verdict t w)
unfolding case_result
verdict_in (Err e) known t w gives are = tt
verdict_in (Ok v) None t w gives are = absurd are
verdict_in (Ok v) (Some text) t w gives are = verdict_of (Ok v) (Some (trace text)) (Some (witness text)) t w gives are
