-- Texts that begin with the same lines, and then have a line that is too long, of the same length, give the same answer.
use Rattle.std.proofs.Common.{◌≡◌, ◌⊎◌, ◌∙◌, sym, ap, subst, refl, inl, inr, Bool, true, false, ℕ, List, [], ◌∷◌, ◌++◌, Some, Result, Ok, Err}
use Rattle.std.proofs.Common.{nat_lt, length}
use Rattle.std.specs.Prelude.{◌&&◌}
use Rattle.std.specs.Str.{bytes_eq}
use Rattle.std.proofs.lemmas.Bool.{false_from_ne_true}
use Rattle.std.proofs.lemmas.Slice.Eq.{bytes_eq-Decides}
use Rattle.bstr.specs.Text.{lines_of, without_terminator}
use Rattle.case_forms.specs.declared.version.Version.{Version}
use Rattle.case_forms.specs.declared.version.Version.TheVariants.{One, Two, Three, Four, FourHalf, Five, FiveHalf, Six, SixHalf}
use Rattle.case_forms.specs.declared.trace.Header.{Header}
use Rattle.case_forms.specs.declared.trace.Trace.{Trace}
use Rattle.case_forms.specs.declared.steps.Witness.{Witness}
use Rattle.case_forms.specs.Versions.{says_sender, says_slack}
use Rattle.line_fields.specs.declared.fault.FaultKind.TheVariants.{LineTooLong}
use Rattle.line_fields.specs.declared.fault.TextFault.{TextFault}
use Rattle.line_fields.specs.Folding.{read_lines}
use Rattle.line_fields.specs.Lines.{expect_line, is_ended, line_rest, line_text, next_raw, text_in}
use Rattle.line_fields.specs.Reading.{◌>>=◌}
use Rattle.line_fields.specs.Word.{Rest}
use Rattle.case_lines.specs.CaseLines.{before_witness, behind_witness}
use Rattle.case_lines.specs.FirstLine.{first_words, version_named}
use Rattle.case_lines.proofs.CaseLinesLaw.{and_both, short}
use Rattle.trace_reader.specs.EventLines.{line_of}
use Rattle.trace_reader.specs.Headers.{both_lines, control_lines, first_line, first_version, header_of, judged_lines, last_line, late_lines}
use Rattle.trace_reader.specs.Headers.{named_rest, next_value, value_line}
use Rattle.trace_reader.specs.TraceText.{events_of, trace_in, trace_of}
use Rattle.witness.specs.FirstLine.{begins_witness, first_text}
use Rattle.witness.specs.Steps.{step_of}
use Rattle.witness.specs.WitnessText.{number_after, witness_for, witness_in}
use Rattle.line_fields.specs.Spelling.{joined}
use Rattle.case_stream.specs.Long.{IsTooLong}
use Rattle.checker.specs.declared.case.CaseFault.TheVariants as faults
use Rattle.checker.specs.Cases.{case_of, case_result, judged, texts_result, trace_part, witness_behind, witness_part}
use Rattle.checker.proofs.OneTextLemmas.{IsBehind, trace_lines, witness_lines}

abbrev Rows : Type 0
Rows = List (List ℕ)

bad : {A : Type 0} → TextFault → Result A TextFault
bad e = Err e

-- both readings have this fault
abbrev Both : {A : Type 0} → Result A TextFault → Result A TextFault → Type 0
Both {A} m n = (e : TextFault) × (m ≡ Err e) × (n ≡ Err e)

both_then : {A B : Type 0} (m n : Result A TextFault) (f g : A → Result B TextFault) → Both m n → Both (m >>= f) (n >>= g)
both_then m n f g b = (b.0, rw b.1 refl, rw b.2 refl)

-- ---- a line that is too long is no line that a text needs

text_taken : (text wanted : List ℕ) (ended : Bool) → text ≡ wanted → ended ≡ true → nat_lt 140000 (length wanted) ≡ false
    → text_in 1 text ended ≡ Ok wanted
text_taken text wanted ended is end few = rw (is, end, few) refl

wanted_taken : (raw wanted : List ℕ) → (is_ended raw && bytes_eq (without_terminator raw) wanted) ≡ true → nat_lt 140000 (length wanted) ≡ false
    → line_text 1 raw ≡ Ok wanted
unfolding line_text
wanted_taken raw wanted is few =
    let parts = and_both (is_ended raw) (bytes_eq (without_terminator raw) wanted) is in
    text_taken (without_terminator raw) wanted (is_ended raw) ((bytes_eq-Decides (without_terminator raw) wanted).0 parts.1) parts.0 few

not_wanted : (size : ℕ) (raw wanted : List ℕ) → IsTooLong size raw → nat_lt 140000 (length wanted) ≡ false
    → (is_ended raw && bytes_eq (without_terminator raw) wanted) ≡ false
not_wanted size raw wanted long few =
    false_from_ne_true _ (λ is. let clash = sym (wanted_taken raw wanted is few) ∙ long 1 in absurd cc)

begins_none : (v : Version) (size : ℕ) (raw : List ℕ) → IsTooLong size raw → begins_witness v raw ≡ false
begins_none v size raw long = not_wanted size raw (first_text v) long (short v)

names_one : (size : ℕ) (raw : List ℕ) (rest : Rows) → IsTooLong size raw → version_named (raw ∷ rest) ≡ One
names_one size raw rest long =
    let two = not_wanted size raw (joined (first_words Two)) long refl in
    let three = not_wanted size raw (joined (first_words Three)) long refl in
    let four = not_wanted size raw (joined (first_words Four)) long refl in
    let five = not_wanted size raw (joined (first_words Five)) long refl in
    let six = not_wanted size raw (joined (first_words Six)) long refl in
    rw (two, three, four, five, six) refl

-- ---- lines that are read up to the line that is too long

module _ (size : ℕ) (one two : List ℕ) (is_one : IsTooLong size one) (is_two : IsTooLong size two) where
  abbrev fault : ℕ → TextFault
  fault number = record { kind = LineTooLong; span = record { line = number; start = 0; stop = size } }

  -- the same lines, and then that line
  record Split (raws others : Rows) : Type 0 where
    lines : Rows
    left : Rows
    right : Rows
    first : raws ≡ lines ++ one ∷ left
    second : others ≡ lines ++ two ∷ right

  -- the same value is read, or there is the same fault
  abbrev Near : {X : Type 0} → Result (X × Rows) TextFault → Result (X × Rows) TextFault → Type 0
  Near (Ok x) (Ok y) = (x.0 ≡ y.0) × Split x.1 y.1
  Near (Ok x) (Err f) = ⊥
  Near (Err e) (Ok y) = ⊥
  Near (Err e) (Err f) = e ≡ f

  near_then : {X Y : Type 0} (m n : Result (X × Rows) TextFault) (f : X × Rows → Result (Y × Rows) TextFault) → Near m n
      → ((x : X) (raws others : Rows) → Split raws others → Near (f (x, raws)) (f (x, others))) → Near (m >>= f) (n >>= f)
  near_then (Ok x) (Ok y) f near more =
      subst (λ k. Near (f x) (f (k, y.1))) near.0 (more x.0 x.1 y.1 near.1)
  near_then (Ok x) (Err g) f near more = absurd near
  near_then (Err e) (Ok y) f near more = absurd near
  near_then (Err e) (Err g) f near more = near

  -- the next line, read so
  abbrev next_by : {X : Type 0} → ℕ → (List ℕ → Result X TextFault) → Rows → Result (X × Rows) TextFault
  next_by number read raws = next_raw number raws >>= λ raw. read raw.0 >>= λ a. Ok (a, raw.1)

  near_next : {X : Type 0} (number : ℕ) (read : List ℕ → Result X TextFault) → Both (read one) (read two)
      → (raws others : Rows) → Split raws others → Near (next_by number read raws) (next_by number read others)
  near_next {X} number read both raws others split =
      subst (λ xs. Near (next_by number read xs) (next_by number read others)) (sym split.first)
      (subst (λ ys. Near (next_by number read (split.lines ++ one ∷ split.left)) (next_by number read ys)) (sym split.second) (by split.lines))
    where
      taken : (lines : Rows) (o : Result X TextFault)
          → Near (o >>= λ a. Ok (a, lines ++ one ∷ split.left)) (o >>= λ a. Ok (a, lines ++ two ∷ split.right))
      taken lines (Ok x) = (refl, record { lines = lines; left = split.left; right = split.right; first = refl; second = refl })
      taken lines (Err e) = refl

      by : (lines : Rows) → Near (next_by number read (lines ++ one ∷ split.left)) (next_by number read (lines ++ two ∷ split.right))
      by [] = rw (both.1, both.2) refl
      by (raw ∷ lines) = taken lines (read raw)

  near_value : {A : Type 0} (number : ℕ) (name : List ℕ) (read : Rest → Result (A × Rest) TextFault) (raws others : Rows)
      → Split raws others → Near (next_value number name read raws) (next_value number name read others)
  unfolding next_value value_line named_rest line_rest
  near_value number name read raws others split =
      near_next number (value_line number name read) (fault number, rw (is_one number) refl, rw (is_two number) refl) raws others split

  near_first : (raws others : Rows) → Split raws others → Near (first_line raws) (first_line others)
  unfolding first_line first_version
  near_first raws others split =
      near_next 1 first_version (fault 1, rw (is_one 1) refl, rw (is_two 1) refl) raws others split

  near_last : (v : Version) (raws others : Rows) → Split raws others → Near (last_line v raws) (last_line v others)
  near_last v raws others split = by (says_slack v) refl
    where
      by : (b : Bool) → says_slack v ≡ b → Near (last_line v raws) (last_line v others)
      by true is = rw is (near_value _ _ _ raws others split)
      by false is = rw is (refl, split)

  near_control : (v : Version) (raws others : Rows) → Split raws others → Near (control_lines v raws) (control_lines v others)
  unfolding both_lines
  near_control v raws others split = by (says_sender v) refl
    where
      by : (b : Bool) → says_sender v ≡ b → Near (control_lines v raws) (control_lines v others)
      by true is =
          rw is (near_then _ _ _ (near_value _ _ _ raws others split) (λ sender r1 o1 s1.
          near_then _ _ _ (near_value _ _ _ r1 o1 s1) (λ growth r2 o2 s2. (refl, s2))))
      by false is = rw is (refl, split)

  near_judged : (v : Version) (raws others : Rows) → Split raws others → Near (judged_lines v raws) (judged_lines v others)
  near_judged v raws others split =
      near_then _ _ _ (near_value _ _ _ raws others split) (λ initial r1 o1 s1.
      near_then _ _ _ (near_value _ _ _ r1 o1 s1) (λ hosts r2 o2 s2.
      near_then _ _ _ (near_value _ _ _ r2 o2 s2) (λ congestion r3 o3 s3.
      near_then _ _ _ (near_last v r3 o3 s3) (λ slack r4 o4 s4.
      near_then _ _ _ (near_control v r4 o4 s4) (λ control r5 o5 s5. (refl, s5))))))

  near_late : (v : Version) (raws others : Rows) → Split raws others → Near (late_lines v raws) (late_lines v others)
  near_late One raws others split = (refl, split)
  near_late Two raws others split = near_then _ _ _ (near_value _ _ _ raws others split) (λ initial r1 o1 s1. (refl, s1))
  near_late Three raws others split =
      near_then _ _ _ (near_value _ _ _ raws others split) (λ initial r1 o1 s1.
      near_then _ _ _ (near_value _ _ _ r1 o1 s1) (λ half r2 o2 s2. (refl, s2)))
  near_late Four raws others split = near_judged Four raws others split
  near_late FourHalf raws others split = near_judged FourHalf raws others split
  near_late Five raws others split = near_judged Five raws others split
  near_late FiveHalf raws others split = near_judged FiveHalf raws others split
  near_late Six raws others split = near_judged Six raws others split
  near_late SixHalf raws others split = near_judged SixHalf raws others split

  near_header : (raws others : Rows) → Split raws others → Near (header_of raws) (header_of others)
  unfolding header_of
  near_header raws others split =
      near_then _ _ _ (near_first raws others split) (λ version r1 o1 s1.
      near_then _ _ _ (near_value _ _ _ r1 o1 s1) (λ skew r2 o2 s2.
      near_then _ _ _ (near_value _ _ _ r2 o2 s2) (λ msl r3 o3 s3.
      near_then _ _ _ (near_value _ _ _ r3 o3 s3) (λ grain r4 o4 s4.
      near_then _ _ _ (near_value _ _ _ r4 o4 s4) (λ minrto r5 o5 s5.
      near_then _ _ _ (near_value _ _ _ r5 o5 s5) (λ extra r6 o6 s6.
      near_then _ _ _ (near_late version r6 o6 s6) (λ late r7 o7 s7. (refl, s7))))))))

  -- lines that are read one after the other
  both_fail : {S A : Type 0} (read : S → List ℕ → Result A TextFault) (after : S → A → S) → ((state : S) → Both (read state one) (read state two))
      → (state : S) (lines left right : Rows)
      → Both (read_lines read after state (lines ++ one ∷ left)) (read_lines read after state (lines ++ two ∷ right))
  unfolding read_lines
  both_fail read after fail state [] left right = both_then (read state one) (read state two) _ _ (fail state)
  both_fail {S} {A} read after fail state (raw ∷ lines) left right =
      by (read state raw) (λ item. both_fail read after fail (after state item) lines left right)
    where
      by : (o : Result A TextFault)
          → ((item : A) → Both (read_lines read after (after state item) (lines ++ one ∷ left))
          (read_lines read after (after state item) (lines ++ two ∷ right)))
          → Both {A = List A} (o >>= λ item. read_lines read after (after state item) (lines ++ one ∷ left) >>= λ items. Ok (item ∷ items))
          (o >>= λ item. read_lines read after (after state item) (lines ++ two ∷ right) >>= λ items. Ok (item ∷ items))
      by (Err e) more = (e, refl, refl)
      by (Ok item) more =
          both_then (read_lines read after (after state item) (lines ++ one ∷ left))
          (read_lines read after (after state item) (lines ++ two ∷ right)) _ _ (more item)

  both_split : {S A : Type 0} (read : S → List ℕ → Result A TextFault) (after : S → A → S) → ((state : S) → Both (read state one) (read state two))
      → (state : S) (raws others : Rows) → Split raws others → Both (read_lines read after state raws) (read_lines read after state others)
  both_split read after fail state raws others split =
      let b = both_fail read after fail state split.lines split.left split.right in
      (b.0, ap (read_lines read after state) split.first ∙ b.1, ap (read_lines read after state) split.second ∙ b.2)

  event_fails : (v : Version) (place : ℕ × ℕ) → Both (line_of v place one) (line_of v place two)
  unfolding line_of line_rest
  event_fails v place = (fault place.1, rw (is_one place.1) refl, rw (is_two place.1) refl)

  step_fails : (v : Version) (number : ℕ) → Both (step_of v number one) (step_of v number two)
  unfolding step_of line_rest
  step_fails v number = (fault number, rw (is_one number) refl, rw (is_two number) refl)

  -- a trace with such a line
  abbrev with_header : Header × Rows → Result Trace TextFault
  with_header header = events_of header.0 header.1 >>= λ lines. Ok (record { header = header.0; lines = lines })

  both_traces : (raws others : Rows) → Split raws others → Both (trace_in raws) (trace_in others)
  both_traces raws others split = by (header_of raws) (header_of others) (near_header raws others split)
    where
      by : (m n : Result (Header × Rows) TextFault) → Near m n → Both (m >>= with_header) (n >>= with_header)
      by (Ok x) (Ok y) near =
          subst (λ (h : Header). Both (with_header x) (with_header (h, y.1))) near.0
          (both_then (events_of x.0 x.1) (events_of x.0 y.1) _ _ (both_split _ _ (event_fails x.0.version) _ x.1 y.1 near.1))
      by (Ok x) (Err f) near = absurd near
      by (Err e) (Ok y) near = absurd near
      by (Err e) (Err f) near = (f, ap (λ (x : TextFault). Err x) near, refl)

  -- a witness with such a line behind its first one
  abbrev with_steps : Version → Rows → Result Witness TextFault
  with_steps v rows = read_lines (step_of v) number_after 2 rows >>= λ steps. Ok (record { version = v; steps = steps })

  both_witnesses : (v : Version) (first other : List ℕ) (raws others : Rows) → line_text 1 first ≡ line_text 1 other → Split raws others
      → Both (witness_in v (first ∷ raws)) (witness_in v (other ∷ others))
  unfolding expect_line
  both_witnesses v first other raws others same split = rw same (by (expect_line 1 (first_text v) other))
    where
      by : (o : Result (Unit {0}) TextFault) → Both (o >>= λ begun. with_steps v raws) (o >>= λ begun. with_steps v others)
      by (Err e) = (e, refl, refl)
      by (Ok u) =
          both_then (read_lines (step_of v) number_after 2 raws) (read_lines (step_of v) number_after 2 others) _ _
          (both_split (step_of v) number_after (step_fails v) 2 raws others split)

  -- ---- where the witness begins

  module _ (v : Version) where
    record IsBefore (raws others : Rows) : Type 0 where
      same : before_witness v raws ≡ before_witness v others
      left : Rows
      right : Rows
      behind : behind_witness v raws ≡ Some left
      other : behind_witness v others ≡ Some right
      split : Split left right

    -- before that line, or not
    cut_at : (lines left right : Rows)
        → Split (before_witness v (lines ++ one ∷ left)) (before_witness v (lines ++ two ∷ right)) ⊎ IsBefore (lines ++ one ∷ left) (lines ++ two ∷ right)
    cut_at [] left right =
        inl (record {
          lines = [];
          left = before_witness v left;
          right = before_witness v right;
          first = rw (begins_none v size one is_one) refl;
          second = rw (begins_none v size two is_two) refl;
        })
    cut_at (raw ∷ lines) left right = by (begins_witness v raw) refl (cut_at lines left right)
      where
        by : (b : Bool) → begins_witness v raw ≡ b
            → Split (before_witness v (lines ++ one ∷ left)) (before_witness v (lines ++ two ∷ right))
            ⊎ IsBefore (lines ++ one ∷ left) (lines ++ two ∷ right)
            → Split (before_witness v (raw ∷ lines ++ one ∷ left)) (before_witness v (raw ∷ lines ++ two ∷ right))
            ⊎ IsBefore (raw ∷ lines ++ one ∷ left) (raw ∷ lines ++ two ∷ right)
        by true is more =
            inr (record {
              same = rw is refl;
              left = lines ++ one ∷ left;
              right = lines ++ two ∷ right;
              behind = rw is refl;
              other = rw is refl;
              split = record { lines = lines; left = left; right = right; first = refl; second = refl };
            })
        by false is (inl s) =
            inl (record {
              lines = raw ∷ s.lines;
              left = s.left;
              right = s.right;
              first = rw is (ap (λ (xs : Rows). raw ∷ xs) s.first);
              second = rw is (ap (λ (xs : Rows). raw ∷ xs) s.second);
            })
        by false is (inr b) =
            inr (record {
              same = rw is (ap (λ (xs : Rows). raw ∷ xs) b.same);
              left = b.left;
              right = b.right;
              behind = rw is b.behind;
              other = rw is b.other;
              split = b.split;
            })

    -- ---- the answers

    fails : (trace witness : List ℕ) (e : TextFault) → trace_of trace ≡ Err e → texts_result trace witness ≡ Err (faults.Trace e)
    fails trace witness e is = rw is refl

    module _ (a b : List ℕ) where
      trace_is : (text : List ℕ) → trace_of (trace_part v text) ≡ trace_in (before_witness v (lines_of text))
      unfolding trace_of
      trace_is text = ap trace_in (trace_lines v text)

      in_trace : Split (before_witness v (lines_of a)) (before_witness v (lines_of b)) → case_of v a ≡ case_of v b
      in_trace split =
          let both = both_traces (before_witness v (lines_of a)) (before_witness v (lines_of b)) split in
          fails (trace_part v a) (witness_part v a) both.0 (trace_is a ∙ both.1)
          ∙ sym (fails (trace_part v b) (witness_part v b) both.0 (trace_is b ∙ both.2))

      witness_same : (u : Version) → IsBefore (lines_of a) (lines_of b) → witness_for u (witness_part v a) ≡ witness_for u (witness_part v b)
      unfolding witness_for
      witness_same u before =
          let first = subst (IsBehind v (lines_of (witness_part v a))) before.behind (witness_lines v a) in
          let other = subst (IsBehind v (lines_of (witness_part v b))) before.other (witness_lines v b) in
          let same = wanted_taken first.0 (first_text v) first.1 (short v) ∙ sym (wanted_taken other.0 (first_text v) other.1 (short v)) in
          let both = both_witnesses u first.0 other.0 before.left before.right same before.split in
          ap (witness_in u) first.2 ∙ both.1 ∙ sym (ap (witness_in u) other.2 ∙ both.2)

      in_witness : IsBefore (lines_of a) (lines_of b) → case_of v a ≡ case_of v b
      in_witness before =
          let trace : trace_of (trace_part v a) ≡ trace_of (trace_part v b) = trace_is a ∙ ap trace_in before.same ∙ sym (trace_is b) in
          ap (λ (o : Result Trace TextFault). judged o (witness_behind o (witness_part v a))) trace ∙ by (trace_of (trace_part v b))
        where
          by : (o : Result Trace TextFault) → judged o (witness_behind o (witness_part v a)) ≡ judged o (witness_behind o (witness_part v b))
          by (Err e) = refl
          by (Ok t) = ap (λ (w : Result Witness TextFault). judged (Ok t) w) (witness_same t.header.version before)

      same_case : (lines left right : Rows) → lines_of a ≡ lines ++ one ∷ left → lines_of b ≡ lines ++ two ∷ right → case_of v a ≡ case_of v b
      same_case lines left right first second =
          by (subst (λ (xs : Rows). Split (before_witness v xs) (before_witness v (lines_of b)) ⊎ IsBefore xs (lines_of b)) (sym first)
          (subst (λ (ys : Rows). Split (before_witness v (lines ++ one ∷ left)) (before_witness v ys) ⊎ IsBefore (lines ++ one ∷ left) ys) (sym second)
          (cut_at lines left right)))
        where
          by : Split (before_witness v (lines_of a)) (before_witness v (lines_of b)) ⊎ IsBefore (lines_of a) (lines_of b) → case_of v a ≡ case_of v b
          by (inl split) = in_trace split
          by (inr before) = in_witness before

  same_version : (lines left right : Rows) → version_named (lines ++ one ∷ left) ≡ version_named (lines ++ two ∷ right)
  same_version [] left right = names_one size one left is_one ∙ sym (names_one size two right is_two)
  same_version (raw ∷ lines) left right = refl

  pub same_result : (a b : List ℕ) (lines left right : Rows) → lines_of a ≡ lines ++ one ∷ left → lines_of b ≡ lines ++ two ∷ right
      → case_result a ≡ case_result b
  unfolding case_result
  same_result a b lines left right first second =
      let named : version_named (lines_of a) ≡ version_named (lines_of b) =
      ap version_named first ∙ same_version lines left right ∙ ap version_named (sym second) in
      ap (λ (v : Version). case_of v a) named ∙ same_case (version_named (lines_of b)) a b lines left right first second
