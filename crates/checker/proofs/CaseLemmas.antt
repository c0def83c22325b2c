-- A case, cut at its first line that begins a witness, and its first fault.
use Rattle.std.proofs.Common.{◌≡◌, ◌≢◌, ◌+◌, ℕ, true, false, List, [], ◌∷◌, ◌++◌, length, take, drop, refl, sym, ap}
use Rattle.std.proofs.Common.{◌∙◌, arith, append-nil, append_assoc, length-append, Some, Result, Ok, Err}
use Rattle.std.specs.List.{AllByRecursion, concat}
use Rattle.std.proofs.lemmas.List.{take_at, drop_at}
use Rattle.bstr.specs.Text.{lines_of}
use Rattle.bstr.proofs.lemmas.RestLemmas.{concat-lines_of}
use Rattle.case_forms.specs.declared.version.Version.{Version}
use Rattle.case_lines.specs.FirstLine.{version_named}
use Rattle.witness.specs.FirstLine.{begins_witness}
use Rattle.checker.specs.declared.case.CaseFault.TheVariants as faults
use Rattle.verdict.specs.declared.report.Verdict.{Verdict}
use Rattle.checker.specs.declared.case.CaseFault.{CaseFault}
use Rattle.checker.specs.Cases.{cut_place, trace_part, witness_part, case_of, case_result, GivesCase}
use Rattle.checker.specs.Texts.{GivesTexts}

pub concat_both : (xs ys : List (List ℕ)) → concat (xs ++ ys) ≡ concat xs ++ concat ys
concat_both [] ys = refl
concat_both (x ∷ xs) ys = ap (λ (zs : List ℕ). x ++ zs) (concat_both xs ys) ∙ sym (append_assoc x (concat xs) (concat ys))

-- a case of a version
module _ (v : Version) where
  -- lines of which none begins a witness
  abbrev pub AreTraceLines : List (List ℕ) → Type 0
  AreTraceLines raws = AllByRecursion (λ raw. begins_witness v raw ≡ false) raws

  pub place_found : (front : List (List ℕ)) (raw : List ℕ) (rest : List (List ℕ)) → AreTraceLines front
      → begins_witness v raw ≡ true → cut_place v (front ++ raw ∷ rest) ≡ length front
  place_found [] raw rest none begins = rw begins refl
  place_found (r ∷ front) raw rest none begins =
      rw none.0 (let there : cut_place v (front ++ raw ∷ rest) ≡ length front =
      place_found front raw rest none.1 begins in omega arith)

  place_end : (front : List (List ℕ)) → AreTraceLines front → cut_place v front ≡ length front
  place_end [] none = refl
  place_end (r ∷ front) none = rw none.0 (let there : cut_place v front ≡ length front = place_end front none.1 in omega arith)

  pub more_trace_lines : (front : List (List ℕ)) (raw : List ℕ) → AreTraceLines front → begins_witness v raw ≡ false → AreTraceLines (front ++ raw ∷ [])
  more_trace_lines [] raw none begins = (begins, tt)
  more_trace_lines (r ∷ front) raw none begins = (none.0, more_trace_lines front raw none.1 begins)

  -- how far the loop has come: the lines so far are of the trace, and `at` is behind them
  pub record IsCutSoFar (text : List ℕ) (at : ℕ) (left : List (List ℕ)) : Type 0 where
    pub front : List (List ℕ)
    pub lines : front ++ left ≡ lines_of text
    pub none : AreTraceLines front
    pub here : at ≡ length (concat front)

  whole : (text : List ℕ) (front left : List (List ℕ)) → front ++ left ≡ lines_of text → text ≡ concat front ++ concat left
  whole text front left lines = sym (concat-lines_of text) ∙ ap concat (sym lines) ∙ concat_both front left

  pub cut_within : (text : List ℕ) (at : ℕ) (left : List (List ℕ)) → IsCutSoFar text at left → at + length (concat left) ≡ length text
  cut_within text at left c =
      let all = ap length (whole text c.front left c.lines) in
      let both = length-append (concat c.front) (concat left) in
      omega (arith, all, both, c.here)

  pub cut_start : (text : List ℕ) → IsCutSoFar text 0 (lines_of text)
  cut_start text = record { front = []; lines = refl; none = tt; here = refl }

  pub cut_more : (text : List ℕ) (at : ℕ) (raw : List ℕ) (left : List (List ℕ)) → IsCutSoFar text at (raw ∷ left)
      → begins_witness v raw ≡ false → IsCutSoFar text (at + length raw) left
  cut_more text at raw left c begins = record {
    front = c.front ++ raw ∷ [];
    lines = append_assoc c.front (raw ∷ []) left ∙ c.lines;
    none = more_trace_lines c.front raw c.none begins;
    here =
        let one = ap length (concat_both c.front (raw ∷ [])) in
        let both = length-append (concat c.front) (raw ++ []) in
        let same = ap length (append-nil raw) in
        omega (arith, one, both, same, c.here);
  }

  front_is : (text : List ℕ) (at : ℕ) (left : List (List ℕ)) (c : IsCutSoFar text at left) → (take at text ≡ concat c.front) × (drop at text ≡ concat left)
  front_is text at left c =
      let all = whole text c.front left c.lines in
      (ap (take at) all ∙ take_at (concat c.front) (concat left) at (sym c.here), ap (drop at) all ∙ drop_at (concat c.front) (concat left) at (sym c.here))

  -- the parts, where the place of the cut is known
  pub parts_at : (text : List ℕ) (front left : List (List ℕ)) → front ++ left ≡ lines_of text
      → cut_place v (front ++ left) ≡ length front
      → (trace_part v text ≡ concat front) × (witness_part v text ≡ concat left)
  parts_at text front left lines place =
      let same : cut_place v (lines_of text) ≡ length front = ap (cut_place v) (sym lines) ∙ place in (
        ap (λ (n : ℕ). concat (take n (lines_of text))) same
            ∙ ap (λ (raws : List (List ℕ)). concat (take (length front) raws)) (sym lines)
            ∙ ap concat (take_at front left (length front) refl),
        ap (λ (n : ℕ). concat (drop n (lines_of text))) same
            ∙ ap (λ (raws : List (List ℕ)). concat (drop (length front) raws)) (sym lines)
            ∙ ap concat (drop_at front left (length front) refl),
      )

  pub cut_found : (text : List ℕ) (at : ℕ) (raw : List ℕ) (left : List (List ℕ)) → IsCutSoFar text at (raw ∷ left)
      → begins_witness v raw ≡ true → (take at text ≡ trace_part v text) × (drop at text ≡ witness_part v text)
  cut_found text at raw left c begins =
      let parts = parts_at text c.front (raw ∷ left) c.lines (place_found c.front raw left c.none begins) in
      let here = front_is text at (raw ∷ left) c in
      (here.0 ∙ sym parts.0, here.1 ∙ sym parts.1)

  pub cut_end : (text : List ℕ) (at : ℕ) → IsCutSoFar text at [] → (take at text ≡ trace_part v text) × (drop at text ≡ witness_part v text)
  cut_end text at c =
      let parts = parts_at text c.front [] c.lines (ap (cut_place v) (append-nil c.front) ∙ place_end c.front c.none) in
      let here = front_is text at [] c in
      (here.0 ∙ sym parts.0, here.1 ∙ sym parts.1)

-- a case's two parts, read one behind the other, give the case's answer
pub case_is : (text : List ℕ) (given : Result Verdict CaseFault) → let v = version_named (lines_of text) in
    GivesTexts given (Some (trace_part v text)) (Some (witness_part v text)) → given ≢ Err faults.Read
    → GivesCase given (case_result text)
unfolding case_result
case_is text given gives unread = by given gives unread
  where
    v : Version
    v = version_named (lines_of text)

    by : (r : Result Verdict CaseFault) → GivesTexts r (Some (trace_part v text)) (Some (witness_part v text))
        → r ≢ Err faults.Read → GivesCase r (case_of v text)
    by (Ok verdict) is unread = is
    by (Err (faults.Trace f)) is unread = is
    by (Err (faults.Witness f)) is unread = is
    by (Err faults.Read) is unread = absurd (unread refl)
    by (Err faults.OutOfMemory) is unread = tt
