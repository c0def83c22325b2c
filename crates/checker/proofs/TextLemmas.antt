-- A case in two texts, told by its header, its lines and its steps.
use Rattle.std.proofs.Common.{◌≡◌, ℕ, List, Option, Some, None, Result, Ok, Err, refl, sym, ap, ◌∙◌}
use Rattle.std.specs.Result.{IfOk}
use Rattle.std.specs.Option.{option_map}
use Rattle.bstr.specs.Text.{lines_of}
use Rattle.case_forms.specs.declared.trace.Header.{Header}
use Rattle.case_forms.specs.declared.trace.Line.{Line}
use Rattle.case_forms.specs.declared.trace.Trace.{Trace}
use Rattle.case_forms.specs.declared.steps.Witness.{Witness}
use Rattle.case_forms.specs.declared.version.Version.{Version}
use Rattle.counted.specs.declared.ends.Counted.{Counted}
use Rattle.counted.specs.Counting.{left_of}
use Rattle.line_fields.specs.declared.fault.TextFault.{TextFault}
use Rattle.line_fields.specs.Rows.{rows_of}
use Rattle.trace_reader.specs.TraceText.{trace_of, trace_in}
use Rattle.case_lines.specs.CaseLines.{trace_rows}
use Rattle.case_lines.specs.declared.text_lines.TextEnd.{TextEnd}
use Rattle.case_lines.specs.declared.text_lines.TextEnd.TheVariants as ends
use Rattle.trace_reader.specs.TraceLeft.{Begins, with_header}
use Rattle.witness.specs.WitnessText.{witness_for}
use Rattle.witness.specs.StepsLeft.{steps_from, steps_of, steps_left, number_read, source_of, version_of}
use Rattle.witness.specs.declared.stream.StepReader.{StepReader}
use Rattle.witness.proofs.StreamLaw.{whole_err, whole_ok}
use Rattle.verdict.specs.declared.report.Verdict.{Verdict}
use Rattle.checker.specs.declared.case.CaseFault.{CaseFault}
use Rattle.checker.specs.declared.case.CaseFault.TheVariants as faults
use Rattle.checker.specs.Cases.{judged, witness_behind}
use Rattle.checker.specs.Verdicts.{verdict}
use Rattle.checker.specs.Ahead.{TraceFails, IsUnread, source_ahead, trace_ahead}
use Rattle.checker.specs.declared.ahead.Ahead.{Ahead}
use Rattle.checker.specs.Streaming.{Tells}
use Rattle.checker.specs.Texts.{GivesTexts, AreOf}

-- a fault of the trace alone
pub trace_tells : (a b : Option (List ℕ)) (e : CaseFault) → TraceFails e (option_map trace_of a) → GivesTexts (Err e) a b
trace_tells None b (faults.Trace f) fails = tt
trace_tells (Some xs) None (faults.Trace f) fails = tt
trace_tells (Some xs) (Some ys) (faults.Trace f) fails = ap (λ (t : Result Trace TextFault). judged t (witness_behind t ys)) (sym fails)
trace_tells a b (faults.Witness f) fails = absurd fails
trace_tells a b faults.Read fails = tt
trace_tells a b faults.OutOfMemory fails = tt

witness_steps : (v : Version) (ys : List ℕ) → steps_of (witness_for v ys) ≡ steps_from v None (lines_of ys)
unfolding witness_for
witness_steps v ys = refl

-- what both texts give behind the header
pub texts_tell : (header : Header) (a b : Option (List ℕ)) (lines : Option (Result (List Line) TextFault)) (r : Result Verdict CaseFault)
    → Begins (option_map trace_of a) lines header → Tells header lines (option_map (steps_from header.version None) (rows_of b)) r → GivesTexts r a b
texts_tell header None b lines (Ok v) begins tells = tt
texts_tell header (Some xs) None lines (Ok v) begins tells = tt
texts_tell header (Some xs) (Some ys) None (Ok v) begins tells = absurd begins
texts_tell header (Some xs) (Some ys) (Some l) (Ok v) begins (all, done, whole, steps, is) =
    let trace : trace_of xs ≡ Ok (record { header = header; lines = all }) = begins ∙ ap (with_header header) whole in
    let read : Result Witness TextFault = witness_for header.version ys in
    let witness : read ≡ Ok (record { version = header.version; steps = done }) =
    whole_ok header.version ys done read refl (witness_steps header.version ys ∙ steps) in
    ap (λ (u : Verdict). Ok u) is ∙ (ap
    (λ (w : Result Witness TextFault). judged (Ok (record { header = header; lines = all })) w) (sym witness)
    ∙ (λ i. judged (sym trace i) (witness_behind (sym trace i) ys)))
texts_tell header None b lines (Err (faults.Trace f)) begins tells = tt
texts_tell header (Some xs) None lines (Err (faults.Trace f)) begins tells = tt
texts_tell header (Some xs) (Some ys) None (Err (faults.Trace f)) begins tells = absurd begins
texts_tell header (Some xs) (Some ys) (Some l) (Err (faults.Trace f)) begins tells =
    let trace : trace_of xs ≡ Err f = begins ∙ ap (with_header header) tells in
    ap (λ (t : Result Trace TextFault). judged t (witness_behind t ys)) (sym trace)
texts_tell header None b lines (Err (faults.Witness f)) begins tells = tt
texts_tell header (Some xs) None lines (Err (faults.Witness f)) begins tells = tt
texts_tell header (Some xs) (Some ys) None (Err (faults.Witness f)) begins tells = absurd begins
texts_tell header (Some xs) (Some ys) (Some l) (Err (faults.Witness f)) begins tells =
    let trace : trace_of xs ≡ Ok (record { header = header; lines = tells.0.0 }) = begins ∙ ap (with_header header) tells.0.1 in
    let witness : witness_for header.version ys ≡ Err f = whole_err (witness_for header.version ys) f (witness_steps header.version ys ∙ tells.1) in
    ap (λ (w : Result Witness TextFault). judged (Ok (record { header = header; lines = tells.0.0 })) w) (sym witness)
    ∙ (λ i. judged (sym trace i) (witness_behind (sym trace i) ys))
texts_tell header a b lines (Err faults.Read) begins tells = tt
texts_tell header a b lines (Err faults.OutOfMemory) begins tells = tt

-- the verdict is that on the trace and the witness that the texts stand for
pub verdict_of : (r : Result Verdict CaseFault) (a b : Option (List ℕ)) (t : Trace) (w : Witness) → GivesTexts r a b
    → AreOf a b t w → IfOk r (λ v. v ≡ verdict t w)
verdict_of (Err e) a b t w gives are = tt
verdict_of (Ok v) None b t w gives are = absurd are
verdict_of (Ok v) (Some xs) None t w gives are = absurd are
verdict_of (Ok v) (Some xs) (Some ys) t w gives are =
    let h : Ok v ≡ Ok (verdict t w) =
    gives ∙ ((λ i. judged (are.0 i) (witness_behind (are.0 i) ys))
    ∙ ap (λ (r : Result Witness TextFault). judged (Ok t) r) are.1) in
    cc

-- ---- readers of which nothing was read

traces_of : (a : Option (List ℕ)) → option_map trace_in (rows_of a) ≡ option_map trace_of a
unfolding trace_of
traces_of None = refl
traces_of (Some xs) = refl

whole_rows : (a : Option (List (List ℕ))) → option_map (trace_rows ends.Source) a ≡ a
whole_rows None = refl
whole_rows (Some raws) = refl

pub fresh_trace : {A : Type 0} (known : A → Option (List ℕ)) (s : Ahead A) (a : Counted A) → source_ahead s ≡ a
    → IsUnread s → trace_ahead known s ≡ option_map trace_of (left_of known a)
fresh_trace known s a is unread =
    ap (λ (end : TextEnd). option_map trace_in (option_map (trace_rows end) (rows_of (left_of known (source_ahead s))))) unread.whole
    ∙ ap (option_map trace_in) (whole_rows (rows_of (left_of known (source_ahead s))))
    ∙ traces_of (left_of known (source_ahead s))
    ∙ ap (λ (x : Counted _). option_map trace_of (left_of known x)) is

pub fresh_steps : {B : Type 0} (known : B → Option (List ℕ)) (s : StepReader B) (v : Version) (b : Counted B)
    → version_of s ≡ v → number_read s ≡ None → source_of s ≡ b
    → steps_left known s ≡ option_map (steps_from v None) (rows_of (left_of known b))
fresh_steps known s v b version none is = λ i. option_map (steps_from (version i) (none i)) (rows_of (left_of known (is i)))
