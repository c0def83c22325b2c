-- The start and the end of the loop that replays a witness while the lines of the trace are read.
use Rattle.std.proofs.Common.{◌≡◌, ◌+◌, ℕ, Bool, true, false, List, [], ◌∷◌, ◌++◌, Option, Some, None, Result, Ok, Err}
use Rattle.std.proofs.Common.{IfSome, refl, sym, ap, ◌∙◌, subst, arith, append_assoc, append-nil}
use Rattle.std.specs.Result.{IfOk}
use Rattle.std.specs.Prelude.{count_by, not, cond}
use Rattle.std.specs.List.{enumerate_from}
use Rattle.std.proofs.lemmas.List.Sums.{sum_by-cons, sum_by-append}
use Rattle.case_forms.specs.declared.trace.Header.{Header}
use Rattle.case_forms.specs.Traces.{first_event_line}
use Rattle.case_forms.specs.declared.trace.Line.{Line}
use Rattle.case_forms.specs.declared.steps.Step.{Step}
use Rattle.verdict.specs.declared.rule.Rule.{Rule}
use Rattle.verdict.specs.declared.rule.Rule.TheVariants.{Unplaced}
use Rattle.verdict.specs.declared.report.Verdict.{Verdict}
use Rattle.verdict.specs.declared.report.Verdict.TheVariants.{No}
use Rattle.line_fields.specs.declared.fault.TextFault.{TextFault}
use Rattle.line_fields.specs.Left.{Yields}
use Rattle.trace_reader.specs.TraceLeft.{lines_left}
use Rattle.interval_order.specs.Orders.{Order, order_of}
use Rattle.spec_cases.specs.Cases.{Watched as Progress, late_at_end, start, first_known}
use Rattle.checker.specs.declared.case.CaseFault.{CaseFault}
use Rattle.checker.specs.declared.case.CaseFault.TheVariants as faults
use Rattle.checker.specs.declared.turns.StepCounts.{StepCounts}
use Rattle.checker.specs.declared.ahead.Ahead.{Ahead}
use Rattle.checker.specs.Verdicts.{takes_line, verdict_left, verdict_from}
use Rattle.checker.specs.Ahead.{left_with, left_ahead, line_ahead, Passes, IsInStep, IsAll, TraceFails, WitnessFails}
use Rattle.checker.specs.Streaming.{SoFar, Tallied, Ends, CaseFails, Tells, verdict_on, first_of_both}
use Rattle.checker.specs.Turns.{IsBroken, counted_with}
use Rattle.checker.proofs.CheckLemmas.{begun}
use Rattle.checker.proofs.AheadLemmas.{err_before, ok_before, none_passed, one_passed, all_passed, whole_of_rest, trace_fails_before, witness_fails_before}
use Rattle.checker.proofs.TurnLemmas.{trace_first}
use Rattle.checker.proofs.StreamTurns.{all_done}

-- ---- the start

pub starts : (header : Header) (lines : Option (Result (List Line) TextFault)) (steps : Option (Result (List Step) TextFault)) (o : Order) (p : Progress)
    → o ≡ record { header = header; next = first_event_line header; held = []; last = 0 } → p ≡ start header → SoFar header lines lines steps steps o p [] []
starts header lines steps o p offered is = record {
  passed = none_passed lines;
  done = none_passed steps;
  come = begun header [] o p (offered ∙ ap (λ n. let x : Order = record { header = header; next = n; held = []; last = 0 } in x) (omega arith)) is;
  below = λ n le. refl;
  told = λ all whole rest. refl;
}

-- the same where all lines were offered before
pub starts_offered : {A : Type 0} (known : A → Option (List ℕ)) (left : Ahead A) (header : Header) (lines : List Line)
    (steps : Option (Result (List Step) TextFault)) (o : Order) (p : Progress)
    → line_ahead left ≡ None → o ≡ order_of header lines [] → p ≡ start header
    → SoFar header (Some (Ok lines)) (left_ahead known left) steps steps o p lines []
starts_offered known left header lines steps o p end offered is =
    subst (λ (line : Option Line). SoFar header (Some (Ok lines)) (left_with line (lines_left known left.reader)) steps steps o p lines [])
    (sym end)
    (record {
      passed = ap (λ (ls : List Line). Ok ls) (sym (append-nil lines));
      done = none_passed steps;
      come = begun header lines o p offered is;
      below = λ n le. refl;
      told = λ all whole rest. refl;
    })

-- the verdict on lists, which have no fault
pub listed_verdict : (header : Header) (lines : List Line) (steps : List Step) (r : Result Verdict CaseFault)
    → Tells header (Some (Ok lines)) (Some (Ok steps)) r → IfOk r (λ v. v ≡ verdict_from header lines [] (first_known header) steps)
listed_verdict header lines steps (Ok v) (all, done, whole, read, is) =
    let lines_are : all ≡ lines = cc in
    let steps_are : done ≡ steps = cc in
    is ∙ ap (λ (ls : List Line). verdict_on header ls [] done) lines_are ∙ ap (verdict_on header lines []) steps_are
listed_verdict header lines steps (Err e) tells = tt

-- ---- one step more is counted

pub tally_more : (earlier : List Step) (s : Step) (t : StepCounts) → Tallied earlier t.lines t.hidden
    → Tallied (earlier ++ s ∷ []) (counted_with t (takes_line s.label)).lines (counted_with t (takes_line s.label)).hidden
tally_more earlier s t h = by_test (takes_line s.label) refl
  where
    both : (test : Step → Bool) → count_by test (earlier ++ s ∷ []) ≡ count_by test earlier + (cond (test s) 1 0 + count_by test [])
    both test = sum_by-append (λ x. cond (test x) 1 0) earlier (s ∷ []) ∙ ap (λ (n : ℕ). count_by test earlier + n) (sum_by-cons (λ x. cond (test x) 1 0) s [])

    more : (test : Step → Bool) → test s ≡ true → count_by test (earlier ++ s ∷ []) ≡ count_by test earlier + 1
    more test is = both test ∙ ap (λ (b : Bool). count_by test earlier + (cond b 1 0 + 0)) is

    same : (test : Step → Bool) → test s ≡ false → count_by test (earlier ++ s ∷ []) ≡ count_by test earlier
    same test is = let all = both test ∙ ap (λ (b : Bool). count_by test earlier + (cond b 1 0 + 0)) is in omega (arith, all)

    by_test : (b : Bool) → takes_line s.label ≡ b → Tallied (earlier ++ s ∷ []) (counted_with t b).lines (counted_with t b).hidden
    by_test true is = record {
      taken_are = ap (λ (n : ℕ). n + 1) h.taken_are ∙ sym (more (λ s. takes_line s.label) is);
      hidden_are = h.hidden_are ∙ sym (same (λ s. not (takes_line s.label)) (ap not is));
    }
    by_test false is = record {
      taken_are = h.taken_are ∙ sym (same (λ s. takes_line s.label) is);
      hidden_are = ap (λ (n : ℕ). n + 1) h.hidden_are ∙ sym (more (λ s. not (takes_line s.label)) (ap not is));
    }

tally_sum : (t : StepCounts) (b : Bool) → (counted_with t b).lines + (counted_with t b).hidden ≡ t.lines + t.hidden + 1
tally_sum t true = omega arith
tally_sum t false = omega arith

pub tally_is : (t : StepCounts) (b : Bool) (r : StepCounts) → r ≡ counted_with t b → r.lines + r.hidden ≡ t.lines + t.hidden + 1
tally_is t b r is = ap (λ (x : StepCounts). x.lines + x.hidden) is ∙ tally_sum t b

-- ---- the end of the witness

pub next_number : (o : Order) (ahead : Option Line) → IsInStep o ahead → IfSome ahead (λ line. line.number ≡ o.next)
next_number o None step = tt
next_number o (Some line) step = step.0

-- a line is left that was offered, or the one that is read ahead
pub some_left : (held : List (ℕ × Line)) (next : ℕ) (line : Option Line) (rest : Option (Result (List Line) TextFault))
    (items : List Line) (n : ℕ) (late : Option (ℕ × Rule)) (earlier : List Step)
    → first_of_both held line ≡ Some n → IfSome line (λ l. l.number ≡ next) → left_with line rest ≡ Some (Ok items)
    → verdict_left (held ++ enumerate_from next items) late earlier ≡ No 0 n Unplaced
some_left (e ∷ held) next line rest items n late earlier is number left = let same : e.0 ≡ n = cc in ap (λ (m : ℕ). No 0 m Unplaced) same
some_left [] next None rest items n late earlier is number left = absurd cc
some_left [] next (Some l) None items n late earlier is number left = absurd cc
some_left [] next (Some l) (Some (Err f)) items n late earlier is number left = absurd cc
some_left [] next (Some l) (Some (Ok more)) items n late earlier is number left =
    let all : l ∷ more ≡ items = cc in
    let same : l.number ≡ n = cc in
    ap (λ (ls : List Line). verdict_left (enumerate_from next ls) late earlier) (sym all) ∙ ap (λ (m : ℕ). No 0 m Unplaced) (sym number ∙ same)

-- or none is
pub none_left : (held : List (ℕ × Line)) (next : ℕ) (line : Option Line) (rest : Option (Result (List Line) TextFault))
    (items : List Line) (late : Option (ℕ × Rule)) (earlier : List Step)
    → first_of_both held line ≡ None → left_with line rest ≡ Some (Ok items)
    → verdict_left (held ++ enumerate_from next items) late earlier ≡ verdict_left [] late earlier
none_left (e ∷ held) next line rest items late earlier is left = absurd cc
none_left [] next (Some l) rest items late earlier is left = absurd cc
none_left [] next None rest items late earlier is left =
    let all : [] ≡ items = cc in
    ap (λ (ls : List Line). verdict_left (enumerate_from next ls) late earlier) (sym all)

pub ends_when : (header : Header) (lines left : Option (Result (List Line) TextFault))
    (steps ahead next : Option (Result (List Step) TextFault)) (o : Order) (p : Progress) (offered : List Line)
    (earlier : List Step) (items : List Line) (v : Verdict)
    → SoFar header lines left steps ahead o p offered earlier → Yields ahead next None → IsAll left items
    → (left ≡ Some (Ok items) → verdict_left (o.held ++ enumerate_from o.next items) (late_at_end p.header o.last p.world) earlier ≡ v)
    → Ends header lines steps v
ends_when header None left steps ahead next o p offered earlier items v f y all is = tt
ends_when header (Some l) left None ahead next o p offered earlier items v f y all is = tt
ends_when header (Some l) None (Some s) ahead next o p offered earlier items v f y all is = absurd f.passed
ends_when header (Some l) (Some r) (Some s) ahead next o p offered earlier items v f y all is =
    let here : Some r ≡ Some (Ok items) = ap (λ (x : Result (List Line) TextFault). Some x) all in
    let whole = whole_of_rest (Some l) (Some r) offered items f.passed all in
    let done = all_passed (Some s) ahead next earlier f.done y in (
      offered ++ items,
      earlier ++ [],
      whole,
      done,
      sym (f_told ∙ all_done header (Some l) (Some s) (Some r) ahead o p offered earlier items f here (offered ++ items)
          (ap (λ (x : Result (List Line) TextFault). Some x) whole) ∙ is here),
    )
  where
    f_told : verdict_on header (offered ++ items) [] (earlier ++ []) ≡ verdict_on header (offered ++ items) [] earlier
    f_told = ap (verdict_on header (offered ++ items) []) (append-nil earlier)

-- ---- a fault, after lines and steps without one

pub case_fails_before : (lines left : Option (Result (List Line) TextFault)) (steps ahead : Option (Result (List Step) TextFault))
    (offered : List Line) (earlier : List Step) (e : CaseFault) → Passes lines left offered → Passes steps ahead earlier
    → CaseFails e left ahead → CaseFails e lines steps
case_fails_before lines left steps ahead offered earlier (faults.Trace f) p d fails = err_before lines left offered f p fails
case_fails_before lines left steps ahead offered earlier (faults.Witness f) p d fails =
    (ok_before lines left offered p fails.0, err_before steps ahead earlier f d fails.1)
case_fails_before lines left steps ahead offered earlier faults.Read p d fails = tt
case_fails_before lines left steps ahead offered earlier faults.OutOfMemory p d fails = tt

-- ---- a step that was refused

all_read : (lines : Option (Result (List Line) TextFault)) (items : List Line) → IsAll lines items → IfSome lines (λ l. (all : List Line) × (l ≡ Ok all))
all_read None items all = tt
all_read (Some l) items all = (items, all)

-- a fault of the witness is told where the trace has none
pub witness_last : (e : CaseFault) (lines : Option (Result (List Line) TextFault))
    (steps : Option (Result (List Step) TextFault)) (items : List Line) → IsAll lines items → WitnessFails e steps
    → CaseFails e lines steps
witness_last (faults.Trace f) lines steps items all fails = absurd fails
witness_last (faults.Witness f) lines steps items all fails = (all_read lines items all, fails)
witness_last faults.Read lines steps items all fails = tt
witness_last faults.OutOfMemory lines steps items all fails = tt

pub refused_ends : (header : Header) (lines left : Option (Result (List Line) TextFault))
    (steps next : Option (Result (List Step) TextFault)) (place named : ℕ) (rule : Rule) (items : List Line)
    (rest : List Step)
    → IsBroken header lines left steps next place named rule → IsAll left items → IsAll next rest → Ends header lines steps (No (place + 2) named rule)
refused_ends header None left steps next place named rule items rest b all done = tt
refused_ends header (Some l) left None next place named rule items rest b all done = tt
refused_ends header (Some l) left (Some s) next place named rule items rest (earlier, ahead, step, passed, before, took, through, told) all done =
    let whole = whole_of_rest (Some l) left passed items through all in
    let steps_done = whole_of_rest (Some s) next (earlier ++ step ∷ []) rest (one_passed (Some s) ahead next earlier step before took) done in (
      passed ++ items,
      (earlier ++ step ∷ []) ++ rest,
      whole,
      steps_done,
      sym (ap (verdict_on header (passed ++ items) []) (append_assoc earlier (step ∷ []) rest)
          ∙ told (passed ++ items) (ap (λ (x : Result (List Line) TextFault). Some x) whole) rest),
    )

-- a fault of the lines that are left
pub lines_fail : (header : Header) (lines left : Option (Result (List Line) TextFault))
    (steps next : Option (Result (List Step) TextFault)) (place named : ℕ) (rule : Rule) (e : CaseFault)
    → IsBroken header lines left steps next place named rule → TraceFails e left → CaseFails e lines steps
lines_fail header lines left steps next place named rule e
    (earlier, ahead, step, passed, before, took, through, told) fails =
    trace_first e lines steps (trace_fails_before lines left passed e through fails)

-- or of the steps, where the lines have none
pub steps_fail : (header : Header) (lines left : Option (Result (List Line) TextFault))
    (steps next : Option (Result (List Step) TextFault)) (place named : ℕ) (rule : Rule) (e : CaseFault)
    (items : List Line)
    → IsBroken header lines left steps next place named rule → IsAll left items → WitnessFails e next → CaseFails e lines steps
steps_fail header lines left steps next place named rule e items (earlier, ahead, step, passed, before, took, through, told) all fails =
    witness_last e lines steps (passed ++ items) (whole_of_rest lines left passed items through all)
    (witness_fails_before steps next (earlier ++ step ∷ []) e (one_passed steps ahead next earlier step before took) fails)
