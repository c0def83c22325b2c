-- How a run on many cases ends.
use Rattle.std.proofs.Common.{◌≡◌, ◌≢◌, ◌<◌, ◌≤◌, ◌∙◌, sym, ap, ap₂, subst, refl, inl, inr, ℕ, List, [], ◌∷◌, ◌++◌, map}
use Rattle.std.proofs.Common.{Option, None, Some, IfSome, IfNone, codes, Result, Ok, Err, arith}
use base.Stored.{Coded-set}
use Rattle.std.specs.Coded.{×_prop, Unit-prop, coded_list, coded_ℕ}
use Rattle.std.proofs.Math.Logic.{∥∥₁_elim, ∥∥₁_map}
use Rattle.std.specs.Io.KnownBytes.{Appends}
use Rattle.std.proofs.KnownBytes.{Appends-trans}
use Rattle.case_forms.specs.declared.trace.Trace.{Trace}
use Rattle.case_forms.specs.declared.steps.Witness.{Witness}
use Rattle.line_fields.specs.declared.fault.TextFault.{TextFault}
use Rattle.verdict.specs.declared.report.Verdict.{Verdict}
use Rattle.verdict.specs.declared.report.Verdict.TheVariants as verdicts
use Rattle.checker.specs.declared.case.CaseFault.{CaseFault}
use Rattle.checker.specs.declared.case.CaseFault.TheVariants as faults
use Rattle.checker.specs.Cases.{case_result, judged}
use Rattle.parallel_check.specs.Answers.{AnswersEach, IsAnswer}
use Rattle.answers.specs.Output.{status_of}
use Rattle.case_stream.specs.Cases.{cases_of}
use Rattle.answer_stream.specs.Endings.{EndsMany, TellsBefore}
use Rattle.answer_stream.specs.Outcomes.{TellsAll, TellsSome}
use Rattle.answer_stream.specs.Told.{TellsEach, greatest_status, lines_of_all}
use Rattle.answer_stream.proofs.Answered.{Answers, behind_first}
use Rattle.answer_stream.proofs.Telling.{nothing_told}

-- ---- no answer to a case is a failed read

judged_unread : (t : Result Trace TextFault) (w : Result Witness TextFault) → judged t w ≡ Err faults.Read → ⊥
judged_unread (Err fault) w read = cc
judged_unread (Ok t) (Err fault) read = cc
judged_unread (Ok t) (Ok w) read = cc

case_unread : (text : List ℕ) → case_result text ≡ Err faults.Read → ⊥
unfolding case_result
case_unread text read = judged_unread _ _ read

low_status : (text : List ℕ) (answer : Result Verdict CaseFault) → IsAnswer text answer → status_of answer ≤ 4
low_status text (Ok (verdicts.Yes lines hidden)) is = omega arith
low_status text (Ok (verdicts.No witness_line trace_line rule)) is = omega arith
low_status text (Err (faults.Trace fault)) is = omega arith
low_status text (Err (faults.Witness fault)) is = omega arith
low_status text (Err faults.Read) is = absurd (case_unread text (sym (is (λ e. cc))))
low_status text (Err faults.OutOfMemory) is = omega arith

lowest : (cases : List (List ℕ)) (answers : Answers) → AnswersEach cases answers → greatest_status answers ≤ 4
lowest cases [] is = omega arith
lowest [] (answer ∷ answers) is = absurd (let all = is.count in omega (arith, all))
lowest (text ∷ cases) (answer ∷ answers) is =
    let first = low_status text answer (is.each 0) in
    let others = lowest cases answers (behind_first text cases answer answers is) in
    omega (arith, first, others)

-- if no answer says that memory ran out, each is the case's
answered : (text : List ℕ) (answer : Result Verdict CaseFault) → IsAnswer text answer → status_of answer ≢ 4 → answer ≡ case_result text
answered text answer is had = is (λ e. had (ap status_of e))

all_answered : (cases : List (List ℕ)) (answers : Answers) → AnswersEach cases answers → greatest_status answers ≢ 4 → answers ≡ map case_result cases
all_answered [] [] is had = refl
all_answered (text ∷ cases) [] is had = absurd (let all = is.count in omega (arith, all))
all_answered [] (answer ∷ answers) is had = absurd (let all = is.count in omega (arith, all))
all_answered (text ∷ cases) (answer ∷ answers) is had =
    let others = behind_first text cases answer answers is in
    let first_low = low_status text answer (is.each 0) in
    let others_low = lowest cases answers others in
    ap₂ (λ (a : Result Verdict CaseFault) (rest : Answers). a ∷ rest)
    (answered text answer (is.each 0) (λ e. had (omega (arith, e, others_low))))
    (all_answered cases answers others (λ e. had (omega (arith, e, first_low))))

-- ---- what was written

pub low : (input : Option (List ℕ)) (status : ℕ) (old new : Option (List ℕ)) → ∥ TellsAll input status old new ∥₁ → status ≡ 5 → ⊥
low input status old new told five =
    ∥∥₁_elim told (λ a b. absurd a) (λ t. let most = lowest t.cases t.told.answers t.told.each in let is = t.told.greatest in omega (arith, most, is, five))

appends_prop : (old new : Option (List ℕ)) (bytes : List ℕ) → IsProp (Appends old new bytes)
appends_prop None new bytes = Unit-prop
appends_prop (Some xs) None bytes = λ a b. absurd a
appends_prop (Some xs) (Some ys) bytes = Coded-set (coded_list coded_ℕ) ys (xs ++ bytes)

each_written : (text : List ℕ) (status : ℕ) (old new : Option (List ℕ)) → TellsAll (Some text) status old new → status ≢ 4
    → (status ≡ greatest_status (map case_result (cases_of text))) × Appends old new (lines_of_all (map case_result (cases_of text)))
each_written text status old new t had =
    let each : AnswersEach (cases_of text) t.told.answers = subst (λ (cases : List (List ℕ)). AnswersEach cases t.told.answers) t.all t.told.each in
    let all = all_answered (cases_of text) t.told.answers each (λ e. had (t.told.greatest ∙ e)) in
    (t.told.greatest ∙ ap greatest_status all, subst (λ (told : Answers). Appends old new (lines_of_all told)) all t.told.written)

pub ends_all : (input : Option (List ℕ)) (status : ℕ) (old new : Option (List ℕ)) → ∥ TellsAll input status old new ∥₁
    → IfSome input (λ text. EndsMany text status old new)
ends_all None status old new told = tt
ends_all (Some text) status old new told = (
  λ four. ∥∥₁_map told (λ t. inr (subst (λ (cases : List (List ℕ)). TellsEach cases status old new) t.all t.told)),
  λ had. ∥∥₁_elim told (×_prop (Coded-set coded_ℕ status _) (appends_prop old new _)) (λ t. each_written text status old new t had),
)

pub some_before : (input : Option (List ℕ)) (line : List ℕ) (old mid new : Option (List ℕ)) → ∥ TellsSome input old mid ∥₁ → Appends mid new line
    → ∥ TellsBefore input line old new ∥₁
some_before input line old mid new told last =
    ∥∥₁_map told
    (λ t. record {
      cases = t.2.cases;
      first = t.2.first;
      answers = t.2.told.answers;
      each = t.2.told.each;
      written = Appends-trans old mid new (lines_of_all t.2.told.answers) line t.2.told.written last;
    })

pub ends_early : (input : Option (List ℕ)) (status : ℕ) (old mid new : Option (List ℕ)) → ∥ TellsSome input old mid ∥₁
    → (status ≡ 4) × Appends mid new (codes "bad memory\n") → IfSome input (λ text. EndsMany text status old new)
ends_early None status old mid new told last = tt
ends_early (Some text) status old mid new told last =
    (λ four. ∥∥₁_map (some_before (Some text) (codes "bad memory\n") old mid new told last.1) (λ t. inl t), λ had. absurd (had last.0))

-- a line that was given to a writer was written if no write failed
pub written_if_same : (written : Option ℕ) (status : ℕ) (line : List ℕ) (old new : Option (List ℕ)) (before after : ℕ)
    → IfSome written (λ s. (s ≡ status) × Appends old new line) → IfNone written (before < after) → after ≡ before → Appends old new line
written_if_same None status line old new before after is failed same = absurd (omega (arith, failed, same))
written_if_same (Some s) status line old new before after is failed same = is.1

pub ends_at_once : (input : Option (List ℕ)) (status : ℕ) (old new : Option (List ℕ)) → (status ≡ 4) × Appends old new (codes "bad memory\n")
    → IfSome input (λ text. EndsMany text status old new)
ends_at_once input status old new last = ends_early input status old old new ∣ (0, 0, nothing_told input old old refl) ∣₁ last
