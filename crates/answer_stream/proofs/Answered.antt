-- Lists of answers to cases.
use Rattle.std.proofs.Common.{◌≡◌, ◌∙◌, sym, ap, refl, ℕ, zero, suc, List, [], ◌∷◌, ◌++◌, get_or, Result, Err, max, arith}
use Rattle.std.proofs.Common.{append-nil, append_assoc}
use Rattle.std.proofs.lemmas.List.Recursion.{max_push}
use Rattle.verdict.specs.declared.report.Verdict.{Verdict}
use Rattle.checker.specs.declared.case.CaseFault.{CaseFault}
use Rattle.checker.specs.declared.case.CaseFault.TheVariants.{OutOfMemory}
use Rattle.parallel_check.specs.Answers.{AnswersEach, IsAnswer}
use Rattle.answers.specs.Output.{line_of, status_of}
use Rattle.answer_stream.specs.Told.{greatest_status, lines_of_all}

abbrev pub Answers : Type 0
Answers = List (Result Verdict CaseFault)

pub none_answered : AnswersEach [] []
none_answered = record { count = refl; each = λ i had. absurd (had refl) }

one_more : (text : List ℕ) (cases : List (List ℕ)) (answer : Result Verdict CaseFault) (answers : Answers)
    → IsAnswer text answer → AnswersEach cases answers → AnswersEach (text ∷ cases) (answer ∷ answers)
one_more text cases answer answers is each = record { count = let all = each.count in omega (arith, all); each = by_place }
  where
    by_place : (i : ℕ) → IsAnswer (get_or (text ∷ cases) i []) (get_or (answer ∷ answers) i (Err OutOfMemory))
    by_place zero = is
    by_place (suc i) = each.each i

pub behind_first : (text : List ℕ) (cases : List (List ℕ)) (answer : Result Verdict CaseFault) (answers : Answers)
    → AnswersEach (text ∷ cases) (answer ∷ answers) → AnswersEach cases answers
behind_first text cases answer answers is = record { count = let all = is.count in omega (arith, all); each = λ i. is.each (suc i) }

pub each_pushed : (cases : List (List ℕ)) (answers : Answers) (text : List ℕ) (answer : Result Verdict CaseFault)
    → AnswersEach cases answers → IsAnswer text answer → AnswersEach (cases ++ text ∷ []) (answers ++ answer ∷ [])
each_pushed [] [] text answer each is = one_more text [] answer [] is none_answered
each_pushed (c ∷ cases) [] text answer each is = absurd (let all = each.count in omega (arith, all))
each_pushed [] (a ∷ answers) text answer each is = absurd (let all = each.count in omega (arith, all))
each_pushed (c ∷ cases) (a ∷ answers) text answer each is =
    one_more c (cases ++ text ∷ []) a (answers ++ answer ∷ []) (each.each 0)
    (each_pushed cases answers text answer (behind_first c cases a answers each) is)

pub greatest_pushed : (answers : Answers) (answer : Result Verdict CaseFault)
    → greatest_status (answers ++ answer ∷ []) ≡ max (greatest_status answers) (status_of answer)
greatest_pushed answers answer = max_push greatest_status status_of refl (λ x xs. refl) answers answer

pub lines_pushed : (answers : Answers) (answer : Result Verdict CaseFault) → lines_of_all (answers ++ answer ∷ []) ≡ lines_of_all answers ++ line_of answer
lines_pushed [] answer = append-nil (line_of answer)
lines_pushed (first ∷ answers) answer =
    ap (λ (xs : List ℕ). line_of first ++ xs) (lines_pushed answers answer)
    ∙ sym (append_assoc (line_of first) (lines_of_all answers) (line_of answer))
