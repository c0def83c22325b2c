-- Answers to the first cases, and the answer of `check_case`.
use Rattle.std.proofs.Common.{◌≡◌, ℕ, ◌<◌, List, [], length, get_or, Result, Ok, Err, refl}
use Rattle.verdict.specs.declared.report.Verdict.{Verdict}
use Rattle.checker.specs.declared.case.CaseFault.{CaseFault}
use Rattle.checker.specs.declared.case.CaseFault.TheVariants.{Trace, Witness, Read, OutOfMemory}
use Rattle.checker.specs.Cases.{GivesCase, case_result}
use Rattle.parallel_check.specs.Answers.{IsAnswer}

-- one answer to each of the first k cases
pub record AnswersFirst (cases : List (List ℕ)) (answers : List (Result Verdict CaseFault)) (k : ℕ) : Type 0 where
  pub count : length answers ≡ k
  pub each : (i : ℕ) → i < k → IsAnswer (get_or cases i []) (get_or answers i (Err OutOfMemory))

-- what `check_case` gives is the answer
pub gives_answer : (text : List ℕ) (answer : Result Verdict CaseFault) → GivesCase answer (case_result text) → IsAnswer text answer
gives_answer text (Ok v) gives had = gives
gives_answer text (Err (Trace fault)) gives had = gives
gives_answer text (Err (Witness fault)) gives had = gives
gives_answer text (Err Read) gives had = gives
gives_answer text (Err OutOfMemory) gives had = absurd (had refl)
