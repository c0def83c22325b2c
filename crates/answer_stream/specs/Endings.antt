-- How a run on many cases ends, by its status.
use Rattle.std.specs.Prelude.{◌≡◌, ◌≢◌, ◌⊎◌, ℕ, List, ◌++◌, Option, Some, Result, map, codes}
use Rattle.std.specs.Io.KnownBytes.{Appends}
use Rattle.verdict.specs.declared.report.Verdict.{Verdict}
use Rattle.checker.specs.declared.case.CaseFault.{CaseFault}
use Rattle.checker.specs.Cases.{case_result}
use Rattle.parallel_check.specs.Answers.{AnswersEach}
use Rattle.case_stream.specs.Cases.{cases_of}
use Rattle.answer_stream.specs.Told.{AreFirst, TellsEach, greatest_status, lines_of_all}

-- answers to the first cases of an input were written, some of which may say that memory ran out, and then this line
pub record TellsBefore (input : Option (List ℕ)) (line : List ℕ) (old new : Option (List ℕ)) : Type 0 where
  pub cases : List (List ℕ)
  pub first : AreFirst input cases
  pub answers : List (Result Verdict CaseFault)
  pub each : AnswersEach cases answers
  pub written : Appends old new (lines_of_all answers ++ line)

-- a run on the cases of this text ends with this status and has written their lines, unless memory ran out, which has a
-- status of its own: then it has written answers to the first cases and that memory ran out, or an answer to each case
abbrev pub EndsMany : List ℕ → ℕ → Option (List ℕ) → Option (List ℕ) → Type 0
EndsMany text status old new =
    (status ≡ 4 →
    ∥ TellsBefore (Some text) (codes "bad memory\n") old new ⊎ TellsEach (cases_of text) status old new ∥₁)
    × (status ≢ 4 → (status ≡ greatest_status (map case_result (cases_of text)))
    × Appends old new (lines_of_all (map case_result (cases_of text))))
