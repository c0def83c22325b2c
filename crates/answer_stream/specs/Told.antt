-- What is printed of answers to cases.
use Rattle.std.specs.Prelude.{◌≡◌, ◌⊎◌, ℕ, List, [], ◌∷◌, ◌++◌, length, take, max, Option, None, Some, Result, Err}
use Rattle.std.specs.Io.KnownBytes.{Appends}
use Rattle.verdict.specs.declared.report.Verdict.{Verdict}
use Rattle.checker.specs.declared.case.CaseFault.{CaseFault}
use Rattle.checker.specs.declared.case.CaseFault.TheVariants.{OutOfMemory}
use Rattle.parallel_check.specs.Answers.{AnswersEach, IsAnswer}
use Rattle.answers.specs.Output.{line_of, status_of}
use Rattle.case_stream.specs.Cases.{cases_of}
use Rattle.answer_stream.specs.Left.{IsCaseAt}

-- a line for each answer, in their order
abbrev pub lines_of_all : List (Result Verdict CaseFault) → List ℕ
lines_of_all [] = []
lines_of_all (answer ∷ answers) = line_of answer ++ lines_of_all answers

-- the greatest status of the answers, 0 for none
abbrev pub greatest_status : List (Result Verdict CaseFault) → ℕ
greatest_status [] = 0
greatest_status (answer ∷ answers) = max (status_of answer) (greatest_status answers)

-- answers to these cases were written, some of which may say that memory ran out, and this is the greatest of their
-- statuses
pub record TellsEach (cases : List (List ℕ)) (status : ℕ) (old new : Option (List ℕ)) : Type 0 where
  pub answers : List (Result Verdict CaseFault)
  pub each : AnswersEach cases answers
  pub greatest : status ≡ greatest_status answers
  pub written : Appends old new (lines_of_all answers)

-- these are the first cases of the input, if it is known
abbrev pub AreFirst : Option (List ℕ) → List (List ℕ) → Type 0
AreFirst None cases = Unit {0}
AreFirst (Some input) cases = cases ≡ take (length cases) (cases_of input)

-- answers to so many first cases of an input were written, with this greatest status
pub record TellsFirst (input : Option (List ℕ)) (count status : ℕ) (old new : Option (List ℕ)) : Type 0 where
  pub cases : List (List ℕ)
  pub first : AreFirst input cases
  pub many : length cases ≡ count
  pub told : TellsEach cases status old new

-- this is an answer to the case with that number
abbrev pub IsAnswerAt : Option (List ℕ) → ℕ → Result Verdict CaseFault → Type 0
IsAnswerAt input number answer = (text : List ℕ) × IsCaseAt input number text × IsAnswer text answer

-- the line of this answer was written, or of the answer that memory ran out, and this is its status
abbrev pub TellsAnswer : Result Verdict CaseFault → ℕ → Option (List ℕ) → Option (List ℕ) → Type 0
TellsAnswer answer status old new =
    (told : Result Verdict CaseFault) × ((told ≡ answer) ⊎ (told ≡ Err OutOfMemory))
    × (status ≡ status_of told) × Appends old new (line_of told)

-- the same, where the line was appended to others, and the status is the greatest of theirs
abbrev pub Gathers : Result Verdict CaseFault → List ℕ → ℕ → List ℕ → ℕ → Type 0
Gathers answer old_lines old_greatest new_lines new_greatest =
    (told : Result Verdict CaseFault) × ((told ≡ answer) ⊎ (told ≡ Err OutOfMemory))
    × (new_greatest ≡ max old_greatest (status_of told)) × (new_lines ≡ old_lines ++ line_of told)

-- if answers to so many first cases were written, then with these lines, whose greatest status this is, answers to so
-- many more are
abbrev pub Continues : Option (List ℕ) → ℕ → ℕ → ℕ → List ℕ → Type 0
Continues input first next greatest lines =
    (status : ℕ) → (old mid new : Option (List ℕ)) → ∥ TellsFirst input first status old mid ∥₁ → Appends mid new lines
    → ∥ TellsFirst input next (max status greatest) old new ∥₁
