-- What a list of answers to cases is.
use Rattle.std.specs.Prelude.{◌≡◌, ◌≢◌, ℕ, List, [], length, Option, None, Some, Result, Err}
use Rattle.std.proofs.Common.{get_or}
use Rattle.verdict.specs.declared.report.Verdict.{Verdict}
use Rattle.checker.specs.declared.case.CaseFault.{CaseFault}
use Rattle.checker.specs.declared.case.CaseFault.TheVariants.{OutOfMemory}
use Rattle.checker.specs.Cases.{case_result}

-- this is the answer to the case with this text, unless memory ran out
abbrev pub IsAnswer : List ℕ → Result Verdict CaseFault → Type 0
IsAnswer text answer = answer ≢ Err OutOfMemory → answer ≡ case_result text

-- one answer to each case, in their order, or that memory ran out for those for which it did
pub record AnswersEach (cases : List (List ℕ)) (answers : List (Result Verdict CaseFault)) : Type 0 where
  pub count : length answers ≡ length cases
  pub each : (i : ℕ) → IsAnswer (get_or cases i []) (get_or answers i (Err OutOfMemory))

-- a slot of a case is empty or has the case's answer
abbrev pub IsSlot : List ℕ → Option (Result Verdict CaseFault) → Type 0
IsSlot text None = Unit {0}
IsSlot text (Some answer) = IsAnswer text answer

-- a slot for each case
pub record AreSlots (cases : List (List ℕ)) (slots : List (Option (Result Verdict CaseFault))) : Type 0 where
  pub count : length slots ≡ length cases
  pub each : (i : ℕ) → IsSlot (get_or cases i []) (get_or slots i None)
