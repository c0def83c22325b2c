-- How a run on the cases of an input ends.
use Rattle.std.specs.Prelude.{◌≡◌, ℕ, List, Option, None, Some}
use Rattle.case_stream.specs.Cases.{cases_of}
use Rattle.answer_stream.specs.Told.{TellsEach, TellsFirst}
use Rattle.answer_stream.specs.declared.work.Outcome.{Outcome}
use Rattle.answer_stream.specs.declared.work.Outcome.TheVariants.{All, OutOfMemory, ReadFailed, WriteFailed}

-- these are the cases of the input, if it is known
abbrev pub AreAll : Option (List ℕ) → List (List ℕ) → Type 0
AreAll None cases = Unit {0}
AreAll (Some input) cases = cases ≡ cases_of input

-- answers to all cases were written, with this greatest status
pub record TellsAll (input : Option (List ℕ)) (status : ℕ) (old new : Option (List ℕ)) : Type 0 where
  pub cases : List (List ℕ)
  pub all : AreAll input cases
  pub told : TellsEach cases status old new

-- answers to the first cases were written, and nothing else
abbrev pub TellsSome : Option (List ℕ) → Option (List ℕ) → Option (List ℕ) → Type 0
TellsSome input old new = (count : ℕ) × (status : ℕ) × TellsFirst input count status old new

-- what was written by the end of a run; nothing is known of it if a write failed
abbrev pub Tells : Outcome → Option (List ℕ) → Option (List ℕ) → Option (List ℕ) → Type 0
Tells (All status) input old new = ∥ TellsAll input status old new ∥₁
Tells ReadFailed input old new = ∥ TellsSome input old new ∥₁
Tells OutOfMemory input old new = ∥ TellsSome input old new ∥₁
Tells WriteFailed input old new = Unit {0}
