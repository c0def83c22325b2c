-- The cases of an input that were taken, and those that are left.
use Rattle.std.specs.Prelude.{◌≡◌, ◌<◌, ◌≤◌, ℕ, List, [], length, drop, Option, None, Some}
use Rattle.std.proofs.Common.{get_or}
use Rattle.case_stream.specs.Cases.{cases_of}
use Rattle.case_stream.specs.Long.{GoesOn}
use Rattle.answer_stream.specs.declared.state.State.{State}
use Rattle.answer_stream.specs.declared.state.State.TheVariants.{Open, Ended, Failed, OutOfMemory}

-- this is the case with that number, from 0, if the input is known
abbrev pub IsCaseAt : Option (List ℕ) → ℕ → List ℕ → Type 0
IsCaseAt None number text = Unit {0}
IsCaseAt (Some input) number text = (number < length (cases_of input)) × (text ≡ get_or (cases_of input) number [])

-- this is held of a text: all of it, or, if a line is too long, the lines before that one, and its length
abbrev pub IsHeld : Option ℕ → List ℕ → List ℕ → Type 0
IsHeld None held text = held ≡ text
IsHeld (Some size) held text = GoesOn size held text

-- this is held of the case with that number
abbrev pub IsHeldAt : Option (List ℕ) → ℕ → Option ℕ → List ℕ → Type 0
IsHeldAt input number long held = (text : List ℕ) × IsHeld long held text × IsCaseAt input number text

-- the cases that are left are those from this number on
abbrev pub AreLeft : Option (List ℕ) → ℕ → Option (List ℕ) → Type 0
AreLeft None number left = Unit {0}
AreLeft (Some input) number None = ⊥
AreLeft (Some input) number (Some left) = cases_of left ≡ drop number (cases_of input)

-- no case has this number or a greater one
abbrev pub HasNone : Option (List ℕ) → ℕ → Type 0
HasNone None number = Unit {0}
HasNone (Some input) number = length (cases_of input) ≤ number

-- what is known of the cases that are left, by the state of the reader
abbrev pub AreLeftIn : State → Option (List ℕ) → ℕ → Option (List ℕ) → Type 0
AreLeftIn Open input number left = AreLeft input number left
AreLeftIn Ended input number left = HasNone input number
AreLeftIn Failed input number left = Unit {0}
AreLeftIn OutOfMemory input number left = Unit {0}
