-- The cases that are left of an input, if its bytes are known.
use Rattle.std.specs.Prelude.{◌≡◌, ℕ, List, [], ◌∷◌, Option, None, Some}
use Rattle.case_stream.specs.Cases.{cases_of}

-- the first case was taken: the others are left
abbrev pub TakesCase : Option (List ℕ) → Option (List ℕ) → List ℕ → Type 0
TakesCase None new text = Unit {0}
TakesCase (Some old) None text = ⊥
TakesCase (Some old) (Some new) text = cases_of old ≡ text ∷ cases_of new

-- no case is left
abbrev pub HasNoCase : Option (List ℕ) → Type 0
HasNoCase None = Unit {0}
HasNoCase (Some old) = cases_of old ≡ []

-- the one case that was left was taken
abbrev pub TakesLast : Option (List ℕ) → List ℕ → Type 0
TakesLast None text = Unit {0}
TakesLast (Some old) text = cases_of old ≡ text ∷ []
