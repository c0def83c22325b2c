-- The command line of the program, and what its words request.
use Rattle.std.specs.Prelude.{◌≡◌, ◌==◌, Bool, List, [], ◌∷◌, codes, false}
use Rattle.clap.specs.Words.{Text}

-- the one word that requests to check a case
abbrev pub AsksCheck : List Text → Type 0
AsksCheck words = words ≡ codes "check" ∷ []

-- whether a text begins with a dash (45), as options do
abbrev pub is_dashed : Text → Bool
is_dashed [] = false
is_dashed (first ∷ rest) = first == 45

-- the two words that request the segment of a hex text
abbrev pub AsksSegment : List Text → Text → Type 0
AsksSegment words text = (words ≡ codes "segment" ∷ text ∷ []) × (is_dashed text ≡ false)

-- words that are no command of the program
pub record AsksNothing (words : List Text) : Type 0 where
  pub check : ¬ AsksCheck words
  pub segment : (text : Text) → ¬ AsksSegment words text
