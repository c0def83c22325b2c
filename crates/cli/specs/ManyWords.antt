-- The command line for many cases.
use Rattle.std.specs.Prelude.{◌≡◌, ◌⊎◌, ◌≤◌, ℕ, List, [], ◌∷◌, ◌++◌, codes}
use Rattle.std.specs.Str.Parse.{IsNumeral, digits_value, without_leading_plus}
use Rattle.clap.specs.Words.{Text}

-- the text spells this number of workers: decimal digits, perhaps after a plus sign, of a number from 1 to 64
pub record SpellsWorkers (text : Text) (n : ℕ) : Type 0 where
  pub numeral : IsNumeral 10 (without_leading_plus text)
  pub number : n ≡ digits_value 10 (without_leading_plus text)
  pub least : 1 ≤ n
  pub most : n ≤ 64

-- the words are `many` and the option with this text, as a word of its own or after an equals sign
abbrev pub AreMany : List Text → Text → Type 0
AreMany words text =
    (words ≡ codes "many" ∷ codes "--workers" ∷ text ∷ []) ⊎ (words ≡ codes "many" ∷ (codes "--workers=" ++ text) ∷ [])

-- the words request many cases with this number of workers
abbrev pub AsksMany : List Text → ℕ → Type 0
AsksMany words n = (text : Text) × AreMany words text × SpellsWorkers text n
