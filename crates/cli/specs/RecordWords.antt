-- The command line for a recording.
use Rattle.std.specs.Prelude.{◌≡◌, ◌≢◌, ◌⊎◌, ◌≤◌, ℕ, Bool, true, false, List, [], ◌∷◌, ◌++◌, codes, if◌then◌else◌}
use Rattle.std.specs.Str.Parse.{IsNumeral, digits_value, without_leading_plus}
use Rattle.clap.specs.Words.{Text}
use Rattle.two_hosts.specs.declared.plan.Plan.{Plan}
use Rattle.case_forms.specs.declared.version.Version.{Version}
use Rattle.case_forms.specs.declared.version.Version.TheVariants as versions
use Rattle.cli.specs.declared.record_words.Setting.{Setting}
use Rattle.cli.specs.declared.record_words.Setting.TheVariants.{Rounds, Lose, Format}

-- the name of an option
abbrev pub name_of : Setting → Text
name_of Rounds = codes "rounds"
name_of Lose = codes "lose"
name_of Format = codes "format"

-- the option as a word, before an equals sign and its text, and alone
abbrev pub equals : Setting → Text
equals Rounds = codes "--rounds="
equals Lose = codes "--lose="
equals Format = codes "--format="

abbrev pub dashed : Setting → Text
dashed Rounds = codes "--rounds"
dashed Lose = codes "--lose"
dashed Format = codes "--format"

-- the least and the greatest number that it accepts
abbrev pub least : Setting → ℕ
least Rounds = 1
least Lose = 0
least Format = 1

abbrev pub most : Setting → ℕ
most Rounds = 1000
most Lose = 1000
most Format = 2

-- the text spells this number: decimal digits, perhaps after a plus sign, of a number that the option accepts
pub record Spells (setting : Setting) (text : Text) (n : ℕ) : Type 0 where
  pub numeral : IsNumeral 10 (without_leading_plus text)
  pub number : n ≡ digits_value 10 (without_leading_plus text)
  pub low : least setting ≤ n
  pub high : n ≤ most setting

-- the words are the option with this text, as a word of its own or after an equals sign
abbrev pub AreOption : Setting → Text → List Text → Type 0
AreOption setting text words = (words ≡ dashed setting ∷ text ∷ []) ⊎ (words ≡ (equals setting ++ text) ∷ [])

-- the words are the option with a text that spells this number
abbrev pub TellsNumber : Setting → List Text → ℕ → Type 0
TellsNumber setting words n = (text : Text) × AreOption setting text words × Spells setting text n

-- the words are these options, one after the other, each with its number
abbrev pub TellEach : List (Setting × ℕ) → List Text → Type 0
TellEach [] words = words ≡ []
TellEach (option ∷ options) words =
    (first : List Text) × (rest : List Text) × (words ≡ first ++ rest) × TellsNumber option.0 first option.1
    × TellEach options rest

abbrev pub same : Setting → Setting → Bool
same Rounds Rounds = true
same Lose Lose = true
same Format Format = true
same _ _ = false

-- the numbers given with the option
abbrev pub numbers_of : Setting → List (Setting × ℕ) → List ℕ
numbers_of setting [] = []
numbers_of setting (option ∷ options) =
    if same setting option.0 then option.1 ∷ numbers_of setting options else numbers_of setting options

-- the version of that number, and version 1 if none is given
abbrev pub IsVersion : List ℕ → Version → Type 0
IsVersion numbers versions.One = (numbers ≡ []) ⊎ (numbers ≡ 1 ∷ [])
IsVersion numbers versions.Two = numbers ≡ 2 ∷ []
IsVersion numbers versions.Three = ⊥
IsVersion numbers versions.Four = ⊥
IsVersion numbers versions.FourHalf = ⊥
IsVersion numbers versions.Five = ⊥
IsVersion numbers versions.FiveHalf = ⊥
IsVersion numbers versions.Six = ⊥
IsVersion numbers versions.SixHalf = ⊥

-- the words request this recording: each option once, in any order, and the version may be left out
pub record AsksRecord (words : List Text) (plan : Plan) : Type 0 where
  pub behind : List Text
  pub words_are : words ≡ codes "record" ∷ behind
  pub options : List (Setting × ℕ)
  pub told : TellEach options behind
  pub rounds : numbers_of Rounds options ≡ plan.rounds ∷ []
  pub lose : numbers_of Lose options ≡ plan.lose ∷ []
  pub not_each : plan.lose ≢ 1
  pub version : IsVersion (numbers_of Format options) plan.version
