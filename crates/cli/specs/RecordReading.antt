-- What the options of a recording give.
use Rattle.std.specs.Prelude.{◌≡◌, ◌≢◌, ◌⊎◌, ℕ, List, [], ◌∷◌}
use Rattle.two_hosts.specs.declared.plan.Plan.{Plan}
use Rattle.case_forms.specs.declared.version.Version.{Version}
use Rattle.case_forms.specs.declared.version.Version.TheVariants as versions
use Rattle.cli.specs.declared.record_words.Setting.{Setting}
use Rattle.cli.specs.declared.record_words.Setting.TheVariants.{Rounds, Lose, Format}
use Rattle.cli.specs.declared.record_words.Given.{Given}
use Rattle.cli.specs.declared.record_words.Given.TheVariants.{Never, Once, Again}
use Rattle.cli.specs.declared.record_words.Settings.{Settings}
use Rattle.cli.specs.RecordWords.{numbers_of}

-- the numbers given with one option
abbrev pub given : List ℕ → Given
given [] = Never
given (n ∷ []) = Once n
given (n ∷ m ∷ ns) = Again

abbrev pub settings_of : List (Setting × ℕ) → Settings
settings_of options = record {
  rounds = given (numbers_of Rounds options);
  lose = given (numbers_of Lose options);
  format = given (numbers_of Format options);
}

-- with one more number
abbrev pub with_number : ℕ → Given → Given
with_number n Never = Once n
with_number n (Once m) = Again
with_number n Again = Again

abbrev pub with_setting : Setting → ℕ → Settings → Settings
with_setting Rounds n settings = record settings { rounds = with_number n settings.rounds }
with_setting Lose n settings = record settings { lose = with_number n settings.lose }
with_setting Format n settings = record settings { format = with_number n settings.format }

-- the version of that number, and version 1 if none is given
abbrev pub GivesVersion : Given → Version → Type 0
GivesVersion format versions.One = (format ≡ Never) ⊎ (format ≡ Once 1)
GivesVersion format versions.Two = format ≡ Once 2
GivesVersion format versions.Three = ⊥
GivesVersion format versions.Four = ⊥
GivesVersion format versions.FourHalf = ⊥
GivesVersion format versions.Five = ⊥
GivesVersion format versions.FiveHalf = ⊥
GivesVersion format versions.Six = ⊥
GivesVersion format versions.SixHalf = ⊥

-- what these numbers request
pub record AsksPlan (settings : Settings) (plan : Plan) : Type 0 where
  pub rounds : settings.rounds ≡ Once plan.rounds
  pub lose : settings.lose ≡ Once plan.lose
  pub not_each : plan.lose ≢ 1
  pub version : GivesVersion settings.format plan.version
