-- The numbers of a command line.
use Rattle.std.specs.Prelude.{◌≡◌, ◌≤◌, ℕ, true, Some, codes}
use Rattle.std.specs.Str.Parse.{IsNumeral, digits_value, without_leading_plus}
use Rattle.clap.specs.Words.{App, Rule, Text, new_app, new_rule, with_rule}
use Rattle.clap.specs.declared.builder.ArgAction.TheVariants.{Set}
use Rattle.clap.specs.declared.builder.value_parser.ValueParser.TheVariants.{Unsigned}

-- the text spells this number of a range: decimal digits, perhaps after a plus sign
pub record IsNumberIn (least most : ℕ) (text : Text) (n : ℕ) : Type 0 where
  pub numeral : IsNumeral 10 (without_leading_plus text)
  pub number : n ≡ digits_value 10 (without_leading_plus text)
  pub low : least ≤ n
  pub high : n ≤ most

-- an argument that is a number of this range
abbrev pub number : ℕ → ℕ → Rule
number least most = record (new_rule (codes "number")) {
  required = true;
  action = Some Set;
  parser = Some (Unsigned least most);
}

-- the words begin after the program's name
abbrev pub without_program : App → App
without_program app = record app { top = record app.top { no_binary_name = true } }

-- what `clap` reads: one number of this range
abbrev pub number_in : ℕ → ℕ → App
number_in least most = with_rule (without_program (new_app (codes "number"))) (number least most)
