-- The words that request many cases.
use Rattle.std.proofs.Common.{ℕ, List, [], ◌∷◌, codes, ap, drop, inl, inr}
use Rattle.clap.specs.Words.{Text}
use Rattle.cli.specs.FileWords.{BeginsWith}
use Rattle.cli.specs.ManyWords.{AsksMany}
use Rattle.cli.specs.Options.{IsNumberIn}
use Rattle.cli.specs.Requests.{AskNone}
use Rattle.cli.proofs.Numbers.{not_dashed}

-- the words have one option, with a text that spells the number
record HasWorkers (options : List Text) (n : ℕ) : Type 0 where
  text : Text
  begins : BeginsWith (codes "--workers") text [] options
  is : IsNumberIn 1 64 text n

has_workers : (options : List Text) (n : ℕ) → AsksMany (codes "many" ∷ options) n → HasWorkers options n
has_workers options n (text, inl form, s) = record {
  text = text;
  begins = inl (ap (λ (ws : List Text). drop 1 ws) form, not_dashed text s.numeral);
  is = record { numeral = s.numeral; number = s.number; low = s.least; high = s.most };
}
has_workers options n (text, inr form, s) = record {
  text = text;
  begins = inr (ap (λ (ws : List Text). drop 1 ws) form);
  is = record { numeral = s.numeral; number = s.number; low = s.least; high = s.most };
}

-- words that request no number of workers request nothing
pub no_workers : (options : List Text) → ((n : ℕ) → ¬ AsksMany (codes "many" ∷ options) n) → AskNone (codes "many" ∷ options)
no_workers options none = record {
  check = λ a. cc;
  files = λ trace witness a. cc (a.0.1);
  many = none;
  recording = λ plan a. cc (a.words_are);
  segment = λ text a. cc (a.0);
}

pub no_option : (options : List Text) → ((text : Text) (rest : List Text) → ¬ BeginsWith (codes "--workers") text rest options)
    → AskNone (codes "many" ∷ options)
no_option options none = no_workers options (λ n a. let w = has_workers options n a in none w.text [] w.begins)
