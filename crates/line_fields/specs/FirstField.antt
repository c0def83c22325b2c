-- The first field of a text, and numbers that are read from it.
use Rattle.std.specs.Prelude.{◌≡◌, ℕ, ◌==◌, nat_lt, if◌then◌else◌, List, Result, Ok, Err}
use Rattle.std.specs.List.{position_or_len, slice_split}
use Rattle.std.specs.Fmt.{decimal}
use Rattle.line_fields.specs.declared.fault.FaultKind.TheVariants.{MomentFalls}
use Rattle.line_fields.specs.declared.fault.TextFault.{TextFault}
use Rattle.line_fields.specs.Word.{Word, Rest}
use Rattle.line_fields.specs.Reading.{◌>>=◌, fault_at, next_field, number_value}

-- the length of a text's first field, which ends at a space or at the text's end
abbrev pub field_len : List ℕ → ℕ
field_len text = position_or_len (λ b. b == 32) text

-- the texts of the fields of a text
abbrev pub fields_of : List ℕ → List (List ℕ)
fields_of text = slice_split (λ b. b == 32) text

-- the next field spells this number, and this is the rest after it
pub record Spells (n : ℕ) (before after : Rest) : Type 0 where
  pub word : Word
  pub next : next_field before ≡ Ok (word, after)
  pub text : word.text ≡ decimal n

-- the next field has this text, and this is the rest after it
pub record IsNext (bytes : List ℕ) (before after : Rest) : Type 0 where
  pub word : Word
  pub next : next_field before ≡ Ok (word, after)
  pub text : word.text ≡ bytes

-- the number that a field spells, which is not below the one before
abbrev pub rising_value : ℕ → ℕ → Word → Result ℕ TextFault
rising_value before most w =
    number_value 0 most w >>= λ n. if nat_lt n before then Err (fault_at MomentFalls w) else Ok n

-- the next field, which is such a number
abbrev pub rising_field : ℕ → ℕ → Rest → Result (ℕ × Rest) TextFault
rising_field before most r = do
  w ← next_field r
  n ← rising_value before most w.0
  Ok (n, w.1)
