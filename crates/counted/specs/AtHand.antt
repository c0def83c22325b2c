-- What was taken of the lines that a reader has at hand.
use Rattle.std.specs.Prelude.{◌≡◌, ◌≢◌, ◌⊎◌, ℕ, List, [], ◌∷◌, ◌++◌, Option, OnSome}
use Rattle.std.specs.List.{AllByRecursion, concat}
use Rattle.std.specs.Io.{StartsWith, appended_bytes}
use Rattle.std.specs.Io.KnownBytes.{Consumes, IsAtEnd}
use Rattle.counted.specs.LineParts.{EndsAtFeed}
use Rattle.counted.specs.declared.at_hand.Wanted.{Wanted}
use Rattle.counted.specs.declared.at_hand.Taken.{Taken}
use Rattle.counted.specs.declared.at_hand.Taken.TheVariants.{ToWord, Lines, Nothing, AtEnd}

-- the line, with its end, is this word
abbrev pub IsWordLine : List ℕ → List ℕ → Type 0
IsWordLine word raw = (raw ≡ word ++ 10 ∷ []) ⊎ (raw ≡ word ++ 13 ∷ 10 ∷ [])

-- the bytes are a line with its end, which is not this word
abbrev pub IsOther : List ℕ → List ℕ → Type 0
IsOther word raw = EndsAtFeed raw × ¬ IsWordLine word raw

-- the bytes are such lines
abbrev pub AreOthers : List ℕ → List ℕ → Type 0
AreOthers word bytes = (lines : List (List ℕ)) × AllByRecursion (IsOther word) lines × (bytes ≡ concat lines)

-- known bytes lose these lines, and the word's line if it ended them
abbrev pub Takes : Taken → List ℕ → Option (List ℕ) → Option (List ℕ) → List ℕ → Type 0
Takes (ToWord more) word old new lines =
    AreOthers word lines × ((raw : List ℕ) × IsWordLine word raw × Consumes old new (lines ++ raw))
Takes Lines word old new lines = AreOthers word lines × Consumes old new lines
Takes Nothing word old new lines = (lines ≡ []) × Consumes old new []
Takes AtEnd word old new lines = (lines ≡ []) × Consumes old new [] × OnSome old (IsAtEnd new)

-- a buffer grows by the lines that are taken, and they are what is wanted
pub record IsTaken (wanted : Wanted) (taken : Taken) (old new : Option (List ℕ)) (word buf next : List ℕ) : Type 0 where
  pub appends : StartsWith next buf
  pub takes : Takes taken word old new (appended_bytes buf next)
  pub whole : wanted ≡ Wanted.ToWord → taken ≢ Lines
