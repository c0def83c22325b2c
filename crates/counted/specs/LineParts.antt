-- What was read of a line.
use Rattle.std.specs.Prelude.{◌≡◌, ◌≢◌, ◌<◌, ◌+◌, ◌⊎◌, ℕ, Bool, true, false, List, [], ◌∷◌, ◌++◌, length, All, Option}
use Rattle.std.specs.Prelude.{Some, None, OnSome, ◌≤◌, zero, take}
use Rattle.std.specs.Io.{StartsWith, appended_bytes}
use Rattle.std.specs.Io.KnownBytes.{Consumes, IsAtEnd}

-- no byte is LF
abbrev pub HasNoFeed : List ℕ → Type 0
HasNoFeed bytes = All (λ b. b ≢ 10) bytes

-- the last byte is LF, and no other
abbrev pub EndsAtFeed : List ℕ → Type 0
EndsAtFeed bytes = (text : List ℕ) × HasNoFeed text × (bytes ≡ text ++ 10 ∷ [])

-- the bytes belong to one line, and its LF is among them or not
abbrev pub IsPart : Bool → List ℕ → Type 0
IsPart true bytes = EndsAtFeed bytes
IsPart false bytes = HasNoFeed bytes

-- a line that goes on in these bytes ends after so many: at its LF, or at once if there are none
abbrev pub IsEnd : ℕ → List ℕ → Type 0
IsEnd stop bytes = (stop ≤ length bytes) × (EndsAtFeed (take stop bytes) ⊎ (bytes ≡ []))

-- the same for bytes that were read; there are none only at the end of the input
abbrev pub EndsThere : Option (List ℕ) → Option (List ℕ) → ℕ → List ℕ → Type 0
EndsThere old new stop bytes =
    (stop ≤ length bytes) × (EndsAtFeed (take stop bytes) ⊎ ((bytes ≡ []) × OnSome old (IsAtEnd new)))

-- after bytes that were read, a line goes on, or is at its end: after its LF, or at the end of the input
abbrev pub IsPartRead : Bool → Option (List ℕ) → Option (List ℕ) → List ℕ → Type 0
IsPartRead false old new bytes = HasNoFeed bytes
IsPartRead true old new bytes = EndsAtFeed bytes ⊎ ((bytes ≡ []) × OnSome old (IsAtEnd new))

-- in bytes that were read, a line goes on, or ends after so many
abbrev pub IsEndRead : Option ℕ → Option (List ℕ) → Option (List ℕ) → List ℕ → Type 0
IsEndRead None old new bytes = HasNoFeed bytes
IsEndRead (Some stop) old new bytes = EndsThere old new stop bytes

-- a line grows by at most so many bytes, which the known bytes lose, and `P` holds of them
pub record IsAppended (most : ℕ) (P : List ℕ → Type 0) (old new : Option (List ℕ)) (line next : List ℕ) : Type 0 where
  pub appends : StartsWith next line
  pub few : length (appended_bytes line next) ≤ most
  pub bytes : Consumes old new (appended_bytes line next)
  pub part : P (appended_bytes line next)

-- known bytes lose their first line: up to its LF, or all that is left
abbrev pub LosesLine : Option (List ℕ) → Option (List ℕ) → List ℕ → Type 0
LosesLine old new raw =
    Consumes old new raw × (EndsAtFeed raw ⊎ (HasNoFeed raw × (0 < length raw) × OnSome old (IsAtEnd new)))

-- the last bytes of a line, and those before them: some only if the line has more than `most`
pub record IsKept (most : ℕ) (front : List ℕ) (before : ℕ) (kept : List ℕ) : Type 0 where
  pub count : length front ≡ before
  pub past : 0 < before → most < before + length kept
  pub begins : 0 < before → (c : ℕ) × (rest : List ℕ) × (kept ≡ c ∷ rest) × (c ≢ 10)

-- a line is read, or the input is at its end
abbrev pub GivesLine : ℕ → Option (List ℕ) → Option (List ℕ) → Option ℕ → List ℕ → Type 0
GivesLine most old new None kept = Consumes old new [] × OnSome old (IsAtEnd new)
GivesLine most old new (Some before) kept =
    (front : List ℕ) × IsKept most front before kept × LosesLine old new (front ++ kept)

-- how many bytes of a line were discarded, if it has bytes
abbrev pub discarded : ℕ → ℕ → Option ℕ
discarded zero zero = None
discarded before stop = Some before
