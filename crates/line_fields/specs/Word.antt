-- The fields of a line, each at its columns.
use Rattle.std.specs.Prelude.{◌≡◌, ◌≤◌, ◌-◌, take, ℕ, ◌+◌, ◌==◌, nat_le, if◌then◌else◌, List, [], ◌∷◌, length, drop}
use Rattle.std.specs.List.{slice_split}

-- a field: its bytes, and its columns
pub record Word : Type 0 where
  pub text : List ℕ
  pub line : ℕ
  pub start : ℕ
  pub stop : ℕ

-- one space is between two fields
abbrev pub words_from : ℕ → ℕ → List (List ℕ) → List Word
words_from line at [] = []
words_from line at (text ∷ texts) =
    record { text = text; line = line; start = at; stop = at + length text }
    ∷ words_from line (at + length text + 1) texts

-- the fields of a line from a column on, which may be one past its end
abbrev pub words_left : ℕ → ℕ → List ℕ → List Word
words_left line at text =
    if nat_le at (length text) then words_from line at (slice_split (λ b. b == 32) (drop at text)) else []

-- all fields of a line
abbrev pub words_of : ℕ → List ℕ → List Word
words_of line text = words_left line 0 text

-- the rest of a line: the fields, and the column at which the line ends
pub record Rest : Type 0 where
  pub line : ℕ
  pub stop : ℕ
  pub words : List Word

-- the whole of a line
abbrev pub rest_of : ℕ → List ℕ → Rest
rest_of line text = record { line = line; stop = length text; words = words_of line text }

-- a field is the slice of its line at its columns, from this one on
pub record IsSlice (line : List ℕ) (at : ℕ) (w : Word) : Type 0 where
  pub start : w.start ≡ at
  pub rises : w.start ≤ w.stop
  pub within : w.stop ≤ length line
  pub text : w.text ≡ take (w.stop - w.start) (drop w.start line)

-- each field is a slice that begins one space after the one before
abbrev pub AreSlices : List ℕ → ℕ → List Word → Type 0
AreSlices line at [] = Unit {0}
AreSlices line at (w ∷ ws) = IsSlice line at w × AreSlices line (w.stop + 1) ws
