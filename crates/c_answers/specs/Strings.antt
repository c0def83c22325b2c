-- Strings in memory that C gives.
use Rattle.std.specs.Prelude.{◌≡◌, ℕ, List, [], ◌∷◌, ◌++◌, length, take, drop}

-- what the memory holds after a text was written into it as a C string: as much of the text as fits, and a zero; memory
-- of no size stays empty
abbrev pub string_in : List ℕ → List ℕ → List ℕ
string_in [] text = []
string_in (x ∷ room) text = take (length room) text ++ (0 ∷ drop (length (take (length room) text)) room)

-- memory that held `old` holds `new` after this text was written into it, and this count is the text's length
abbrev pub Writes : List ℕ → List ℕ → List ℕ → ℕ → Type 0
Writes text old new count = (new ≡ string_in old text) × (count ≡ length text)
