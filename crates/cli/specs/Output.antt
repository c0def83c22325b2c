-- How a run that writes one line ends.
use Rattle.std.specs.Prelude.{◌≡◌, ◌≢◌, ℕ, List, Option, codes}
use Rattle.std.specs.Io.KnownBytes.{Appends}

-- a run ends with this status and has written this line, unless memory ran out, which has a line and a status of its
-- own
abbrev pub Ends : ℕ → List ℕ → ℕ → Option (List ℕ) → Option (List ℕ) → Type 0
Ends wanted line status old new =
    (status ≡ 4 → Appends old new (codes "bad memory\n")) × (status ≢ 4 → (status ≡ wanted) × Appends old new line)
