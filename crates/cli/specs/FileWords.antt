-- The command line for a case in two files.
use Rattle.std.specs.Prelude.{◌≡◌, ◌⊎◌, ◌==◌, Bool, false, ℕ, List, [], ◌∷◌, ◌++◌, codes}
use Rattle.std.specs.List.{list_any}
use Rattle.cli.specs.CommandLine.{is_dashed}

-- the words begin with the option and its value, and these words follow; the value is a word of its own, which doesn't
-- begin with a dash, or follows an equals sign
abbrev pub BeginsWith : List ℕ → List ℕ → List (List ℕ) → List (List ℕ) → Type 0
BeginsWith option value behind words =
    ((words ≡ option ∷ value ∷ behind) × (is_dashed value ≡ false)) ⊎ (words ≡ (option ++ codes "=" ++ value) ∷ behind)

-- the words are two options with these values, in this order
abbrev pub AreBoth : List ℕ → List ℕ → List ℕ → List ℕ → List (List ℕ) → Type 0
AreBoth first one second two words =
    (behind : List (List ℕ)) × BeginsWith first one behind words × BeginsWith second two [] behind

-- the words are `check` and both options, each once and in either order, with these values
abbrev pub AreNamed : List (List ℕ) → List ℕ → List ℕ → Type 0
AreNamed words trace witness =
    (options : List (List ℕ))
    × (words ≡ codes "check" ∷ options)
    × (AreBoth (codes "--trace") trace (codes "--witness") witness options
    ⊎ AreBoth (codes "--witness") witness (codes "--trace") trace options)

-- one of the bytes is a NUL: no file has such a name, but a word that wasn't UTF-8 has one (`GivenWords`)
abbrev pub has_nul : List ℕ → Bool
has_nul = list_any (λ byte. byte == 0)

-- the words name these two files
abbrev pub AsksFiles : List (List ℕ) → List ℕ → List ℕ → Type 0
AsksFiles words trace witness = AreNamed words trace witness × (has_nul trace ≡ false) × (has_nul witness ≡ false)
