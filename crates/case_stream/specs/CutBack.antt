-- Cases as they are written, each followed by a line that ends it.
use Rattle.std.specs.Prelude.{◌≡◌, ℕ, List, [], ◌∷◌, ◌++◌, false, map, codes}
use Rattle.std.specs.List.{AllByRecursion, concat}
use Rattle.line_fields.specs.Lines.{IsRaw}
use Rattle.case_stream.specs.Cases.{cases_of, ends_case, rest_case}

-- lines with their ends, of which none ends a case
abbrev pub AreCaseLines : List (List ℕ) → Type 0
AreCaseLines lines = AllByRecursion (λ raw. IsRaw raw × (ends_case raw ≡ false)) lines

-- the lines of cases, each followed by a line that ends it, and then those of a rest
abbrev pub lines_written : List (List (List ℕ)) → List (List ℕ) → List (List ℕ)
lines_written [] rest = rest
lines_written (lines ∷ cases) rest = lines ++ codes "end\n" ∷ lines_written cases rest

-- cases that were written like this are split into the same cases again, and a rest that isn't empty is one more
abbrev pub CasesAreCutBack : Type 0
CasesAreCutBack =
    (cases : List (List (List ℕ))) → (rest : List (List ℕ)) → AllByRecursion AreCaseLines cases → AreCaseLines rest
    → cases_of (concat (lines_written cases rest)) ≡ map concat cases ++ rest_case (concat rest)
