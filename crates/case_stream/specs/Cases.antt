-- The cases of one text.
use Rattle.std.specs.Prelude.{◌&&◌, ℕ, Bool, List, [], ◌∷◌, ◌++◌, if◌then◌else◌, codes}
use Rattle.std.specs.Str.{bytes_eq}
use Rattle.bstr.specs.Text.{lines_of, without_terminator}
use Rattle.line_fields.specs.Lines.{is_ended}

-- the line, with its end, ends a case
abbrev pub ends_case : List ℕ → Bool
ends_case raw = is_ended raw && bytes_eq (without_terminator raw) (codes "end")

-- what is left after the last such line is a case, unless it is empty
abbrev pub rest_case : List ℕ → List (List ℕ)
rest_case [] = []
rest_case (x ∷ xs) = (x ∷ xs) ∷ []

-- the cases of these lines, of which the first begins with the bytes before them
abbrev pub cases_from : List ℕ → List (List ℕ) → List (List ℕ)
cases_from before [] = rest_case before
cases_from before (raw ∷ raws) = if ends_case raw then before ∷ cases_from [] raws else cases_from (before ++ raw) raws

-- the cases of a text
abbrev pub cases_of : List ℕ → List (List ℕ)
cases_of text = cases_from [] (lines_of text)
