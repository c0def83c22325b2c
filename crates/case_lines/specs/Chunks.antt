-- Lists of lines, one after another.
use Rattle.std.specs.Prelude.{◌≢◌, List, [], ◌∷◌, ◌++◌}
use Rattle.case_forms.specs.declared.trace.Line.{Line}

-- all lines of the lists
unfoldable pub joined : List (List Line) → List Line
joined [] = []
joined (lines ∷ rest) = lines ++ joined rest

-- none of the lists is empty
unfoldable pub AreFilled : List (List Line) → Type 0
AreFilled [] = Unit {0}
AreFilled (lines ∷ rest) = (lines ≢ []) × AreFilled rest
