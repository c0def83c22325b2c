-- Which lines can be kept, and what it means to take the first.
use Rattle.std.specs.Prelude.{◌≡◌, ◌≤◌, ℕ, ◌+◌, List, [], ◌∷◌, length, Option, Some, None}
use Rattle.case_forms.specs.declared.trace.Line.{Line}

-- the line's span is the whole line of its number; no number and no length is above what texts can have
pub record IsPlain (line : Line) : Type 0 where
  pub number : line.number ≤ 10000000
  pub at : line.span.line ≡ line.number
  pub start : line.span.start ≡ 0
  pub stop : line.span.stop ≤ 140000

-- the item is the first line, and the others are left; if there was none, the item is None
abbrev pub Takes : List Line → List Line → Option Line → Type 0
Takes [] new item = (item ≡ None) × (new ≡ [])
Takes (line ∷ rest) new item = (item ≡ Some line) × (new ≡ rest)

-- the number comes next after those of the lines, if there are any
abbrev pub Follows : List Line → ℕ → Type 0
Follows [] n = Unit {0}
Follows (line ∷ rest) n = n ≡ line.number + length (line ∷ rest)
