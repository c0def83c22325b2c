-- A case with a line that is too long for any text, of which only the lines before that one are kept.
use Rattle.std.specs.Prelude.{◌≡◌, ◌<◌, ℕ, List, [], ◌∷◌, ◌++◌, length, Option, None, Some, Err}
use Rattle.std.specs.List.{AllByRecursion, concat}
use Rattle.bstr.specs.Text.{lines_of}
use Rattle.line_fields.specs.declared.fault.FaultKind.TheVariants.{LineTooLong}
use Rattle.line_fields.specs.Lines.{IsRaw, line_text}
use Rattle.case_stream.specs.Cases.{cases_from, cases_of}
use Rattle.case_stream.specs.Left.{TakesCase, TakesLast}

-- wherever the line stands, its fault is that it is too long, with this length
abbrev pub IsTooLong : ℕ → List ℕ → Type 0
IsTooLong size raw =
    (number : ℕ) → line_text number raw
    ≡ Err (record { kind = LineTooLong; span = record { line = number; start = 0; stop = size } })

-- the bytes are whole lines, each with its end
abbrev pub AreWhole : List ℕ → Type 0
AreWhole bytes = (lines : List (List ℕ)) × AllByRecursion IsRaw lines × (bytes ≡ concat lines)

-- the text begins with these whole lines, and the next line is too long, with this length
pub record GoesOn (size : ℕ) (held text : List ℕ) : Type 0 where
  pub whole : AreWhole held
  pub raw : List ℕ
  pub rest : List (List ℕ)
  pub long : IsTooLong size raw
  pub are : lines_of text ≡ whole.0 ++ raw ∷ rest

-- the first case was taken: it begins with these lines, and then has a line of that length
abbrev pub TakesLong : Option (List ℕ) → Option (List ℕ) → ℕ → List ℕ → Type 0
TakesLong old new size held = (text : List ℕ) × GoesOn size held text × TakesCase old new text

-- the same for the one case that was left
abbrev pub TakesLongLast : Option (List ℕ) → ℕ → List ℕ → Type 0
TakesLongLast old size held = (text : List ℕ) × GoesOn size held text × TakesLast old text

-- the rest of a case was read, with the line that ends it
abbrev pub SkipsCase : Option (List ℕ) → Option (List ℕ) → Type 0
SkipsCase None new = Unit {0}
SkipsCase (Some old) None = ⊥
SkipsCase (Some old) (Some new) =
    (rest : List ℕ) × ((before : List ℕ) → cases_from before (lines_of old) ≡ (before ++ rest) ∷ cases_of new)

-- the rest of the last case was read
abbrev pub SkipsLast : Option (List ℕ) → Type 0
SkipsLast None = Unit {0}
SkipsLast (Some old) =
    (rest : List ℕ) × ((before : List ℕ) → 0 < length before → cases_from before (lines_of old) ≡ (before ++ rest) ∷ [])
