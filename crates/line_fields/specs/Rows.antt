-- The lines that are left of a text, and the result of reading them, if its bytes are known.
use Rattle.std.specs.Prelude.{◌≡◌, ℕ, List, [], ◌∷◌, Option, None, Some, Result, Ok, Err}
use Rattle.std.specs.Option.{option_map}
use Rattle.bstr.specs.Text.{lines_of}
use Rattle.line_fields.specs.declared.fault.TextFault.{TextFault}
use Rattle.line_fields.specs.declared.fault.SourceFault.{SourceFault}
use Rattle.line_fields.specs.declared.fault.SourceFault.TheVariants as reads
use Rattle.line_fields.specs.Reading.{◌>>=◌, Fails}
use Rattle.line_fields.specs.Lines.{line_text, next_raw}

-- the lines of known bytes, each with its end
abbrev pub rows_of : Option (List ℕ) → Option (List (List ℕ))
rows_of known = option_map lines_of known

-- the known lines without the first
abbrev pub TakesRow : Option (List (List ℕ)) → Option (List (List ℕ)) → List ℕ → Type 0
TakesRow None new raw = Unit {0}
TakesRow (Some raws) None raw = ⊥
TakesRow (Some raws) (Some rest) raw = raws ≡ raw ∷ rest

-- no line is left
abbrev pub HasNoRow : Option (List (List ℕ)) → Option (List (List ℕ)) → Type 0
HasNoRow None new = Unit {0}
HasNoRow (Some raws) None = ⊥
HasNoRow (Some raws) (Some rest) = (raws ≡ []) × (rest ≡ [])

-- the text of the next line, if there is one
abbrev pub next_text : ℕ → List (List ℕ) → Result (List ℕ) TextFault
next_text number [] = Ok []
next_text number (raw ∷ raws) = line_text number raw

-- the text of the next line, which must exist
abbrev pub needed_text : ℕ → List (List ℕ) → Result (List ℕ) TextFault
needed_text number raws = next_raw number raws >>= λ raw. line_text number raw.0

-- reading the known lines has this fault, unless memory ran out
abbrev pub FailsAt : {X Y : Type 0} → (X → Result Y TextFault) → TextFault → Option X → Type 0
FailsAt read e None = Unit {0}
FailsAt read e (Some known) = Fails e.kind e (read known)

-- the first of the known lines are read as this value, seen with the lines after them; or with this fault
abbrev pub Reads : {X Y : Type 0} → (X → List (List ℕ) → Y) → (List (List ℕ) → Result Y TextFault)
    → Option (List (List ℕ)) → Option (List (List ℕ)) → Result X SourceFault → Type 0
Reads view read None new r = Unit {0}
Reads view read (Some raws) None (Ok x) = ⊥
Reads view read (Some raws) (Some rest) (Ok x) = read raws ≡ Ok (view x rest)
Reads view read (Some raws) new (Err (reads.Text e)) = Fails e.kind e (read raws)
Reads view read (Some raws) new (Err reads.Read) = Unit {0}

-- a value that is read, and the lines after it
abbrev pub with_rest : {X : Type 0} → X → List (List ℕ) → X × List (List ℕ)
with_rest x rest = (x, rest)

-- the lines after one that has no value
abbrev pub rest_alone : Unit {0} → List (List ℕ) → List (List ℕ)
rest_alone u rest = rest
