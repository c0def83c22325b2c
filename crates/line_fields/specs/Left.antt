-- What a reader of items has left, if its bytes are known: the items, or the first fault among them.
use Rattle.std.specs.Prelude.{◌≡◌, List, [], ◌∷◌, Option, None, Some, Result, Ok}
use Rattle.line_fields.specs.declared.fault.TextFault.{TextFault}
use Rattle.line_fields.specs.Reading.{◌>>=◌, Fails}

-- an item, and what is left after it
abbrev pub in_front : {A : Type 0} → A → Result (List A) TextFault → Result (List A) TextFault
in_front item left = left >>= λ items. Ok (item ∷ items)

-- the next item is read, or none is left
abbrev pub Yields : {A : Type 0} → Option (Result (List A) TextFault) → Option (Result (List A) TextFault) → Option A
    → Type 0
Yields None new item = Unit {0}
Yields (Some left) None item = ⊥
Yields (Some left) (Some rest) None = (left ≡ Ok []) × (rest ≡ Ok [])
Yields (Some left) (Some rest) (Some item) = left ≡ in_front item rest

-- the first fault of the rest is this, unless memory ran out
abbrev pub FailsLeft : {A : Type 0} → TextFault → Option (Result A TextFault) → Type 0
FailsLeft e None = Unit {0}
FailsLeft e (Some left) = Fails e.kind e left

-- what is left doesn't change
abbrev pub Remains : {A : Type 0} → Option (Result A TextFault) → Option (Result A TextFault) → Type 0
Remains None new = Unit {0}
Remains (Some left) None = ⊥
Remains (Some left) (Some rest) = left ≡ rest
