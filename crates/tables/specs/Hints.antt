-- Hints: slots that say where the entries of numbers may be, and which numbers have none.
use Rattle.std.specs.Prelude.{◌≢◌, ℕ, ◌-◌, List, length, nat_eq, Some, IsSome, slice_get}
use Rattle.std.specs.Map.{lookup}
use Rattle.std.specs.Int.RustNames.{bit_and}
use Rattle.std.specs.List.{All}

-- the content of an empty slot
abbrev pub no_place : ℕ
no_place = 4294967295

-- the slot of a number, out of this many
abbrev pub slot : (count number : ℕ) → ℕ
slot count number = bit_and number (count - 1)

-- the slot of a number isn't empty; if there are no slots, none is
abbrev pub IsHinted : List ℕ → ℕ → Type 0
IsHinted hints number = slice_get hints (slot (length hints) number) ≢ Some no_place

-- no entry's slot is empty
abbrev pub AreHinted : {V : Type 0} → List ℕ → List (ℕ × V) → Type 0
AreHinted hints entries = All (λ e. IsHinted hints e.0) entries

-- the number of each entry is in a list of numbers
abbrev pub AreIn : {V W : Type 0} → List (ℕ × W) → List (ℕ × V) → Type 0
AreIn numbers entries = All (λ e. IsSome (lookup (nat_eq e.0) numbers)) entries
