-- Queues: items numbered one after the other, some of which were removed.
use Rattle.std.specs.Prelude.{◌≢◌, ℕ, ◌+◌, List, [], ◌∷◌, Option, None, Some, slice_get}

-- A queue as contracts see it.
pub record Queue (V : Type 0) : Type 0 where
  -- the remaining items, in order, each with its number
  pub entries : List (ℕ × V)
  -- the number of the next item
  pub next : ℕ

-- the items in the slots, with their numbers; the first slot has this number
abbrev pub standing : {V : Type 0} → ℕ → List (Option V) → List (ℕ × V)
standing n [] = []
standing n (None ∷ slots) = standing (n + 1) slots
standing n (Some item ∷ slots) = (n, item) ∷ standing (n + 1) slots

-- the first slot, if it exists, is not empty
abbrev pub IsTrimmed : {V : Type 0} → List (Option V) → Type 0
IsTrimmed slots = slice_get slots 0 ≢ Some None
