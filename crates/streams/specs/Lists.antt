-- Changing elements of a list, and what two lists have in common.
use Rattle.std.specs.Prelude.{◌≡◌, ℕ, zero, suc, ◌+◌, List, [], ◌∷◌, ◌++◌, length, take, drop, Some, slice_get}

-- the element at this place is replaced by the function's result; if there is none, nothing changes
abbrev pub modify : {X : Type 0} → List X → ℕ → (X → X) → List X
modify [] place f = []
modify (x ∷ xs) zero f = f x ∷ xs
modify (x ∷ xs) (suc place) f = x ∷ modify xs place f

-- the second list begins with the first
abbrev pub IsPrefixOf : {X : Type 0} → List X → List X → Type 0
IsPrefixOf {X} xs ys = (rest : List X) × (xs ++ rest ≡ ys)

-- an element of the first list is at the same place in the second
abbrev pub Within : {X : Type 0} → List X → List X → Type 0
Within {X} xs ys = (place : ℕ) (x : X) → slice_get xs place ≡ Some x → slice_get ys place ≡ Some x

-- the first elements, this many, are replaced by one value
abbrev pub covered : {X : Type 0} → X → ℕ → List X → List X
covered y zero xs = xs
covered y (suc count) [] = []
covered y (suc count) (x ∷ xs) = y ∷ covered y count xs

-- the elements from this place on are replaced by these, one by one
abbrev pub over : {X : Type 0} → ℕ → List X → List X → List X
over place xs ys = take place xs ++ (ys ++ drop (place + length ys) xs)
