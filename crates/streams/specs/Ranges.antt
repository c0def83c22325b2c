-- Sets of positions.
use Rattle.std.specs.Prelude.{ℕ, zero, suc, ◌-◌, min, nat_le, Bool, List, [], ◌∷◌, Option}
use Rattle.std.specs.List.{filter, list_all, list_any, reduce}
use Rattle.std.specs.Ordering.{nat_cmp}
use Rattle.std.specs.FinSet.{FinSet, contains, from_list, items}

-- this many positions from this one on
abbrev pub counted_from : (from count : ℕ) → List ℕ
counted_from from zero = []
counted_from from (suc count) = from ∷ counted_from (suc from) count

-- the positions from `from` to before `upto`; none if `upto` is not above `from`
abbrev pub positions : (from upto : ℕ) → List ℕ
positions from upto = counted_from from (upto - from)

-- the same as a set
unfoldable pub span : (from upto : ℕ) → FinSet nat_cmp
span from upto = from_list (positions from upto)

-- one of the positions from `from` to before `upto` is in the set
unfoldable pub meets : FinSet nat_cmp → (from upto : ℕ) → Bool
meets held from upto = list_any (contains held) (positions from upto)

-- each of them is
unfoldable pub covers : FinSet nat_cmp → (from upto : ℕ) → Bool
covers held from upto = list_all (contains held) (positions from upto)

-- the first position from this one on that is in the set
unfoldable pub first_held : FinSet nat_cmp → ℕ → Option ℕ
first_held held position = reduce min (filter (nat_le position) (items held))
