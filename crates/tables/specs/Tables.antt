-- Tables by number: their entries in the order in which they were added, and where each number is.
use Rattle.std.specs.Prelude.{◌≡◌, ℕ, suc, ◌<◌, ◌≤◌, Bool, true, false, nat_eq, ltb, if◌then◌else◌, List, [], ◌∷◌}
use Rattle.std.specs.Prelude.{length, slice_index_or, Option, None, Some, IsSome, IfSome}
use Rattle.std.specs.Option.{option_map, option_map_or, option_flatten, option_or}
use Rattle.std.specs.Ordering.{nat_cmp}
use Rattle.std.specs.Map.{lookup}
use Rattle.std.specs.BTreeMap.{is_at}
use Rattle.indexmap.specs.IndexMap.{insert_entry}

-- A table as contracts see it.
pub record Table (V : Type 0) : Type 0 where
  -- the entries, in the order in which their numbers were added
  pub entries : List (ℕ × V)
  -- the number whose entry has room
  pub ready : Option ℕ

-- entries with another value for a number, computed from its value
abbrev pub changed_at : {V : Type 0} → (V → V) → List (ℕ × V) → ℕ → List (ℕ × V)
changed_at change entries number =
    option_map_or (λ v. insert_entry nat_eq entries number (change v)) (lookup (nat_eq number) entries) entries

-- the place of a number's entry
abbrev pub place_of : {V : Type 0} → List (ℕ × V) → ℕ → Option ℕ
place_of [] number = None
place_of (e ∷ es) number = if nat_eq number e.0 then Some 0 else option_map (λ place. suc place) (place_of es number)

-- no number has two entries
abbrev pub AreApart : {V : Type 0} → List (ℕ × V) → Type 0
AreApart [] = Unit {0}
AreApart (e ∷ es) = (place_of es e.0 ≡ None) × AreApart es

-- whether a number is above the greatest so far
abbrev pub is_above : Option ℕ → ℕ → Bool
is_above top number = option_map_or (λ greatest. ltb greatest number) top true

-- the number at a place of a list of numbers with the places of their entries
abbrev pub number_at : List (ℕ × ℕ) → ℕ → ℕ
number_at risen i = (slice_index_or risen i (0, 0)).0

-- the numbers rise
abbrev pub IsRising : List (ℕ × ℕ) → Type 0
IsRising risen = (i j : ℕ) → i < j → j < length risen → number_at risen i < number_at risen j

-- this many at the front are below a number
abbrev pub AreBelow : List (ℕ × ℕ) → (count number : ℕ) → Type 0
AreBelow risen count number = (i : ℕ) → i < count → i < length risen → number_at risen i < number

-- those after the first so many are not
abbrev pub AreNotBelow : List (ℕ × ℕ) → (count number : ℕ) → Type 0
AreNotBelow risen count number = (i : ℕ) → count ≤ i → i < length risen → number ≤ number_at risen i

-- where a map from numbers to places leads
abbrev pub led_in : List (ℕ × Option ℕ) → ℕ → Option ℕ
led_in others number = option_flatten (lookup (is_at (nat_cmp number)) others)

-- where the rising numbers and the map of the others lead
abbrev pub place_in : List (ℕ × ℕ) → List (ℕ × Option ℕ) → ℕ → Option ℕ
place_in risen others number = option_or (lookup (nat_eq number) risen) (led_in others number)

-- each number leads to its only entry; the rising numbers do rise, and no number above the greatest has an entry
pub record IsPlaced {V : Type 0} (top : Option ℕ) (risen : List (ℕ × ℕ)) (others : List (ℕ × Option ℕ))
    (entries : List (ℕ × V)) : Type 0 where
  pub leads : (number : ℕ) → place_in risen others number ≡ place_of entries number
  pub rises : IsRising risen
  pub below : (number : ℕ) → is_above top number ≡ true → AreBelow risen (length risen) number
  pub new : (number : ℕ) → is_above top number ≡ true → place_of entries number ≡ None
  pub apart : AreApart entries

-- an entry of the number fits without more memory: one more entry fits, and one more rising number, or the number has
-- its place in the map
abbrev pub IsReady : Option ℕ → (Fits FitsRisen : Type 0) → List (ℕ × Option ℕ) → Option ℕ → Type 0
IsReady top Fits FitsRisen others ready = IfSome ready (λ number.
    Fits × (is_above top number ≡ true → FitsRisen)
    × (is_above top number ≡ false → IsSome (lookup (is_at (nat_cmp number)) others)))
