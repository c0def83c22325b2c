-- How a set of positions is kept: for each range the position after it, with its first one.
use Rattle.std.specs.Prelude.{ℕ, suc, ◌<◌, ◌≤◌, Bool, ◌&&◌, not, nat_le, nat_lt, if◌then◌else◌, max, min}
use Rattle.std.specs.Prelude.{List, [], ◌∷◌, Option, None, Some, option_map, find, filter, ⊤}
use Rattle.std.specs.List.{list_any}
use Rattle.std.specs.Ordering.{nat_cmp}
use Rattle.std.specs.Map.{remove_entry}
use Rattle.std.specs.BTreeMap.{insert_entry, is_at}
use Rattle.std.specs.FinSet.{FinSet, empty, union}
use Rattle.streams.specs.Ranges.{span}

-- the position is in one of the ranges
abbrev pub in_entries : List (ℕ × ℕ) → ℕ → Bool
in_entries entries position = list_any (λ e. nat_le e.1 position && nat_lt position e.0) entries

-- the positions that are in one of them
abbrev pub held : List (ℕ × ℕ) → FinSet nat_cmp
held [] = empty
held (e ∷ entries) = union (span e.1 e.0) (held entries)

-- the ranges ascend from this position on, none is empty, and a position lies between each two
abbrev pub AreApart : ℕ → List (ℕ × ℕ) → Type 0
AreApart low [] = ⊤
AreApart low (e ∷ entries) = (low ≤ e.1) × (e.1 < e.0) × AreApart (suc e.0) entries

-- the first range that ends at this position or after it
abbrev pub first_from : ℕ → List (ℕ × ℕ) → Option (ℕ × ℕ)
first_from position entries = find (λ e. nat_le position e.0) entries

-- the first range that ends after this position
abbrev pub first_after : ℕ → List (ℕ × ℕ) → Option (ℕ × ℕ)
first_after position entries = find (λ e. nat_lt position e.0) entries

-- the first end from `low` to before `high`
abbrev pub first_between : {X : Type 0} → (low high : ℕ) → List (ℕ × X) → Option ℕ
first_between low high entries = option_map (λ e. e.0) (find (λ e. nat_le low e.0 && nat_lt e.0 high) entries)

-- what ends from `low` to before `high` is gone
abbrev pub without : {X : Type 0} → (low high : ℕ) → List (ℕ × X) → List (ℕ × X)
without low high entries = filter (λ e. not (nat_le low e.0 && nat_lt e.0 high)) entries

-- where a range begins that is added from a position on, by the first range that ends there or after it
abbrev pub start_by : ℕ → Option (ℕ × ℕ) → ℕ
start_by from None = from
start_by from (Some e) = min e.1 from

abbrev pub joined_start : ℕ → List (ℕ × ℕ) → ℕ
joined_start from entries = start_by from (first_from from entries)

-- where a range ends that is added to before a position
abbrev pub end_by : ℕ → Option (ℕ × ℕ) → ℕ
end_by upto None = upto
end_by upto (Some e) = if nat_le e.1 upto then e.0 else upto

abbrev pub joined_end : ℕ → List (ℕ × ℕ) → ℕ
joined_end upto entries = end_by upto (first_from upto entries)

-- the part below a position of the first range that ends after it is a range of its own
abbrev pub lower_by : ℕ → List (ℕ × ℕ) → Option (ℕ × ℕ) → List (ℕ × ℕ)
lower_by from entries None = entries
lower_by from entries (Some e) = if nat_lt e.1 from then insert_entry nat_cmp entries from e.1 else entries

abbrev pub with_lower : ℕ → List (ℕ × ℕ) → List (ℕ × ℕ)
with_lower from entries = lower_by from entries (first_after from entries)

-- the first range that ends after a position loses what lies below it
abbrev pub begun_at : ℕ → List (ℕ × ℕ) → List (ℕ × ℕ)
begun_at position [] = []
begun_at position (e ∷ entries) =
    if nat_lt position e.0 then (e.0, max e.1 position) ∷ entries else e ∷ begun_at position entries

-- the ranges that end from `low` on lose what lies below `high`
abbrev pub cleared : (low high : ℕ) → List (ℕ × ℕ) → List (ℕ × ℕ)
cleared low high entries = begun_at high (remove_entry (is_at (nat_cmp high)) (without low high entries))
