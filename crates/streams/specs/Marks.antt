-- Marked positions, as ranges.
use Rattle.std.specs.Prelude.{ℕ, suc, ◌<◌, ◌≤◌, Bool, ◌&&◌, ◌||◌, nat_le, nat_lt, if◌then◌else◌, List, [], ◌∷◌}
use Rattle.std.specs.List.{AllByRecursion, list_any}
use Rattle.streams.specs.declared.transmission.Transmission.{Transmission}
use Rattle.streams.specs.declared.marks.Marks.{Marks}
use Rattle.streams.specs.Transmissions.{remade}

-- the position is in one of the ranges, each given by its first position and the one after its last
abbrev pub in_ranges : List (ℕ × ℕ) → ℕ → Bool
in_ranges ranges position = list_any (λ e. nat_le e.0 position && nat_lt position e.1) ranges

-- no range is empty, begins below the one number or reaches beyond the other
abbrev pub AreRanges : (floor end : ℕ) → List (ℕ × ℕ) → Type 0
AreRanges floor end ranges = AllByRecursion (λ e. (floor ≤ e.0) × (e.0 < e.1) × (e.1 ≤ end)) ranges

-- the position is marked
abbrev pub is_marked : Marks → ℕ → Bool
is_marked m position = in_ranges m.ranges.entries position || (nat_le m.floor position && nat_lt position m.reached)

-- no position from that end on is marked
abbrev pub IsBelow : ℕ → Marks → Type 0
IsBelow end m = AreRanges m.floor end m.ranges.entries × (m.reached ≤ end)

-- the transmissions from a position on, if the marked ones were retransmitted
abbrev pub marked : (ℕ → Bool) → ℕ → List Transmission → List Transmission
marked is_marked position [] = []
marked is_marked position (x ∷ all) = (if is_marked position then remade x else x) ∷ marked is_marked (suc position) all
