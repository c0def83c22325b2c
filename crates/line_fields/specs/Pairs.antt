-- Bytes spelled by pairs of digits, and the pairs of digits that bytes are printed as.
use Rattle.std.specs.Prelude.{◌≡◌, ℕ, ◌+◌, ◌*◌, ◌/◌, ◌%◌, ◌<◌, List, slice_index, Some}
use Rattle.std.specs.Result.{result_ok}
use Rattle.hex.specs.Hex.{lower_digits, pair_value}

-- each of the first `count` bytes is what its pair of digits spells
abbrev pub AreSpelled : List ℕ → List ℕ → ℕ → Type 0
AreSpelled text bytes count =
    (k i : ℕ) → k < count
    → Some (slice_index bytes k) ≡ result_ok (pair_value (slice_index text (2 * k)) (slice_index text (2 * k + 1)) i)

-- each of the first `count` bytes is printed as its pair of digits, in lower case
abbrev pub ArePrinted : List ℕ → List ℕ → ℕ → Type 0
ArePrinted bytes digits count =
    (k : ℕ) → k < count
    → (slice_index digits (2 * k) ≡ slice_index lower_digits (slice_index bytes k / 16))
    × (slice_index digits (2 * k + 1) ≡ slice_index lower_digits (slice_index bytes k % 16))
