-- When each position was first built, and whether it was retransmitted; only data sent once is measured (RFC 6298, 3).
use Rattle.std.specs.Prelude.{ℕ, zero, suc, ◌+◌, ◌-◌, Bool, true, false, ◌||◌, List, [], ◌∷◌, ◌++◌, length, take, drop}
use Rattle.std.specs.Prelude.{replicate, Option, slice_get}
use Rattle.std.specs.Option.{option_map}
use Rattle.streams.specs.declared.transmission.Transmission.{Transmission}

-- sent for the first time at this moment
abbrev pub once : ℕ → Transmission
once moment = record { moment = moment; again = false }

-- retransmitted: the moment of the first transmission stays
abbrev pub remade : Transmission → Transmission
remade x = record x { again = true }

-- this many positions from this one on were retransmitted, if they were sent
abbrev pub mark : (position count : ℕ) → List Transmission → List Transmission
mark position count [] = []
mark (suc position) count (x ∷ all) = x ∷ mark position count all
mark zero zero (x ∷ all) = x ∷ all
mark zero (suc count) (x ∷ all) = remade x ∷ mark zero count all

-- a segment is built: its old positions are retransmitted, the new ones sent for the first time
abbrev pub made : List Transmission → (position count moment : ℕ) → List Transmission
made all position count moment = mark position count all ++ replicate (position + count - length all) (once moment)

-- one of these was retransmitted
abbrev pub any_again : List Transmission → Bool
any_again [] = false
any_again (x ∷ all) = x.again || any_again all

-- a position from the first to before the second was retransmitted
abbrev pub retransmitted : List Transmission → (from upto : ℕ) → Bool
retransmitted all from upto = any_again (take (upto - from) (drop from all))

-- when a position was first built, if it was
abbrev pub made_moment : List Transmission → ℕ → Option ℕ
made_moment all position = option_map (λ x. x.moment) (slice_get all position)
