-- Which outstanding positions are in flight, and which of them were built last with one segment.
use Rattle.std.specs.Prelude.{◌≡◌, ℕ, suc, ◌-◌, ◌<◌, ◌≤◌, nat_lt, if◌then◌else◌, List, [], ◌∷◌, Option, None, Some}
use Rattle.std.specs.Prelude.{slice_get}
use Rattle.std.specs.List.{cons_option, zip}
use Rattle.std.specs.Option.{option_flatten, option_map}
use Rattle.std.specs.Ordering.{nat_cmp}
use Rattle.std.specs.FinSet.{FinSet, contains}
use Rattle.streams.specs.Ranges.{positions}
use Rattle.streams.specs.Pieces.{alike, inner}
use Rattle.streams.specs.declared.outstanding.Outstanding.{Outstanding}
use Rattle.streams.specs.declared.flying.Run.{Run}

-- what is known of a position that is in flight: it is outstanding, and the peer didn't report it
abbrev pub flying : List (Option Outstanding) → (told : FinSet nat_cmp) → ℕ → Option Outstanding
flying known told position = if contains told position then None else option_flatten (slice_get known position)

-- those of some positions that are in flight, in order, each with what is known of it
abbrev pub flying_among : List (Option Outstanding) → FinSet nat_cmp → List ℕ → List (ℕ × Outstanding)
flying_among known told [] = []
flying_among known told (position ∷ positions) =
    cons_option (option_map (λ x. (position, x)) (flying known told position)) (flying_among known told positions)

-- the same of the positions from `from` to before `upto`
abbrev pub flying_in : List (Option Outstanding) → FinSet nat_cmp → (from upto : ℕ) → List (ℕ × Outstanding)
flying_in known told from upto = flying_among known told (positions from upto)

-- the positions of a run, each with what is known of it
abbrev pub run_of : Run → List (ℕ × Outstanding)
run_of run = zip (positions run.from run.upto) (alike run.state (run.upto - run.from))

-- what is known of the position before `upto`, where the positions to before `end` are alike: `state` is what is known
-- of the last of them, and no other one ends its segment
abbrev pub state_before : (upto end : ℕ) → Outstanding → Outstanding
state_before upto end state = if nat_lt upto end then inner state else state

-- the positions from one to before another are alike, and `state` is what is known of the last one
abbrev pub AreAlike : List (Option Outstanding) → (from upto : ℕ) → Outstanding → Type 0
AreAlike known from upto state = (position : ℕ) → from ≤ position → position < upto
    → slice_get known position ≡ Some (Some (state_before (suc position) upto state))
