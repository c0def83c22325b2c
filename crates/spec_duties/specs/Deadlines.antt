-- When a duty is late: at a moment after its deadline and the slack. Times and moments are in microseconds.
use Rattle.std.specs.Prelude.{ℕ, ◌+◌, nat_lt, Bool, false, Option}
use Rattle.std.specs.Option.{option_map, option_map_or}

-- the moment is after the deadline by more than the slack
abbrev pub is_past : (slack moment deadline : ℕ) → Bool
is_past slack moment deadline = nat_lt (deadline + slack) moment

-- a duty is late; without a deadline it never is
abbrev pub is_late : (slack moment : ℕ) → (due : Option ℕ) → Bool
is_late slack moment due = option_map_or (is_past slack moment) due false

-- the deadline of a duty that arose at a moment and has this much time
abbrev pub due_within : (time : ℕ) → (since : Option ℕ) → Option ℕ
due_within time since = option_map (λ m. m + time) since
