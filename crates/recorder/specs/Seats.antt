-- Which threads have seats.
use Rattle.std.specs.Prelude.{◌≡◌, ◌≤◌, ◌⊎◌, ℕ, Bool, true}
use Rattle.recorder.specs.declared.recorder.RecFault.{RecFault}
use Rattle.recorder.specs.declared.recorder.RecFault.TheVariants.{Stopped, OutOfMemory, SeatTaken}

-- the threads of arriving segments, of timers and of sent segments, of both hosts
abbrev pub IsReserved : ℕ → Type 0
IsReserved thread = (4 ≤ thread) × (thread ≤ 9)

-- why a thread got no seat, for a recorder that was stopped or not and had so many seats left; `has` says whether the
-- thread has one
abbrev pub WhyNoSeat : Bool → ℕ → Bool → ℕ → RecFault → Type 0
WhyNoSeat stopped left has thread Stopped = stopped ≡ true
WhyNoSeat stopped left has thread OutOfMemory = Unit {0}
WhyNoSeat stopped left has thread SeatTaken = (left ≡ 0) ⊎ (IsReserved thread ⊎ (has ≡ true))
