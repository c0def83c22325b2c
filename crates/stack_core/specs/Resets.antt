-- Resets that answer segments of the other host, and wait to be sent.
use Rattle.std.specs.Prelude.{◌≡◌, ◌⊎◌, ℕ, nat_eq, true, List, [], ◌∷◌, ◌++◌, length, Some}
use Rattle.std.specs.Map.{lookup}
use Rattle.spec_network.specs.Tables.{Made, pick, unsent}
use Rattle.spec_network.specs.Hosts.{Answers, At, Step}
use Rattle.spec_tcp.specs.declared.endpoint.Emission.{Emission}
use Rattle.spec_tcp.specs.Machine.{tcp_shape}
use Rattle.stack_core.specs.Recordings.{Recorded, world_left}

-- what the host made, by numbers
abbrev pub made_of : Recorded → List (ℕ × Made Emission)
made_of r = (pick (world_left r).hosts r.me).made

-- a reset that answers a segment was made under this number, and wasn't sent
pub record IsWaitingReset (made : List (ℕ × Made Emission)) (n : ℕ) (e : Emission) : Type 0 where
  pub found : lookup (nat_eq n) made ≡ Some (unsent e)
  pub answers : e.is_reset_reply ≡ true

-- and carries nothing
pub record IsResetToGo (r : Recorded) (n : ℕ) : Type 0 where
  pub emission : Emission
  pub waits : IsWaitingReset (made_of r) n emission
  pub empty : length emission.payload ≡ 0

abbrev pub NoResetWaits : Recorded → Type 0
NoResetWaits r = (n : ℕ) (e : Emission) → IsWaitingReset (made_of r) n e → ⊥

-- the number is one of these
abbrev pub IsAmong : ℕ → List ℕ → Type 0
IsAmong n [] = ⊥
IsAmong n (x ∷ xs) = (n ≡ x) ⊎ IsAmong n xs

-- each reset that waits is one of these, and carries nothing
abbrev pub AreAwaited : List (ℕ × Made Emission) → List ℕ → Type 0
AreAwaited made numbers = (n : ℕ) (e : Emission) → IsWaitingReset made n e → IsAmong n numbers × (length e.payload ≡ 0)

-- these, once a step made a segment under that number: a reset that answers a segment then waits
abbrev pub awaited : List ℕ → Step tcp_shape → ℕ → List ℕ
awaited numbers (At host (Answers line)) n = numbers ++ n ∷ []
awaited numbers step n = numbers
