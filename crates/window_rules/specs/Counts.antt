-- What the counts of a profile need, so that their sum doesn't overflow: the crates above keep this and know no
-- profile.
use Rattle.std.specs.Prelude.{ℕ, ◌+◌, ◌^◌, ◌<◌, ◌≤◌, ⊤}
use Rattle.window_rules.specs.declared.control.Signal.{Signal}
use Rattle.window_rules.specs.declared.control.Signal.TheVariants.{NewAck}
use Rattle.window_rules.specs.declared.control.Control.{Control}

-- another signal may be counted
pub record HasCounts (c : Control) : Type 0 where
  pub counted : c.values.counted < 2 ^ 63
  pub dup : c.values.dup + 1 < 2 ^ 32

-- the values in the signal are small enough to be counted
abbrev pub IsFit : Signal → Type 0
IsFit (NewAck acked) = acked < 2 ^ 63
IsFit signal = ⊤

-- after this many steps, for an endpoint whose oldest unacknowledged position is `una`
pub record IsCounted (steps una : ℕ) (c : Control) : Type 0 where
  pub counted : c.values.counted ≤ una
  pub dup : c.values.dup ≤ steps

-- what the signal newly acknowledges lies between `una` and `una_then`
abbrev pub IsAcked : (una una_then : ℕ) → Signal → Type 0
IsAcked una una_then (NewAck acked) = una + acked ≤ una_then
IsAcked una una_then signal = una ≤ una_then
