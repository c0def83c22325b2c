-- What a yes with a slack says of segments: each that arrived was processed, dropped or answered soon, and each that
-- was sent had just been built (RFC 9293, 3.10.2 and 3.10.7). Moments and slacks are in microseconds.
use Rattle.std.specs.Prelude.{◌⊎◌, ℕ, ◌+◌, ◌≤◌, ◌<◌}
use Rattle.case_forms.specs.declared.calls.Host.{Host}
use Rattle.case_forms.specs.declared.steps.Witness.{Witness}
use Rattle.case_forms.specs.declared.trace.Trace.{Trace}
use Rattle.interval_order.specs.Orders.{last_moment}
use Rattle.checker.specs.Seen.{moves}
use Rattle.kept_duties.specs.Places.{ArrivesAt, LeavesAt, BuildsAt, SendsAt}

-- no step of the witness is later than this moment
abbrev pub EndsBy : Witness → (moment : ℕ) → Type 0
EndsBy w moment = last_moment (moves w.steps) ≤ moment

-- after this place and by this moment, a step takes the segment of that line from the host's inbox
pub record LeavesBy (w : Witness) (place by : ℕ) (host : Host) (line : ℕ) : Type 0 where
  pub later : ℕ
  pub moment : ℕ
  pub after : place < later
  pub leaves : LeavesAt w later moment host line
  pub soon : moment ≤ by

-- a segment that arrived was processed, dropped or answered within the slack, by the host at which it arrived, unless
-- the witness ends within it
abbrev pub ArrivalsAreHandled : Trace → Witness → (slack : ℕ) → Type 0
ArrivalsAreHandled t w slack =
    (place moment line : ℕ) (host : Host) → ArrivesAt t w place moment host line
    → LeavesBy w place (moment + slack) host line ⊎ EndsBy w (moment + slack)

-- before this place, and by at most the slack before this moment, the host built the segment of that number
pub record IsBuiltBefore (w : Witness) (slack place moment : ℕ) (host : Host) (number : ℕ) : Type 0 where
  pub earlier : ℕ
  pub since : ℕ
  pub before : earlier < place
  pub builds : BuildsAt w earlier since host number
  pub soon : moment ≤ since + slack

-- a segment that was sent had been built within the slack, by the host that sent it
abbrev pub SendingsAreFresh : Trace → Witness → (slack : ℕ) → Type 0
SendingsAreFresh t w slack =
    (place moment number : ℕ) (host : Host) → SendsAt t w place moment host number
    → IsBuiltBefore w slack place moment host number
