-- Duty reset: an aborted connection is reset (RFC 9293, 3.10.5).
use Rattle.std.specs.Prelude.{ℕ, Bool, false, ◌&&◌, if◌then◌else◌, Option, None, Some}
use Rattle.std.specs.Option.{option_or}
use Rattle.spec_duties.specs.Views.{View}
use Rattle.spec_duties.specs.Events.{Event, Calls, Sends}

abbrev pub sends_reset : Event → Bool
sends_reset (Sends s) = s.flags.rst
sends_reset event = false

-- the effect of `abort`, after which a reset is due
abbrev pub aborts : Event → (after : View) → Bool
aborts (Calls abort) after = abort && after.resets
aborts event after = false

-- since when it is owed: because of `abort`, or because the listener of a child was closed
abbrev pub reset_since : View → (listener_closed since : Option ℕ) → Option ℕ
reset_since v listener_closed since = option_or since (if v.resets then listener_closed else None)

abbrev pub reset_after : Event → (before after : View) → (moment : ℕ) → (listener_closed since : Option ℕ) → Option ℕ
reset_after event before after moment listener_closed since =
    if sends_reset event then None
    else option_or (reset_since before listener_closed since) (if aborts event after then Some moment else None)
