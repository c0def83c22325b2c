-- Duty expire: an armed retransmission timer expires when its time has passed (RFC 6298, 5.1 to 5.3).
use Rattle.std.specs.Prelude.{ℕ, ◌+◌, ◌*◌, ◌==◌, nat_lt, max, Bool, ◌&&◌, ◌||◌, if◌then◌else◌, Option, None, is_some}
use Rattle.std.specs.Option.{option_map}
use Rattle.timer_rules.specs.Timeouts.{longest_rto}
use Rattle.spec_duties.specs.Views.{View}

-- an expiry is due: the timeout is below its upper limit here, since the RFC sets none; and the window is open, since
-- duty probe concerns a closed one, or nothing was acknowledged yet
abbrev pub has_expiry_due : View → Bool
has_expiry_due v = nat_lt v.timers.rto longest_rto && (nat_lt 0 v.snd_wnd || v.snd_una == 0)

-- how long the timer may run: before the first sample more than a second is permitted (RFC 6298, 2.1)
abbrev pub longest_run : View → ℕ
longest_run v = if is_some v.timers.srtt then v.timers.rto else 3 * v.timers.rto

-- the deadline: from when the timer was armed on, or from when the window was opened
abbrev pub expiry_due : View → (opened : ℕ) → Option ℕ
expiry_due v opened =
    if has_expiry_due v then option_map (λ since. max since opened + longest_run v) v.timers.rto_armed else None

-- when the offered window was last opened
abbrev pub opened_after : (before after : View) → (moment opened : ℕ) → ℕ
opened_after before after moment opened = if before.snd_wnd == 0 && nat_lt 0 after.snd_wnd then moment else opened
