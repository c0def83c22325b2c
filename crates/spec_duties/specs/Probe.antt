-- Duty probe: a closed window is probed while bytes are left, after the retransmission timeout, then after twice as
-- long, and so on (RFC 9293, 3.8.6.1, MUST-36).
use Rattle.std.specs.Prelude.{ℕ, ◌+◌, ◌*◌, ◌==◌, nat_lt, min, Bool, true, false, ◌&&◌, ◌||◌, if◌then◌else◌}
use Rattle.std.specs.Prelude.{Option, None, Some}
use Rattle.std.specs.Option.{option_map_or}
use Rattle.case_forms.specs.declared.timer.Timer.TheVariants.{Rto, Persist}
use Rattle.timer_rules.specs.Timeouts.{longest_rto}
use Rattle.spec_duties.specs.Views.{View, is_up}
use Rattle.spec_duties.specs.Events.{Event, Sending, Sends, Expires, holds}
pub use Rattle.spec_duties.specs.declared.owed.Probing.{Probing}

-- the window is closed, and bytes wait or are outstanding
abbrev pub is_closed_with_work : View → Bool
is_closed_with_work v = is_up v && v.snd_wnd == 0 && nat_lt v.snd_una v.end

-- an empty segment just below the oldest unacknowledged position, as a keep-alive is, or one that holds that position
abbrev pub is_probing_segment : Sending → View → Bool
is_probing_segment s v = (s.length == 0 && s.pos + 1 == v.snd_una) || holds s v.snd_una

abbrev pub is_probe : Event → View → Bool
is_probe (Expires Rto) v = true
is_probe (Expires Persist) v = true
is_probe (Sends s) v = is_probing_segment s v
is_probe event v = false

-- no factor is greater: every timeout but 0 reaches the upper limit with it
abbrev pub greatest_factor : ℕ
greatest_factor = 67108864

-- the next probe has twice the time
abbrev pub probed_again : (moment : ℕ) → Probing → Probing
probed_again moment p = record { since = moment; factor = min (2 * p.factor) greatest_factor }

abbrev pub first_probing : (moment : ℕ) → Probing
first_probing moment = record { since = moment; factor = 1 }

-- the probes of a window that is closed with work after the step, and perhaps was before
abbrev pub still_probing : Event → (before : View) → (moment : ℕ) → Probing → Probing
still_probing event before moment p = if is_probe event before then probed_again moment p else p

abbrev pub probing_after : Event → (before after : View) → (moment : ℕ) → Option Probing → Option Probing
probing_after event before after moment probing =
    if is_closed_with_work after
    then Some (option_map_or (still_probing event before moment) probing (first_probing moment))
    else None

-- the deadline of the next probe: none from the upper limit of timeouts on
abbrev pub next_probe_due : (rto : ℕ) → Probing → Option ℕ
next_probe_due rto p =
    if nat_lt (rto * p.factor) longest_rto then Some (p.since + rto * p.factor) else None

abbrev pub probing_due : View → Option Probing → Option ℕ
probing_due v probing = option_map_or (next_probe_due v.timers.rto) probing None
