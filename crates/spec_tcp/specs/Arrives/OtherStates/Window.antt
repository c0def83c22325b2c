-- The send window: when it is updated, and its value and the persist timer afterwards (RFC 9293, 3.10.7.4, fifth; RFC
-- 7323, 2.3).
-- In code `opens_window` is in `ack`; here it is in this file, which uses `Ack` and is not used there.
use Rattle.std.specs.Prelude.{ℕ, ◌==◌, nat_le, nat_lt, Bool, not, ◌&&◌, ◌||◌, if◌then◌else◌, is_some}
use Rattle.case_forms.specs.declared.timer.Timer.TheVariants.{Persist}
use Rattle.timer_rules.specs.Timers.{armed, stopped}
use Rattle.timer_rules.specs.declared.timers.Timers.{Timers}
use Rattle.spec_tcp.specs.Endpoints.{Windows, Endpoint, Emission, is_scaling, peer_window}
use Rattle.spec_tcp.specs.Same.{same_bool}
use Rattle.spec_tcp.specs.Arrives.OtherStates.Ack.{acknowledges_syn}

-- its window can't be read as it was meant: scaling was in force at its sender and is not here, or vice versa (specific
-- to this profile)
abbrev pub is_unread : Endpoint → Emission → Bool
is_unread e m = not m.flags.syn && not m.is_reset_reply && not (same_bool m.scaled (is_scaling e))

-- the window is updated from a segment that is not older than the last one that updated it; one that acknowledges the
-- SYN sets it (RFC 9293, 3.10.7.4)
abbrev pub takes_window : Endpoint → Emission → Bool
takes_window e m =
    nat_le e.stream.snd_una m.ack && (acknowledges_syn e m || nat_lt e.window.snd_wl1 m.pos
    || e.window.snd_wl1 == m.pos && nat_le e.window.snd_wl2 m.ack)

abbrev pub window_after_segment : Endpoint → Emission → Windows
window_after_segment e m =
    if takes_window e m then record e.window { snd_wnd = peer_window e m; snd_wl1 = m.pos; snd_wl2 = m.ack }
    else e.window

-- a window above 0 was received
abbrev pub opens_window : Endpoint → Emission → Bool
opens_window e m = takes_window e m && nat_lt 0 m.window

-- a window of 0 arms the persist timer if it is off, any other turns it off (RFC 9293, 3.8.6.1)
abbrev pub persist_after_window : Timers → ℕ → ℕ → Timers
persist_after_window t window moment =
    if nat_lt 0 window then stopped t Persist else if is_some t.persist_armed then t else armed t Persist moment
