-- Congestion control at its boundary: what a signal allows at most, and the values after it, by the endpoint's profile.
use Rattle.std.specs.Prelude.{ℕ, ◌+◌, ◌^◌, Bool, true, false, not, ◌&&◌, ◌||◌, nat_le, if◌then◌else◌}
use Rattle.window_rules.specs.declared.control.Profile.{Profile}
use Rattle.window_rules.specs.declared.control.Profile.TheVariants.{Rfc5681, Rfc6928, Unbounded, NoControl}
use Rattle.window_rules.specs.declared.control.Signal.{Signal}
use Rattle.window_rules.specs.declared.control.Signal.TheVariants.{Syn, SynAcked, NewAck}
use Rattle.window_rules.specs.declared.control.Signal.TheVariants.{Duplicate, Other, Timeout, Recovery}
use Rattle.window_rules.specs.declared.control.At.{At}
use Rattle.window_rules.specs.declared.control.Control.{Control}
use Rattle.window_rules.specs.declared.growth.SlowStart.{SlowStart}
use Rattle.window_rules.specs.declared.growth.SlowStart.TheVariants.{Permitted}
use Rattle.window_rules.specs.Windows.{start, greatest_window, congestion_edge, initial_window, initial_window_6928}
use Rattle.window_rules.specs.Growth.{may_grow, counted_after, on_duplicate}
use Rattle.window_rules.specs.Losses.{halved, on_timeout, recovery_window}

-- before anything is sent: cwnd 0 and the greatest ssthresh
abbrev pub began : Profile → Control
began profile = record { values = start; profile = profile }

-- congestion windows and slow start thresholds are bounded
abbrev pub bounds_windows : Profile → Bool
bounds_windows (Rfc5681 slow) = true
bounds_windows (Rfc6928 slow) = true
bounds_windows Unbounded = false
bounds_windows NoControl = false

-- fast recovery needs duplicate acknowledgments (RFC 5681, 3.2, step 2)
abbrev pub counts_duplicates : Profile → Bool
counts_duplicates (Rfc5681 slow) = true
counts_duplicates (Rfc6928 slow) = true
counts_duplicates Unbounded = true
counts_duplicates NoControl = false

-- the greatest window once the SYN is acknowledged (RFC 5681, 3.1; RFC 6928, 2)
abbrev pub first_window : Profile → (smss : ℕ) (syn_lost : Bool) → ℕ
first_window (Rfc5681 slow) smss syn_lost = initial_window smss syn_lost
first_window (Rfc6928 slow) smss syn_lost = initial_window_6928 smss
first_window Unbounded smss syn_lost = greatest_window
first_window NoControl smss syn_lost = greatest_window

-- how much slow start adds: what is permitted, if no window is bounded (RFC 5681, 3.1)
abbrev pub slow_start_of : Profile → SlowStart
slow_start_of (Rfc5681 slow) = slow
slow_start_of (Rfc6928 slow) = slow
slow_start_of Unbounded = Permitted
slow_start_of NoControl = Permitted

-- the greatest cwnd and ssthresh that a signal allows if they are bounded (RFC 5681, 3.1 and 3.2); if a segment is
-- processed, ssthresh stays
abbrev pub greatest_bounded : Control → Signal → At → ℕ × ℕ
greatest_bounded c (Syn smss) at = (c.values.cwnd, c.values.ssthresh)
greatest_bounded c (SynAcked smss syn_lost) at = (first_window c.profile smss syn_lost, c.values.ssthresh)
greatest_bounded c (NewAck acked) at = (may_grow (slow_start_of c.profile) c.values acked, c.values.ssthresh)
greatest_bounded c Duplicate at = (on_duplicate c.values, c.values.ssthresh)
greatest_bounded c Other at = (c.values.cwnd, c.values.ssthresh)
greatest_bounded c (Timeout flight syn_pending again) at = on_timeout c.values flight syn_pending again
greatest_bounded c (Recovery flight ssthresh) at = (recovery_window c.values ssthresh, halved c.values flight)

-- the greatest cwnd and ssthresh that a signal allows
abbrev pub greatest : Control → Signal → At → ℕ × ℕ
greatest c s at =
    if bounds_windows c.profile then greatest_bounded c s at else (greatest_window, greatest_window)

-- the values once cwnd and, at a loss, ssthresh were chosen
abbrev pub after : Control → Signal → At → (cwnd ssthresh : ℕ) → Control
after c (Syn smss) at cwnd ssthresh = record c { values = record c.values { cwnd = cwnd; smss = smss } }
after c (SynAcked smss syn_lost) at cwnd ssthresh =
    record c { values = record c.values { cwnd = cwnd; smss = smss; dup = 0; fast = false } }
after c (NewAck acked) at cwnd ssthresh =
    record c { values = record c.values { cwnd = cwnd; counted = counted_after c.values acked; dup = 0; fast = false } }
after c Duplicate at cwnd ssthresh = record c { values = record c.values { cwnd = cwnd; dup = c.values.dup + 1 } }
after c Other at cwnd ssthresh = record c { values = record c.values { cwnd = cwnd } }
after c (Timeout flight syn_pending again) at cwnd ssthresh =
    record c { values = record c.values { cwnd = cwnd; ssthresh = ssthresh; counted = 0; dup = 0; fast = false } }
after c (Recovery flight threshold) at cwnd ssthresh =
    record c { values = record c.values { cwnd = cwnd; ssthresh = ssthresh; fast = true } }

-- the position at which new data ends at most; if windows aren't bounded, it is beyond every window that can be offered
abbrev pub control_edge : ℕ → Control → ℕ
control_edge una c =
    if bounds_windows c.profile then congestion_edge una c.values else congestion_edge una c.values + 2 ^ 40

-- fast recovery may begin: from the third duplicate acknowledgment on, and not within it (RFC 5681, 3.2, step 2); at
-- any time if the profile needs no duplicates
abbrev pub may_recover : Control → Bool
may_recover c = not (counts_duplicates c.profile) || nat_le 3 c.values.dup && not c.values.fast
