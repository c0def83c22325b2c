-- What a loss does to the congestion window and the slow start threshold. `flight` is what is outstanding: sent and not
-- acknowledged.
use Rattle.std.specs.Prelude.{ℕ, ◌+◌, ◌*◌, ◌/◌, Bool, ◌||◌, max, if◌then◌else◌}
use Rattle.window_rules.specs.declared.congestion.Congestion.{Congestion}
use Rattle.window_rules.specs.Windows.{capped}

-- half of the flight, at least two segments (RFC 5681, 3.1, equation 4)
abbrev pub halved : Congestion → ℕ → ℕ
halved c flight = capped (max (flight / 2) (2 * c.smss))

-- the greatest ssthresh after a timeout: the old one if the same data, or the SYN, was retransmitted before (RFC 5681,
-- 3.1)
abbrev pub threshold : Congestion → ℕ → Bool → Bool → ℕ
threshold c flight syn_pending again = if syn_pending || again then capped c.ssthresh else halved c flight

-- the greatest cwnd and ssthresh after a timeout: one segment (RFC 5681, 3.1)
abbrev pub on_timeout : Congestion → ℕ → Bool → Bool → ℕ × ℕ
on_timeout c flight syn_pending again = (capped c.smss, threshold c flight syn_pending again)

-- the greatest cwnd when fast recovery begins with this ssthresh: a segment more for each duplicate acknowledgment (RFC
-- 5681, 3.2, steps 3 and 4)
abbrev pub recovery_window : Congestion → ℕ → ℕ
recovery_window c ssthresh = capped (ssthresh + c.dup * c.smss)

-- the greatest cwnd and ssthresh when fast recovery begins (RFC 5681, 3.2, steps 2 and 3)
abbrev pub on_fast : Congestion → ℕ → ℕ × ℕ
on_fast c flight = (recovery_window c (halved c flight), halved c flight)
