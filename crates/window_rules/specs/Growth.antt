-- What an acknowledgment does to the congestion window. `acked` is how many positions it newly acknowledges, not
-- counting the SYN.
use Rattle.std.specs.Prelude.{ℕ, ◌+◌, ◌-◌, ◌*◌, ◌/◌, Bool, not, ◌&&◌, nat_lt, nat_le, min, max, if◌then◌else◌}
use Rattle.window_rules.specs.declared.congestion.Congestion.{Congestion}
use Rattle.window_rules.specs.declared.growth.SlowStart.{SlowStart}
use Rattle.window_rules.specs.declared.growth.SlowStart.TheVariants.{Recommended, Permitted}
use Rattle.window_rules.specs.Windows.{capped}

-- slow start: SMSS is permitted; what is acknowledged, at most SMSS, is recommended (RFC 5681, 3.1, equation 2)
abbrev pub slow_start : SlowStart → Congestion → ℕ → ℕ
slow_start Recommended c acked = c.cwnd + min acked c.smss
slow_start Permitted c acked = c.cwnd + c.smss

-- what was counted and what is acknowledged now fill a whole window (RFC 5681, 3.1)
abbrev pub fills_window : Congestion → ℕ → Bool
fills_window c acked = nat_le c.cwnd (c.counted + acked)

-- SMSS * SMSS / cwnd for each acknowledgment, at least one byte (RFC 5681, 3.1, equation 3)
abbrev pub increment : Congestion → ℕ
increment c = max 1 (c.smss * c.smss / max c.cwnd 1)

-- congestion avoidance: SMSS for a whole window of acknowledged data, else a part of it (RFC 5681, 3.1)
abbrev pub avoidance : Congestion → ℕ → ℕ
avoidance c acked = c.cwnd + (if fills_window c acked then c.smss else increment c)

-- outside fast recovery: slow start below ssthresh, congestion avoidance above, at equality the greater of both (RFC
-- 5681, 3.1)
abbrev pub growth : SlowStart → Congestion → ℕ → ℕ
growth slow c acked =
    if nat_lt c.cwnd c.ssthresh then slow_start slow c acked
    else (if nat_lt c.ssthresh c.cwnd then avoidance c acked else max (slow_start slow c acked) (avoidance c acked))

-- the greatest cwnd after a new acknowledgment; ssthresh if it ends fast recovery (RFC 5681, 3.1 and 3.2, step 6)
abbrev pub may_grow : SlowStart → Congestion → ℕ → ℕ
may_grow slow c acked = capped (if c.fast then c.ssthresh else growth slow c acked)

-- in congestion avoidance: from ssthresh on, outside fast recovery
abbrev pub is_avoiding : Congestion → Bool
is_avoiding c = not c.fast && nat_le c.ssthresh c.cwnd

-- counted after a new acknowledgment: it grows by what is acknowledged, and falls by cwnd if that fills a whole window
-- (RFC 5681, 3.1)
abbrev pub counted_after : Congestion → ℕ → ℕ
counted_after c acked =
    if is_avoiding c then (if fills_window c acked then c.counted + acked - c.cwnd else c.counted + acked)
    else c.counted

-- the greatest cwnd after a duplicate acknowledgment: one segment more in fast recovery (RFC 5681, 3.2, step 4)
abbrev pub on_duplicate : Congestion → ℕ
on_duplicate c = capped (if c.fast then c.cwnd + c.smss else c.cwnd)
