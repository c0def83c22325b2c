-- Values of RFC 9293 and RFC 5681, said of the definitions, so that a slip in one of them does not check.
use Rattle.std.proofs.Common.{◌≡◌, ℕ, true, false, refl}
use Rattle.window_rules.specs.declared.congestion.Congestion.{Congestion}
use Rattle.window_rules.specs.declared.growth.SlowStart.TheVariants.{Recommended, Permitted}
use Rattle.window_rules.specs.Windows.{greatest_window, offered_edge, congestion_edge, initial_window, initial_window_6928, scaled_window}
use Rattle.window_rules.specs.Growth.{may_grow, counted_after, on_duplicate}
use Rattle.window_rules.specs.Losses.{on_timeout, recovery_window, on_fast}

-- an endpoint whose segments have 1000 bytes, with no duplicate acknowledgment
abbrev sending : ℕ → ℕ → ℕ → Congestion
sending cwnd ssthresh counted = record { cwnd = cwnd; ssthresh = ssthresh; smss = 1000; counted = counted; dup = 0; fast = false }

-- the same after so many duplicate acknowledgments
abbrev doubting : ℕ → Congestion
doubting dup = record (sending 4000 4000 0) { dup = dup }

-- the offered window (RFC 9293, 3.8.6)
pub offered : offered_edge 1 3000 false ≡ 3001
offered = refl

pub probe_of_one_byte : offered_edge 1 0 true ≡ 2
probe_of_one_byte = refl

pub no_probe : offered_edge 1 0 false ≡ 1
no_probe = refl

pub open_window_needs_no_probe : offered_edge 1 3000 true ≡ 3001
open_window_needs_no_probe = refl

-- the initial window (RFC 5681, 3.1)
pub four_segments : initial_window 1095 false ≡ 4380
four_segments = refl

pub three_segments : initial_window 1096 false ≡ 3288
three_segments = refl

pub three_large_segments : initial_window 2190 false ≡ 6570
three_large_segments = refl

pub two_segments : initial_window 2191 false ≡ 4382
two_segments = refl

pub default_segments : initial_window 536 false ≡ 2144
default_segments = refl

pub one_segment : initial_window 1460 true ≡ 1460
one_segment = refl

-- the initial window (RFC 6928, 2)
pub ten_segments : initial_window_6928 536 ≡ 5360
ten_segments = refl

pub bytes_at_most : initial_window_6928 1460 ≡ 14600
bytes_at_most = refl

pub two_large_segments : initial_window_6928 9000 ≡ 18000
two_large_segments = refl

-- windows by a shift (RFC 7323, 2.2 and 2.3)
pub shifted_by_seven : scaled_window 512 7 ≡ 65536
shifted_by_seven = refl

pub a_shift_of_fifteen_is_fourteen : scaled_window 3 15 ≡ scaled_window 3 14
a_shift_of_fifteen_is_fourteen = refl

-- slow start (RFC 5681, 3.1, equation 2)
pub slow_by_bytes : may_grow Recommended (sending 4000 10000 0) 500 ≡ 4500
slow_by_bytes = refl

pub slow_by_a_segment : may_grow Recommended (sending 4000 10000 0) 3000 ≡ 5000
slow_by_a_segment = refl

-- the same where all is permitted that the RFC permits
pub slow_by_at_most_a_segment : may_grow Permitted (sending 4000 10000 0) 500 ≡ 5000
slow_by_at_most_a_segment = refl

pub slow_at_equality : may_grow Permitted (sending 10000 10000 0) 1 ≡ 11000
slow_at_equality = refl

pub no_segment_above_the_threshold : may_grow Permitted (sending 10000 5000 0) 1 ≡ 10100
no_segment_above_the_threshold = refl

-- congestion avoidance (RFC 5681, 3.1, equation 3)
pub avoiding_by_a_part : may_grow Recommended (sending 10000 5000 0) 1000 ≡ 10100
avoiding_by_a_part = refl

pub avoiding_by_a_window : may_grow Recommended (sending 10000 5000 9500) 500 ≡ 11000
avoiding_by_a_window = refl

pub window_is_spent : counted_after (sending 10000 5000 9500) 500 ≡ 0
window_is_spent = refl

pub window_is_left_over : counted_after (sending 10000 5000 9500) 800 ≡ 300
window_is_left_over = refl

pub part_is_counted : counted_after (sending 10000 5000 0) 1000 ≡ 1000
part_is_counted = refl

pub greater_at_equality : may_grow Recommended (sending 10000 10000 0) 1000 ≡ 11000
greater_at_equality = refl

pub at_least_a_byte : may_grow Recommended (sending 2000000 5000 0) 1 ≡ 2000001
at_least_a_byte = refl

-- limited transmit (RFC 5681, 3.2, step 1)
pub no_duplicate : congestion_edge 1 (doubting 0) ≡ 4001
no_duplicate = refl

pub first_duplicate : congestion_edge 1 (doubting 1) ≡ 6001
first_duplicate = refl

pub second_duplicate : congestion_edge 1 (doubting 2) ≡ 6001
second_duplicate = refl

pub third_duplicate : congestion_edge 1 (doubting 3) ≡ 4001
third_duplicate = refl

pub not_in_recovery : congestion_edge 1 (record (doubting 2) { fast = true }) ≡ 4001
not_in_recovery = refl

-- losses (RFC 5681, 3.1, equation 4, and 3.2, steps 2 to 4 and 6)
pub recovery_begins : on_fast (doubting 3) 5000 ≡ (5500, 2500)
recovery_begins = refl

pub at_least_two_segments : on_fast (doubting 3) 3000 ≡ (5000, 2000)
at_least_two_segments = refl

pub recovery_by_choice : recovery_window (doubting 3) 2400 ≡ 5400
recovery_by_choice = refl

pub recovery_inflates : on_duplicate (record (doubting 4) { fast = true }) ≡ 5000
recovery_inflates = refl

pub recovery_ends : may_grow Recommended (record (sending 8500 2500 0) { fast = true }) 5000 ≡ 2500
recovery_ends = refl

pub timeout_halves : on_timeout (sending 8000 4000 0) 5000 false false ≡ (1000, 2500)
timeout_halves = refl

pub timeout_again : on_timeout (sending 8000 4000 0) 5000 false true ≡ (1000, 4000)
timeout_again = refl

pub syn_timeout : on_timeout (sending 0 greatest_window 0) 1 true false ≡ (1000, greatest_window)
syn_timeout = refl

-- nothing is above the greatest window
pub growth_is_capped : may_grow Recommended (sending 4294967295 4294967295 0) 5000 ≡ 4294967295
growth_is_capped = refl

pub half_is_capped : on_fast (doubting 3) 1000000000000000000 ≡ (4294967295, 4294967295)
half_is_capped = refl
