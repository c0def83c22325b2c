-- Values of RFC 5681 and RFC 6928 at each signal, said of the boundary, so that a slip in it does not check.
use Rattle.std.proofs.Common.{◌≡◌, ℕ, true, false, None, refl}
use Rattle.window_rules.specs.declared.control.Profile.{Profile}
use Rattle.window_rules.specs.declared.control.Profile.TheVariants.{Rfc5681, Rfc6928, Unbounded, NoControl}
use Rattle.window_rules.specs.declared.control.Signal.TheVariants.{Syn, SynAcked, NewAck, Duplicate, Other, Timeout, Recovery}
use Rattle.window_rules.specs.declared.control.At.{At}
use Rattle.window_rules.specs.declared.control.Control.{Control}
use Rattle.window_rules.specs.declared.growth.SlowStart.TheVariants.{Recommended, Permitted}
use Rattle.window_rules.specs.Windows.{greatest_window}
use Rattle.window_rules.specs.Control.{began, greatest, after, control_edge, may_recover}

abbrev now : At
now = record { moment = 5000; srtt = None }

-- an endpoint by RFC 5681 whose segments have 1000 bytes, with no duplicate acknowledgment
abbrev sending : ℕ → ℕ → ℕ → Control
sending cwnd ssthresh counted =
    record { values = record { cwnd = cwnd; ssthresh = ssthresh; smss = 1000; counted = counted; dup = 0; fast = false }; profile = Rfc5681 Recommended }

-- by another profile
abbrev by_profile : Profile → Control → Control
by_profile p c = record c { profile = p }

-- after so many duplicate acknowledgments
abbrev doubting : ℕ → Control
doubting dup = let c = sending 4000 4000 0 in record c { values = record c.values { dup = dup } }

-- in fast recovery
abbrev recovering : ℕ → ℕ → Control
recovering cwnd ssthresh = let c = sending cwnd ssthresh 0 in record c { values = record c.values { dup = 4; fast = true } }

-- the handshake (RFC 5681, 3.1; RFC 6928, 2)
pub no_window_before_the_acknowledgment : greatest (began (Rfc5681 Recommended)) (Syn 1460) now ≡ (0, greatest_window)
no_window_before_the_acknowledgment = refl

pub the_syn_brings_the_size : (after (began (Rfc5681 Recommended)) (Syn 1460) now 0 0).values.smss ≡ 1460
the_syn_brings_the_size = refl

pub four_segments : greatest (began (Rfc5681 Recommended)) (SynAcked 1095 false) now ≡ (4380, greatest_window)
four_segments = refl

pub one_after_a_lost_syn : greatest (began (Rfc5681 Recommended)) (SynAcked 1460 true) now ≡ (1460, greatest_window)
one_after_a_lost_syn = refl

pub ten_segments : greatest (began (Rfc6928 Recommended)) (SynAcked 1460 false) now ≡ (14600, greatest_window)
ten_segments = refl

pub ten_after_a_lost_syn : greatest (began (Rfc6928 Recommended)) (SynAcked 1460 true) now ≡ (14600, greatest_window)
ten_after_a_lost_syn = refl

-- new acknowledgments (RFC 5681, 3.1, equations 2 and 3)
pub slow_start : greatest (sending 4000 10000 0) (NewAck 3000) now ≡ (5000, 10000)
slow_start = refl

pub slow_start_of_what_is_acknowledged : greatest (sending 4000 10000 0) (NewAck 1) now ≡ (4001, 10000)
slow_start_of_what_is_acknowledged = refl

pub slow_start_of_a_segment : greatest (by_profile (Rfc5681 Permitted) (sending 4000 10000 0)) (NewAck 1) now ≡ (5000, 10000)
slow_start_of_a_segment = refl

pub avoidance_stays : greatest (by_profile (Rfc6928 Permitted) (sending 10000 5000 0)) (NewAck 1) now ≡ (10100, 5000)
avoidance_stays = refl

pub congestion_avoidance : greatest (sending 10000 5000 0) (NewAck 1000) now ≡ (10100, 5000)
congestion_avoidance = refl

pub a_window_is_acknowledged : greatest (sending 10000 5000 9500) (NewAck 500) now ≡ (11000, 5000)
a_window_is_acknowledged = refl

pub bytes_are_counted : after (sending 10000 5000 9500) (NewAck 800) now 10500 7 ≡ sending 10500 5000 300
bytes_are_counted = refl

pub duplicates_begin_anew : after (doubting 2) (NewAck 1000) now 5000 7 ≡ sending 5000 4000 1000
duplicates_begin_anew = refl

-- duplicates and fast recovery (RFC 5681, 3.2)
pub a_duplicate_leaves_the_window : greatest (doubting 1) Duplicate now ≡ (4000, 4000)
a_duplicate_leaves_the_window = refl

pub it_is_counted : after (doubting 1) Duplicate now 4000 7 ≡ doubting 2
it_is_counted = refl

pub limited_transmit : control_edge 1 (doubting 2) ≡ 6001
limited_transmit = refl

pub not_at_the_third : control_edge 1 (doubting 3) ≡ 4001
not_at_the_third = refl

pub two_are_too_few : may_recover (doubting 2) ≡ false
two_are_too_few = refl

pub three_are_enough : may_recover (doubting 3) ≡ true
three_are_enough = refl

pub not_within_it : may_recover (recovering 5500 2500) ≡ false
not_within_it = refl

pub recovery_begins : greatest (doubting 3) (Recovery 5000 2500) now ≡ (5500, 2500)
recovery_begins = refl

pub recovery_by_a_lower_choice : greatest (doubting 3) (Recovery 5000 2400) now ≡ (5400, 2500)
recovery_by_a_lower_choice = refl

pub it_is_on : may_recover (after (doubting 3) (Recovery 5000 2500) now 5500 2500) ≡ false
it_is_on = refl

pub recovery_inflates : greatest (recovering 5500 2500) Duplicate now ≡ (6500, 2500)
recovery_inflates = refl

pub recovery_ends : greatest (recovering 8500 2500) (NewAck 5000) now ≡ (2500, 2500)
recovery_ends = refl

pub it_is_over : after (recovering 8500 2500) (NewAck 5000) now 2500 7 ≡ sending 2500 2500 0
it_is_over = refl

-- any other segment
pub others_leave_the_window : greatest (doubting 2) Other now ≡ (4000, 4000)
others_leave_the_window = refl

pub others_count_nothing : after (doubting 2) Other now 4000 7 ≡ doubting 2
others_count_nothing = refl

-- timeouts (RFC 5681, 3.1, equation 4)
pub timeout : greatest (sending 8000 4000 0) (Timeout 5000 false false) now ≡ (1000, 2500)
timeout = refl

pub second_timeout : greatest (sending 8000 4000 0) (Timeout 5000 false true) now ≡ (1000, 4000)
second_timeout = refl

pub timeout_of_the_syn : greatest (began (Rfc5681 Recommended)) (Timeout 1 true false) now ≡ (536, greatest_window)
timeout_of_the_syn = refl

pub timeout_ends_recovery : after (recovering 8500 2500) (Timeout 5000 false false) now 1000 2500 ≡ sending 1000 2500 0
timeout_ends_recovery = refl

-- no window is bounded, by each profile that says so
pub no_bound_on_growth : greatest (by_profile Unbounded (sending 4000 10000 0)) (NewAck 3000) now ≡ (4294967295, 4294967295)
no_bound_on_growth = refl

pub no_bound_on_growth_unjudged : greatest (by_profile NoControl (sending 4000 10000 0)) (NewAck 3000) now ≡ (4294967295, 4294967295)
no_bound_on_growth_unjudged = refl

pub no_bound_on_the_first_window : greatest (began Unbounded) (SynAcked 1460 true) now ≡ (4294967295, 4294967295)
no_bound_on_the_first_window = refl

pub no_bound_at_a_timeout : greatest (by_profile NoControl (sending 8000 4000 0)) (Timeout 5000 false false) now ≡ (4294967295, 4294967295)
no_bound_at_a_timeout = refl

pub no_bound_at_recovery : greatest (by_profile Unbounded (doubting 3)) (Recovery 5000 2500) now ≡ (4294967295, 4294967295)
no_bound_at_recovery = refl

pub the_window_ends_nothing : control_edge 1 (by_profile Unbounded (sending 4000 10000 0)) ≡ 1099511631777
the_window_ends_nothing = refl

pub nor_where_nothing_is_judged : control_edge 1 (by_profile NoControl (sending 0 10000 0)) ≡ 1099511627777
nor_where_nothing_is_judged = refl

pub two_are_too_few_unbounded : may_recover (by_profile Unbounded (doubting 2)) ≡ false
two_are_too_few_unbounded = refl

pub three_are_enough_unbounded : may_recover (by_profile Unbounded (doubting 3)) ≡ true
three_are_enough_unbounded = refl

pub not_within_it_unbounded : may_recover (by_profile Unbounded (recovering 5500 2500)) ≡ false
not_within_it_unbounded = refl

pub none_are_needed_unjudged : may_recover (by_profile NoControl (doubting 0)) ≡ true
none_are_needed_unjudged = refl

pub again_within_it_unjudged : may_recover (by_profile NoControl (recovering 5500 2500)) ≡ true
again_within_it_unjudged = refl

pub the_same_values_follow : after (by_profile NoControl (sending 10000 5000 9500)) (NewAck 800) now 10500 7 ≡ by_profile NoControl (sending 10500 5000 300)
the_same_values_follow = refl
