-- The timers of an endpoint: which are armed, since when, when they may expire, and what samples and expiries do. Times
-- are in microseconds.
use Rattle.std.specs.Prelude.{ℕ, ◌+◌, ◌-◌, ◌*◌, Bool, false, not, nat_lt, max, Option, None, Some, is_some}
use Rattle.std.specs.Prelude.{if◌then◌else◌}
use Rattle.std.specs.Option.{option_map_or}
use Rattle.case_forms.specs.declared.trace.Header.{Header}
use Rattle.case_forms.specs.declared.timer.Timer.{Timer}
use Rattle.case_forms.specs.declared.timer.Timer.TheVariants.{Rto, Persist, Msl2, Giveup, Pto}
use Rattle.timer_rules.specs.declared.fault.TimerFault.{TimerFault}
use Rattle.timer_rules.specs.declared.fault.TimerFault.TheVariants.{Off, Early}
use Rattle.timer_rules.specs.declared.timers.Timers.{Timers}
use Rattle.timer_rules.specs.Timeouts.{first_rto, lost_syn_rto, srtt_after, rttvar_after, timeout, doubled}

-- no sample yet, no timer armed (RFC 6298, 2.1)
abbrev pub start : Timers
start = record { srtt = None; rttvar = 0; rto = first_rto; rto_armed = None; persist_armed = None; msl_armed = None }

-- a round trip took r: RTTVAR uses the old SRTT, the timeout the new values (RFC 6298, 2.2 and 2.3)
abbrev pub sampled : Timers → ℕ → Header → Timers
sampled t r h = record t {
  srtt = Some (srtt_after t.srtt r);
  rttvar = rttvar_after t.srtt t.rttvar r;
  rto = timeout h (srtt_after t.srtt r) (rttvar_after t.srtt t.rttvar r);
}

-- the timeout is doubled (RFC 6298, 5.5)
abbrev pub backed_off : Timers → Timers
backed_off t = record t { rto = doubled t.rto }

-- the SYN was lost: the timeout for data is at least three seconds (RFC 6298, 5.7)
abbrev pub raised_for_lost_syn : Timers → Timers
raised_for_lost_syn t = record t { rto = max t.rto lost_syn_rto }

-- since when a timer is armed; giving up and probing for a loss are not among these timers
abbrev pub armed_since : Timers → Timer → Option ℕ
armed_since t Rto = t.rto_armed
armed_since t Persist = t.persist_armed
armed_since t Msl2 = t.msl_armed
armed_since t Giveup = None
armed_since t Pto = None

-- a timer is armed since some moment, or off; the others stay
abbrev pub with_timer : Timers → Timer → Option ℕ → Timers
with_timer t Rto since = record t { rto_armed = since }
with_timer t Persist since = record t { persist_armed = since }
with_timer t Msl2 since = record t { msl_armed = since }
with_timer t Giveup since = t
with_timer t Pto since = t

-- a timer is armed at a moment
abbrev pub armed : Timers → Timer → ℕ → Timers
armed t timer moment = with_timer t timer (Some moment)

-- a timer is turned off
abbrev pub stopped : Timers → Timer → Timers
stopped t timer = with_timer t timer None

-- all timers are turned off
abbrev pub all_stopped : Timers → Timers
all_stopped t = record t { rto_armed = None; persist_armed = None; msl_armed = None }

-- how long a timer runs: the timeout, or twice the maximum segment lifetime (RFC 6298, 5.1; RFC 9293, 3.8.6.1 and
-- 3.6.1)
abbrev pub run_time : Timers → Timer → Header → ℕ
run_time t Rto h = t.rto
run_time t Persist h = t.rto
run_time t Msl2 h = 2 * h.msl
run_time t Giveup h = 0
run_time t Pto h = 0

-- the earliest moment of an expiry: a clock tick before the timer ran out, never before it was armed (RFC 6298, 4)
abbrev pub earliest : ℕ → ℕ → ℕ → ℕ
earliest since time grain = max since (since + time - grain)

-- the timer is armed
abbrev pub is_armed : Timers → Timer → Bool
is_armed t timer = is_some (armed_since t timer)

-- the timer is armed, and may not expire yet
abbrev pub is_early : Timers → Timer → ℕ → Header → Bool
is_early t timer moment h =
    option_map_or (λ since. nat_lt moment (earliest since (run_time t timer h) h.grain)) (armed_since t timer) false

-- why a timer can't expire at a moment, if it can't
abbrev pub refusal : Timers → Timer → ℕ → Header → Option TimerFault
refusal t timer moment h =
    if not (is_armed t timer) then Some Off else (if is_early t timer moment h then Some Early else None)

-- after an expiry: the retransmission timer is rearmed with twice the timeout (RFC 6298, 5.5 and 5.6), the persist
-- timer with the same one, the wait in TIME-WAIT is over; one that probes for a loss rearms the retransmission timer if
-- that is armed (RFC 8985, 7.3)
abbrev pub expired : Timers → Timer → ℕ → Timers
expired t Rto moment = armed (backed_off t) Rto moment
expired t Persist moment = armed t Persist moment
expired t Msl2 moment = stopped t Msl2
expired t Giveup moment = t
expired t Pto moment = if is_armed t Rto then armed t Rto moment else t
