-- A timer expires: which ones may, and the endpoint afterwards (RFC 9293, 3.10.8, 3.6.1 and 3.8.6.1; RFC 6298, 5).
use Rattle.std.specs.Prelude.{ℕ, ◌+◌, ◌==◌, nat_le, nat_lt, Bool, true, false, not, ◌&&◌, ◌||◌, List, [], ◌∷◌, Some}
use Rattle.std.specs.Prelude.{is_some}
use Rattle.case_forms.specs.States.{is_closed, is_fin_wait_2}
use Rattle.case_forms.specs.TakenLines.{timer_of}
use Rattle.case_forms.specs.declared.taken_line.Expired.{Expired}
use Rattle.case_forms.specs.declared.taken_line.Expired.TheVariants as expireds
use Rattle.case_forms.specs.declared.timer.RtoChoice.{RtoChoice}
use Rattle.case_forms.specs.declared.timer.Timer.{Timer}
use Rattle.case_forms.specs.declared.timer.Timer.TheVariants.{Giveup, Msl2, Persist, Pto, Rto}
use Rattle.case_forms.specs.declared.trace.Header.{Header}
use Rattle.verdict.specs.declared.rule.Rule.{Rule}
use Rattle.verdict.specs.declared.rule.Rule.TheVariants as rules
use Rattle.streams.specs.Sent.{end_of}
use Rattle.window_rules.specs.Control.{greatest, after}
use Rattle.timer_rules.specs.Timers.{expired, is_armed, is_early}
use Rattle.spec_tcp.specs.Endpoints.{Timeout, Endpoint, snd_max, is_up, flag_count}
use Rattle.spec_tcp.specs.Signals.{at_moment, timeout_signal}
use Rattle.spec_tcp.specs.Calls.Close.{shut_down}

-- the greatest cwnd and ssthresh at an expiry of the retransmission timer
abbrev pub greatest_values : Endpoint → (moment : ℕ) → ℕ × ℕ
greatest_values e moment = greatest e.control (timeout_signal e) (at_moment e moment)

-- a value is above the greatest allowed at an expiry of the retransmission timer (RFC 5681, 3.1)
abbrev pub is_above : Endpoint → RtoChoice → (moment : ℕ) → Bool
is_above e growth moment =
    nat_lt ((greatest_values e moment).0) growth.cwnd || nat_lt ((greatest_values e moment).1) growth.ssthresh

-- the same for the values chosen: other timers have none
abbrev pub grows_above : Endpoint → Expired → (moment : ℕ) → Bool
grows_above e (expireds.Rto growth) moment = is_above e growth moment
grows_above e _ moment = false

-- data or the FIN is unsent or unacknowledged
abbrev pub has_more : Endpoint → Bool
has_more e = nat_lt e.stream.snd_una (end_of e.stream.accepted + flag_count e.stream.ended)

-- three expiries without an answer while data is outstanding or the persist timer is armed, or a closed socket that
-- waits for the peer's FIN (specific to this profile)
abbrev pub may_give_up : Endpoint → Bool
may_give_up e =
    (nat_lt e.stream.snd_una (snd_max e) || is_some e.timers.persist_armed) && nat_le 3 e.unanswered_expiries
    || e.closed && is_fin_wait_2 e.state

-- something was sent and is unacknowledged, at an endpoint that is up: a loss can be probed for (RFC 8985, 7.2)
abbrev pub may_probe : Endpoint → Bool
may_probe e = is_up e && nat_lt e.stream.snd_una (snd_max e)

-- the timer is off, or its conditions are not met
abbrev pub is_off : Endpoint → Timer → Bool
is_off e Rto = not (is_armed e.timers Rto)
is_off e Persist = not (is_armed e.timers Persist && is_up e && has_more e)
is_off e Msl2 = not (is_armed e.timers Msl2)
is_off e Giveup = not (may_give_up e)
is_off e Pto = not (may_probe e)

abbrev pub expiry_rules : Header → ℕ → Endpoint → Expired → List (Rule × Bool)
expiry_rules h moment e x =
    (rules.NoEndpoint, is_closed e.state) ∷ (rules.Growth, grows_above e x moment)
    ∷ (rules.TimerOff, is_off e (timer_of x)) ∷ (rules.TimerEarly, is_early e.timers (timer_of x) moment h) ∷ []

-- a retransmission is due: the values chosen, all that was sent may be retransmitted, the timer restarts (RFC 6298, 5.4
-- to 5.6; RFC 5681, 3.1)
abbrev pub after_rto : Endpoint → RtoChoice → ℕ → Endpoint
after_rto e growth moment = record e {
  control =
      after e.control (timeout_signal e) (at_moment e moment) growth.cwnd growth.ssthresh;
  recover = snd_max e;
  timers = expired e.timers Rto moment;
  unanswered_expiries = e.unanswered_expiries + 1;
  backoffs = e.backoffs + 1;
  syn_lost = e.syn_lost || e.stream.snd_una == 0;
}

-- a probe is due (RFC 9293, 3.8.6.1)
abbrev pub after_persist : Endpoint → ℕ → Endpoint
after_persist e moment = record e {
  recover = snd_max e;
  probe_due = true;
  timers = expired e.timers Persist moment;
  unanswered_expiries = e.unanswered_expiries + 1;
}

abbrev pub after_expiry : Endpoint → Expired → ℕ → Endpoint
after_expiry e (expireds.Rto growth) moment = after_rto e growth moment
after_expiry e expireds.Persist moment = after_persist e moment
after_expiry e expireds.Msl2 moment = shut_down e
after_expiry e expireds.Giveup moment = record (shut_down e) { fault = Some Timeout; reset_due = true }
after_expiry e expireds.Pto moment = record e { timers = expired e.timers Pto moment }
