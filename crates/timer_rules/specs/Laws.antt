-- Samples, back-off and expiries in the words of RFC 6298, and what follows. Times are in microseconds.
use Rattle.std.specs.Prelude.{◌≡◌, ℕ, zero, suc, ◌+◌, ◌*◌, ◌^◌, ◌≤◌, ◌<◌, ◌↔◌, min, max, Option, None, Some}
use Rattle.case_forms.specs.declared.trace.Header.{Header}
use Rattle.case_forms.specs.declared.timer.Timer.{Timer}
use Rattle.case_forms.specs.declared.timer.Timer.TheVariants.{Rto}
use Rattle.timer_rules.specs.declared.fault.TimerFault.TheVariants.{Off}
use Rattle.timer_rules.specs.declared.timers.Timers.{Timers}
use Rattle.timer_rules.specs.Timeouts.{longest_rto, distance, srtt_after, rttvar_after, doubled}
use Rattle.timer_rules.specs.Timers.{start, sampled, backed_off, raised_for_lost_syn, armed_since, with_timer, run_time}
use Rattle.timer_rules.specs.Timers.{refusal, expired}

-- a value is one of this many equal parts of a whole, rounded down
abbrev pub IsPart : ℕ → ℕ → ℕ → Type 0
IsPart parts value whole = (parts * value ≤ whole) × (whole < parts * (value + 1))

-- SRTT and RTTVAR after a sample, as the RFC has them, without division (RFC 6298, 2.2 and 2.3)
pub data IsSampled (old : Timers) (r srtt rttvar : ℕ) : Type 0 where
  first : old.srtt ≡ None → srtt ≡ r → IsPart 2 rttvar r → IsSampled old r srtt rttvar
  later : (smoothed : ℕ) → old.srtt ≡ Some smoothed → IsPart 8 srtt (7 * smoothed + r) →
      IsPart 4 rttvar (3 * old.rttvar + distance smoothed r) → IsSampled old r srtt rttvar

-- a sample gives these values and no others
abbrev pub SamplesAreExact : Type 0
SamplesAreExact =
    (t : Timers) (r : ℕ) (h : Header) (srtt rttvar : ℕ) → IsSampled t r srtt rttvar
    ↔ (((sampled t r h).srtt ≡ Some srtt) × ((sampled t r h).rttvar ≡ rttvar))

-- SRTT is between the old one and the sample; RTTVAR is at most the old one or their distance
pub record SamplesAreSmooth : Type 0 where
  pub above : (srtt r : ℕ) → min srtt r ≤ srtt_after (Some srtt) r
  pub below : (srtt r : ℕ) → srtt_after (Some srtt) r ≤ max srtt r
  pub spread : (srtt rttvar r : ℕ) → rttvar_after (Some srtt) rttvar r ≤ max rttvar (distance srtt r)

-- the timeout after a sample
pub record TimeoutIsBounded : Type 0 where
  -- it is never below the minimum, if that is at most a minute (RFC 6298, 2.4)
  pub least : (t : Timers) (r : ℕ) (h : Header) → h.minrto ≤ longest_rto → h.minrto ≤ (sampled t r h).rto
  -- it is longer than the smoothed round trip by a clock tick or more, up to a minute (RFC 6298, 2.3 and 4)
  pub waits : (t : Timers) (r : ℕ) (h : Header) → min longest_rto (srtt_after t.srtt r + h.grain) ≤ (sampled t r h).rto

-- the timeout never passes a minute, whatever happens (RFC 6298, 2.5)
pub record NeverPassesAMinute : Type 0 where
  pub at_start : start.rto ≤ longest_rto
  pub by_sample : (t : Timers) (r : ℕ) (h : Header) → (sampled t r h).rto ≤ longest_rto
  pub by_doubling : (t : Timers) → (backed_off t).rto ≤ longest_rto
  pub by_lost_syn : (t : Timers) → t.rto ≤ longest_rto → (raised_for_lost_syn t).rto ≤ longest_rto
  pub by_setting : (t : Timers) (timer : Timer) (since : Option ℕ) → t.rto ≤ longest_rto
      → (with_timer t timer since).rto ≤ longest_rto
  pub by_expiry : (t : Timers) (timer : Timer) (moment : ℕ) → t.rto ≤ longest_rto
      → (expired t timer moment).rto ≤ longest_rto

-- this many doublings in a row
abbrev pub doubled_times : ℕ → ℕ → ℕ
doubled_times zero rto = rto
doubled_times (suc n) rto = doubled (doubled_times n rto)

-- back-off is exponential, up to a minute, and never shrinks the timeout (RFC 6298, 5.5)
pub record BackOffIsExponential : Type 0 where
  pub grows : (rto : ℕ) → rto ≤ longest_rto → rto ≤ doubled rto
  pub doubles : (n rto : ℕ) → rto ≤ longest_rto → doubled_times n rto ≡ min longest_rto (2 ^ n * rto)

-- a timer may expire: it is armed since a moment that is not later, and ran out within a clock tick (RFC 6298, 4 and
-- 5.1)
pub record MayExpire (t : Timers) (timer : Timer) (moment : ℕ) (h : Header) : Type 0 where
  pub since : ℕ
  pub armed : armed_since t timer ≡ Some since
  pub later : since ≤ moment
  pub ran_out : since + run_time t timer h ≤ moment + h.grain

-- an expiry is refused if and only if the timer may not expire, with the error off if and only if it is not armed
pub record ExpiryIsExact : Type 0 where
  pub allowed : (t : Timers) (timer : Timer) (moment : ℕ) (h : Header) → (refusal t timer moment h ≡ None)
      ↔ MayExpire t timer moment h
  pub off : (t : Timers) (timer : Timer) (moment : ℕ) (h : Header) → (refusal t timer moment h ≡ Some Off)
      ↔ (armed_since t timer ≡ None)

-- between two consecutive expiries of the retransmission timer is twice the timeout of the first, at most a minute,
-- within a clock tick (RFC 6298, 5.5 and 5.6)
abbrev pub ExpiriesAreApart : Type 0
ExpiriesAreApart =
    (t : Timers) (moment next : ℕ) (h : Header) → refusal (expired t Rto moment) Rto next h ≡ None →
    moment + min longest_rto (2 * t.rto) ≤ next + h.grain
