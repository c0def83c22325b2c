-- What a yes with a slack says of the retransmission timer: by when it expires (RFC 6298, 5.1 to 5.3). Moments, times
-- and slacks are in microseconds.
use Rattle.std.specs.Prelude.{◌≡◌, ◌⊎◌, ◌+◌, ◌*◌, ◌^◌, ◌<◌, ◌≤◌, ◌==◌, ℕ, suc, min, nat_lt, Bool, true, false}
use Rattle.std.specs.Prelude.{not, ◌&&◌, ◌||◌, if◌then◌else◌, is_some}
use Rattle.std.specs.Option.{option_map_or}
use Rattle.case_forms.specs.States.{is_closed}
use Rattle.case_forms.specs.Versions.{says_sender}
use Rattle.case_forms.specs.declared.steps.SegmentPlan.{SegmentPlan}
use Rattle.case_forms.specs.declared.steps.Witness.{Witness}
use Rattle.case_forms.specs.declared.timer.Timer.TheVariants.{Rto}
use Rattle.case_forms.specs.declared.trace.Header.{Header}
use Rattle.case_forms.specs.declared.trace.Trace.{Trace}
use Rattle.timer_rules.specs.Timeouts.{longest_rto}
use Rattle.spec_tcp.specs.Makes.Payload.{making_length}
use Rattle.spec_tcp.specs.declared.endpoint.EndpointId.{EndpointId}
use Rattle.spec_duties.specs.declared.events.Event.{Event}
use Rattle.spec_duties.specs.declared.events.Event.TheVariants.{Builds, Expires}
use Rattle.spec_duties.specs.declared.views.View.{View}
use Rattle.kept_duties.specs.Happens.{Happens, seen_before}
use Rattle.kept_duties.specs.Soon.{IsDoneUnless, WindowOpens}

-- by how much a timeout may be too long in version 6, since a clock ticks only every `grain` microseconds: a round trip
-- is measured up to a tick too long, so SRTT and RTTVAR are up to a tick more, and SRTT + 4 RTTVAR up to five ticks
-- (RFC 6298, 2)
abbrev pub clock_error : Header → ℕ
clock_error h = if says_sender h.version then 5 * h.grain else 0

-- how long the timer may run: the timeout and that error, doubled as often as the timeout was, but at most a minute;
-- before the first sample three timeouts, since more than a second is permitted (RFC 6298, 2.1)
abbrev pub run_time : Header → View → ℕ
run_time h v =
    if is_some v.timers.srtt then min (v.timers.rto + clock_error h * 2 ^ v.backoffs) longest_rto
    else 3 * v.timers.rto

-- the timer runs since this moment, with a timeout below a minute; the window is open, or nothing was acknowledged yet;
-- and the endpoint isn't CLOSED
abbrev pub runs_since : ℕ → View → Bool
runs_since since v =
    not (is_closed v.state) && (nat_lt v.timers.rto longest_rto && (nat_lt 0 v.snd_wnd || v.snd_una == 0))
    && option_map_or (λ m. m == since) v.timers.rto_armed false

-- the timer runs on as it did first: as long, and the window is open or closed as it was
abbrev pub runs_on : Header → ℕ → (first now : View) → Bool
runs_on h since first now =
    runs_since since now && run_time h now == run_time h first
    && (if nat_lt 0 first.snd_wnd then nat_lt 0 now.snd_wnd else now.snd_wnd == 0)

-- the segment has a FIN and no bytes. It may be repeated at any time (RFC 9293, 3.10.4)
abbrev pub IsFinAlone : SegmentPlan → Type 0
IsFinAlone m = (m.flags.fin ≡ true) × (m.len ≡ 0)

-- the oldest unacknowledged position is built again, other than by such a segment
abbrev pub BuildsOldest : Event → (before : View) → Type 0
BuildsOldest (Builds m) before =
    (before.snd_una < before.snd_max) × (m.pos ≤ before.snd_una) × (before.snd_una < m.pos + making_length m)
    × (IsFinAlone m → ⊥)
BuildsOldest event before = ⊥

-- in version 6 this gives the timer its whole time again, as some stacks restart it at a fast retransmission
abbrev pub RestartsByBuilding : Header → Event → (before : View) → Type 0
RestartsByBuilding h event before = (says_sender h.version ≡ true) × BuildsOldest event before

-- so does a window that opens, in each version
abbrev pub Restarts : Header → Event → (before after : View) → Type 0
Restarts h event before after = WindowOpens before after ⊎ RestartsByBuilding h event before

-- no step up to this place restarted the timer so after this moment
abbrev pub IsRestartedBy : Trace → Witness → (place by : ℕ) → EndpointId → Type 0
IsRestartedBy t w place by me =
    (earlier moment : ℕ) (event : Event) → earlier ≤ place → Happens t w earlier moment me event
    → Restarts t.header event (seen_before t w earlier me) (seen_before t w (suc earlier) me) → moment ≤ by

-- the timer expires, or is restarted by a segment
abbrev pub TimesOut : Header → Event → (before after : View) → Type 0
TimesOut h event before after = (event ≡ Expires Rto) ⊎ RestartsByBuilding h event before

-- a timer that runs after a step expires within its time and the slack, counted from when it was armed and restarted
-- last; unless it is restarted by a segment, stops, is set anew or gets another time, the window is closed or opened,
-- the endpoint is CLOSED, or the witness ends
abbrev pub ExpiriesAreInTime : Trace → Witness → (slack : ℕ) → Type 0
ExpiriesAreInTime t w slack =
    (place moment since from : ℕ) (me : EndpointId) (event : Event) → Happens t w place moment me event
    → runs_since since (seen_before t w (suc place) me) ≡ true → since ≤ from → IsRestartedBy t w place from me
    → IsDoneUnless t w place (from + run_time t.header (seen_before t w (suc place) me) + slack) me (TimesOut t.header)
    (λ v. not (runs_on t.header since (seen_before t w (suc place) me) v))
