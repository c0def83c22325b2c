-- What a yes with a slack says of probes: by when a closed window is probed, and by when again (RFC 9293, 3.8.6.1).
-- Moments, times and slacks are in microseconds.
use Rattle.std.specs.Prelude.{◌≡◌, ◌+◌, ◌*◌, ◌^◌, ◌<◌, ◌==◌, ℕ, zero, suc, nat_le, nat_lt, Bool, true, false}
use Rattle.std.specs.Prelude.{not, ◌&&◌, ◌||◌, if◌then◌else◌, Option, None, Some}
use Rattle.std.specs.Option.{option_map_or}
use Rattle.case_forms.specs.States.{is_closed}
use Rattle.case_forms.specs.declared.steps.Witness.{Witness}
use Rattle.case_forms.specs.declared.timer.Timer.TheVariants.{Persist, Rto}
use Rattle.case_forms.specs.declared.trace.Header.{Header}
use Rattle.case_forms.specs.declared.trace.Trace.{Trace}
use Rattle.timer_rules.specs.Timeouts.{longest_rto}
use Rattle.spec_network.specs.Hosts.{Stamped}
use Rattle.spec_network.specs.Tables.{on}
use Rattle.spec_tcp.specs.Machine.{tcp_shape}
use Rattle.spec_tcp.specs.declared.endpoint.EndpointId.{EndpointId}
use Rattle.spec_duties.specs.Observations.{observe}
use Rattle.spec_duties.specs.declared.events.Event.{Event}
use Rattle.spec_duties.specs.declared.events.Event.TheVariants.{Expires, Sends}
use Rattle.spec_duties.specs.declared.views.View.{View}
use Rattle.kept_duties.specs.Counts.{event_for}
use Rattle.kept_duties.specs.Expiries.{clock_error}
use Rattle.kept_duties.specs.Happens.{Happens, act_at, seen_before, world_before}
use Rattle.kept_duties.specs.Soon.{IsDoneUnless}

-- the probes of a window that is closed while bytes wait or are outstanding: when it was probed last, or else closed,
-- and how often it was probed since it was closed
pub record Probes : Type 0 where
  pub since : ℕ
  pub count : ℕ

-- the offered window is closed, and bytes wait or are outstanding
abbrev pub is_shut : View → Bool
is_shut v = nat_le 1 v.snd_una && nat_le 1 v.rcv_nxt && v.snd_wnd == 0 && nat_lt v.snd_una v.end

-- it is probed: a timer expires, or a segment is sent that holds the oldest unacknowledged position or, as a keep-alive
-- does, is empty and just below it
abbrev pub is_probing : Event → View → Bool
is_probing (Expires Rto) v = true
is_probing (Expires Persist) v = true
is_probing (Sends s) v =
    (s.length == 0 && s.pos + 1 == v.snd_una) || (nat_le s.pos v.snd_una && nat_lt v.snd_una (s.pos + s.length))
is_probing event v = false

-- after a step at the endpoint
abbrev pub still_probed : Event → (before : View) → (moment : ℕ) → Probes → Probes
still_probed event before moment p =
    if is_probing event before then record { since = moment; count = suc p.count } else p

abbrev pub probes_after : Event → (before after : View) → (moment : ℕ) → Option Probes → Option Probes
probes_after event before after moment probes =
    if not (is_closed after.state) && is_shut after
    then Some (option_map_or (still_probed event before moment) probes (record { since = moment; count = 0 }))
    else None

-- before a step
abbrev pub probes_by : Trace → Witness → EndpointId → (place : ℕ) → Option Probes → Stamped tcp_shape → Option Probes
probes_by t w me place probes x =
    on (event_for me (observe t.header x.moment (world_before t w place) x.step).touched) probes
    (λ event. probes_after event (seen_before t w place me) (seen_before t w (suc place) me) x.moment probes)

abbrev pub probes_before : Trace → Witness → EndpointId → (place : ℕ) → Option Probes
probes_before t w me zero = None
probes_before t w me (suc place) =
    on (act_at t w place) (probes_before t w me place) (probes_by t w me place (probes_before t w me place))

-- the window is probed
abbrev pub ProbesIt : Event → (before after : View) → Type 0
ProbesIt event before after = is_probing event before ≡ true

-- the window is still closed with work, the timeout is the same, and the endpoint isn't CLOSED
abbrev pub awaits_probe : (rto : ℕ) → View → Bool
awaits_probe rto v = not (is_closed v.state) && is_shut v && v.timers.rto == rto

-- how long a probe may take after so many probes: the timeout and the clock's error, doubled at each
abbrev pub probe_time : Header → View → (count : ℕ) → ℕ
probe_time h v count = (v.timers.rto + clock_error h) * 2 ^ count

-- a closed window is probed within the timeout and the slack, then within twice as long, and so on, while the timeout
-- so doubled is below a minute; unless it is opened, no work is left, the timeout is another, the endpoint is CLOSED,
-- or the witness ends
abbrev pub ProbesAreInTime : Trace → Witness → (slack : ℕ) → Type 0
ProbesAreInTime t w slack =
    (place moment : ℕ) (me : EndpointId) (event : Event) (p : Probes) → Happens t w place moment me event
    → probes_before t w me (suc place) ≡ Some p
    → (seen_before t w (suc place) me).timers.rto * 2 ^ p.count < longest_rto
    → IsDoneUnless t w place (p.since + probe_time t.header (seen_before t w (suc place) me) p.count + slack) me
    ProbesIt (λ v. not (awaits_probe (seen_before t w (suc place) me).timers.rto v))
