-- What follows for windows from each step of the model: how far new data reaches, and how cwnd and ssthresh change (RFC
-- 9293, 3.8.6; RFC 5681, 3.1 and 3.2).
use Rattle.std.specs.Prelude.{◌≡◌, ◌<◌, ◌≤◌, ℕ, ◌+◌, length, None, Some}
use Rattle.case_forms.specs.declared.timer.RecoveryChange.TheVariants.{Begins}
use Rattle.case_forms.specs.declared.trace.Header.{Header}
use Rattle.case_forms.specs.declared.calls.Host.{Host}
use Rattle.window_rules.specs.declared.control.Control.{Control}
use Rattle.window_rules.specs.Control.{greatest, control_edge}
use Rattle.window_rules.specs.Windows.{greatest_window as greatest_value, offered_edge}
use Rattle.spec_network.specs.Tables.{pick, waiting}
use Rattle.spec_network.specs.Hosts.{World, Step, At, Does, Expires, Takes}
use Rattle.spec_network.specs.HostSteps.{after}
use Rattle.spec_tcp.specs.declared.endpoint.EndpointId.{EndpointId}
use Rattle.spec_tcp.specs.declared.endpoint.Endpoint.{Endpoint}
use Rattle.spec_tcp.specs.declared.endpoint.Emission.{Emission}
use Rattle.spec_tcp.specs.Endpoints.{snd_max}
use Rattle.spec_tcp.specs.Signals.{at_moment, profile_of, recovery_signal, signal_of}
use Rattle.spec_tcp.specs.HostTcp.{place_of, endpoint_of}
use Rattle.case_forms.specs.declared.steps.SegmentPlan.{SegmentPlan}
use Rattle.case_forms.specs.declared.steps.TakeChoice.{TakeChoice}
use Rattle.spec_tcp.specs.Heard.{as_read}
use Rattle.spec_tcp.specs.Arrives.{taker, AtEndpoint}
use Rattle.case_forms.specs.declared.taken_line.Expired.TheVariants.{Rto}
use Rattle.case_forms.specs.declared.timer.RtoChoice.{RtoChoice}
use Rattle.case_forms.specs.declared.timer.Recovery.{Recovery}
use Rattle.spec_tcp.specs.Timeouts.{greatest_values}
use Rattle.spec_tcp.specs.Machine as acts
use Rattle.spec_tcp.specs.Machine.{Expiring, act_makes, tcp, tcp_shape}
use Rattle.spec_tcp_laws.specs.Consequences.{find}

-- bytes that end here are in both windows of the endpoint: the one that the peer offers and the congestion window
pub record InBothWindows (e : Endpoint) (end : ℕ) : Type 0 where
  pub offered : end ≤ offered_edge e.stream.snd_una e.window.snd_wnd e.probe_due
  pub congestion : end ≤ control_edge e.stream.snd_una e.control

-- an endpoint with these ports exists, and if bytes of the segment are at or beyond the end of all that it sent before,
-- they end in both windows
abbrev pub NewDataFits : World tcp_shape → Host → (moment : ℕ) → SegmentPlan → Type 0
NewDataFits w host moment m = (e : Endpoint) × (endpoint_of (pick w.hosts host).body m.lport m.rport ≡ Some e)
    × ((x : Emission) → act_makes host moment (pick w.hosts host).body (acts.Makes m) ≡ Some x → 0 < length x.payload →
    snd_max e < x.pos + length x.payload → InBothWindows e (x.pos + length x.payload))

-- the greatest congestion window that processing a segment allows, as the endpoint reads it
abbrev pub greatest_taking : Header → (moment : ℕ) → Endpoint → Emission → ℕ
greatest_taking h moment e m = (greatest e.control (signal_of e (as_read h.version e m)) (at_moment e moment)).0

-- the greatest congestion window and threshold with which fast recovery may begin, if this threshold is chosen
abbrev pub greatest_recovering : (moment : ℕ) → Endpoint → (ssthresh : ℕ) → ℕ × ℕ
greatest_recovering moment e ssthresh = greatest e.control (recovery_signal e ssthresh) (at_moment e moment)

-- the step processes this segment, which waits for it, at the endpoint
abbrev pub TakesThere : World tcp_shape → Step tcp_shape → EndpointId → Endpoint → Emission → Type 0
TakesThere w step me e m = (line : ℕ) × (how : TakeChoice) × (step ≡ At me.host (Takes line how))
    × (waiting line (pick w.hosts me.host).inbox ≡ Some m)
    × (taker (pick w.hosts me.host).body m ≡ AtEndpoint me.number e)

-- the step is an expiry of the retransmission timer of the endpoint's ports
abbrev pub TimesOut : World tcp_shape → Step tcp_shape → EndpointId → Type 0
TimesOut w step me =
    (line : ℕ) × (x : Expiring) × (growth : RtoChoice) × (step ≡ At me.host (Expires line x)) × (x.expired ≡ Rto growth)
    × (place_of (pick w.hosts me.host).body x.lport x.rport ≡ Some me.number)

-- the step begins fast recovery at the endpoint with these ports
abbrev pub Recovers : World tcp_shape → Step tcp_shape → EndpointId → Type 0
Recovers w step me =
    (x : Recovery) × (step ≡ At me.host (Does x)) × (x.change ≡ Begins)
    × (place_of (pick w.hosts me.host).body x.lport x.rport ≡ Some me.number)

-- after the step the endpoint exists, and its congestion control has this property
abbrev pub Leaves : Header → ℕ → World tcp_shape → Step tcp_shape → EndpointId → (Control → Type 0) → Type 0
Leaves h moment w step me P = (f : Endpoint) × (find (after (tcp h) moment w step).hosts me ≡ Some f) × P f.control

-- what a step does to the windows of existing endpoints, and with which windows a new one begins
pub record WindowsFollow (h : Header) (moment : ℕ) (w : World tcp_shape) (step : Step tcp_shape) : Type 0 where
  -- if a segment is processed, cwnd is at most the greatest that this allows, and ssthresh stays
  pub takes : (me : EndpointId) (e : Endpoint) (m : Emission) → find w.hosts me ≡ Some e → TakesThere w step me e m
      → Leaves h moment w step me (λ c. (c.values.cwnd ≤ greatest_taking h moment e m)
      × (c.values.ssthresh ≡ e.control.values.ssthresh))
  -- if the retransmission timer expires, both are at most the greatest that a timeout allows
  pub times_out : (me : EndpointId) (e : Endpoint) → find w.hosts me ≡ Some e → TimesOut w step me
      → Leaves h moment w step me (λ c. (c.values.cwnd ≤ (greatest_values e moment).0)
      × (c.values.ssthresh ≤ (greatest_values e moment).1))
  -- if fast recovery begins, both are at most the greatest that this allows, cwnd by the threshold that was chosen: if
  -- this profile bounds them, half the flight, or two segments, and that threshold with a segment more for each
  -- duplicate
  pub recovers : (me : EndpointId) (e : Endpoint) → find w.hosts me ≡ Some e → Recovers w step me
      → Leaves h moment w step me (λ c. (c.values.ssthresh ≤ (greatest_recovering moment e c.values.ssthresh).1)
      × (c.values.cwnd ≤ (greatest_recovering moment e c.values.ssthresh).0))
  -- every other step leaves congestion control unchanged; so does one that undoes a recovery
  pub stays : (me : EndpointId) (e : Endpoint) → find w.hosts me ≡ Some e
      → ((m : Emission) → TakesThere w step me e m → ⊥) → (TimesOut w step me → ⊥) → (Recovers w step me → ⊥)
      → Leaves h moment w step me (λ c. c ≡ e.control)
  -- no step changes the profile
  pub profile : (me : EndpointId) (e : Endpoint) → find w.hosts me ≡ Some e
      → Leaves h moment w step me (λ c. c.profile ≡ e.control.profile)
  -- a new endpoint begins with no congestion window and the greatest threshold, by the profile of the header
  pub begins : (me : EndpointId) (f : Endpoint) → find w.hosts me ≡ None
      → find (after (tcp h) moment w step).hosts me ≡ Some f
      → (f.control.values.cwnd ≡ 0) × (f.control.values.ssthresh ≡ greatest_value)
      × (f.control.profile ≡ profile_of h)

-- the congestion control of each endpoint follows the profile that the header names
abbrev pub ProfilesAreNamed : Header → World tcp_shape → Type 0
ProfilesAreNamed h w =
    (me : EndpointId) (e : Endpoint) → find w.hosts me ≡ Some e → e.control.profile ≡ profile_of h
