-- What the line of a segment shows that may not be, and what an endpoint keeps: neither reads what may be discarded, nor
-- the level or the slack.
use Rattle.std.proofs.Common.{◌≡◌, ℕ, suc, Bool, false, Option, None, Some, map, refl, ap, ◌∙◌}
use Rattle.std.specs.Prelude.{◌&&◌, not, if◌then◌else◌, nat_eq, slice_get, List}
use Rattle.std.specs.Map.{lookup}
use Rattle.std.specs.Option.{option_map, option_map_or}
use Rattle.std.proofs.lemmas.Option.{slice_get-map}
use Rattle.case_forms.specs.Versions.{says_sender}
use Rattle.case_forms.specs.declared.calls.Host.{Host}
use Rattle.case_forms.specs.declared.calls.Host.TheVariants.{Zero, One}
use Rattle.case_forms.specs.declared.steps.TakeChoice.{TakeChoice}
use Rattle.case_forms.specs.declared.trace.Header.{Header}
use Rattle.case_forms.specs.declared.trace.Wire.{Wire}
use Rattle.case_forms.specs.declared.version.Judged.{Judged}
use Rattle.streams.proofs.Keeping.{body_kept-fade}
use Rattle.window_rules.specs.declared.control.Profile.{Profile}
use Rattle.spec_network.specs.Hosts as network
use Rattle.spec_network.specs.Hosts.{HostState, HostStep, Step, World}
use Rattle.spec_network.specs.Tables.{Made, on}
use Rattle.spec_tcp.specs.Arrives.{Taker, Nobody, AtListener, AtEndpoint}
use Rattle.spec_tcp.specs.Arrives.OtherStates.Fin.{keeps_fin}
use Rattle.spec_tcp.specs.Arrives.OtherStates.Text.{kept_bytes, kept_start}
use Rattle.spec_tcp.specs.Forgetting.{forget_endpoint, forget_host}
use Rattle.spec_tcp.specs.Heard.{as_read}
use Rattle.spec_tcp.specs.HostTcp.{HostTcp}
use Rattle.spec_tcp.specs.Machine.{tcp_shape}
use Rattle.spec_tcp.specs.Signals.{profile_of}
use Rattle.spec_tcp.specs.declared.endpoint.Emission.{Emission}
use Rattle.spec_tcp.specs.declared.endpoint.Endpoint.{Endpoint}
use Rattle.spec_tcp_laws.specs.Judging.{endpoint_by, header_by, host_by, world_judged}
use Rattle.spec_tcp_laws.proofs.ForgetActs.{forget_taker, read-forget}
use Rattle.spec_tcp_laws.proofs.ForgetReads.{rcv_nxt-forget}
use Rattle.spec_duties.specs.Kept.{kept_at, kept_of}
use Rattle.spec_duties.specs.Observations.{observe}
use Rattle.spec_duties.specs.declared.events.Event.{Event}
use Rattle.spec_duties.specs.declared.events.Event.TheVariants.{Builds, Calls, Drops, Expires, Opens, Processes, Recovers, Sends}
use Rattle.spec_duties.specs.declared.observations.Observation.{Observation}
use Rattle.spec_duties.specs.declared.observations.TouchedEndpoint.{TouchedEndpoint}
use Rattle.spec_duties.specs.declared.observations.Untruth.{Untruth}
use Rattle.spec_duties.specs.declared.observations.Untruth.TheVariants as untruth
use Rattle.spec_flights.specs.Echoes.{mistimed_by}
use Rattle.spec_flights.specs.Flights.{Flights, flight_at, mistimed, sends_untrue}
use Rattle.spec_flights.specs.declared.clocks.Clocks.{Clocks}
use Rattle.spec_flights.specs.declared.clocks.Echoable.{Echoable}
use Rattle.spec_cases.specs.Cases.{Known, forget, shows_untrue, untrue_at, untrue_by, untrue_from, untrue_sent}
use Rattle.watched.specs.Levels.{known_judged, observed_with, touched_with}

-- ---- what is kept

kept_of-forget : (how : TakeChoice) (e : Endpoint) (m : Emission) → kept_of how (forget_endpoint e) m ≡ kept_of how e m
kept_of-forget how e m =
    rw (
      rcv_nxt-forget e,
      body_kept-fade (suc e.stream.receive.delivered) e.stream.receive.taken (kept_start e m) (kept_bytes e how m) (keeps_fin e how m),
    ) refl

pub kept-forget : (h : Header) (how : TakeChoice) (m : Emission) (t : Taker) → kept_at h.version how m (forget_taker t) ≡ kept_at h.version how m t
kept-forget h how m Nobody = refl
kept-forget h how m (AtListener l) = refl
kept-forget h how m (AtEndpoint i e) = rw (read-forget h e m, kept_of-forget how e (as_read h.version e m)) refl

-- ---- what isn't true: an endpoint's values that count are RCV.NXT and IRS

-- a change of endpoints that leaves that as it is
module _ (f : Endpoint → Endpoint)
    (same : (fs : Flights) (host : Host) (place : ℕ) (e : Endpoint) (wire : Wire)
    → sends_untrue fs host place (f e) wire.bytes ≡ sends_untrue fs host place e wire.bytes) where
  abbrev body_with : HostTcp → HostTcp
  body_with b = record b { endpoints = map f b.endpoints }

  from_with : (fs : Flights) (host : Host) (b : HostTcp) (wire : Wire) (m : Emission)
      → untrue_from fs host (body_with b) wire m ≡ untrue_from fs host b wire m
  from_with fs host b wire m =
      rw (slice_get-map f b.endpoints m.sender.number)
      (ap (λ (x : Bool). not m.is_reset_reply && x) (by (slice_get b.endpoints m.sender.number)))
    where
      by : (o : Option Endpoint)
          → option_map_or (λ e. sends_untrue fs host m.sender.number e wire.bytes) (option_map f o) false
          ≡ option_map_or (λ e. sends_untrue fs host m.sender.number e wire.bytes) o false
      by None = refl
      by (Some e) = same fs host m.sender.number e wire

  sent_with : (fs : Flights) (host : Host) (b : HostTcp) (made : Option (Made Emission)) (wire : Wire)
      → option_map_or (λ m. untrue_from fs host (body_with b) wire m.emission) made false
      ≡ option_map_or (λ m. untrue_from fs host b wire m.emission) made false
  sent_with fs host b None wire = refl
  sent_with fs host b (Some m) wire = from_with fs host b wire m.emission

-- nothing that is discarded, if a step shows nothing of it
pub untrue-forget : (h : Header) (moment : ℕ) (k : Known) (step : Step tcp_shape)
    → observe h moment (forget k).model step ≡ observe h moment k.model step → untrue_at h moment (forget k) step ≡ untrue_at h moment k step
untrue-forget h moment k (network.Begin line t call) same = refl
untrue-forget h moment k (network.Finish line t answer) same = refl
untrue-forget h moment k (network.Effect t answer) same = refl
untrue-forget h moment k (network.At host d) same = at host d same
  where
    reads : (fs : Flights) (host : Host) (place : ℕ) (e : Endpoint) (wire : Wire)
        → sends_untrue fs host place (forget_endpoint e) wire.bytes ≡ sends_untrue fs host place e wire.bytes
    reads fs host place e wire = rw (rcv_nxt-forget e) refl

    sent : (host : Host) (s : HostState tcp_shape) (number : ℕ) (wire : Wire)
        → untrue_sent k.flights host (forget_host s) number wire ≡ untrue_sent k.flights host s number wire
    sent host s number wire = sent_with forget_endpoint reads k.flights host s.body (lookup (nat_eq number) s.made) wire

    shows : (host : Host) (state : HostState tcp_shape) (number : ℕ) (wire : Wire) (was is : Observation) → was ≡ is
        → shows_untrue h k.flights host (forget_host state) number wire was ≡ shows_untrue h k.flights host state number wire is
    shows host state number wire was is same =
        ap (λ (b : Bool). if says_sender h.version && b then Some untruth.Blocks else mistimed h k.flights was) (sent host state number wire)
        ∙ ap (shows_untrue h k.flights host state number wire) same

    at : (host : Host) (d : HostStep tcp_shape) → observe h moment (forget k).model (network.At host d) ≡ observe h moment k.model (network.At host d)
        → untrue_by h moment (forget k) host d ≡ untrue_by h moment k host d
    at Zero (network.Sends line number wire) same = shows Zero k.model.hosts.zero number wire _ _ same
    at One (network.Sends line number wire) same = shows One k.model.hosts.one number wire _ _ same
    at host (network.Does x) same = refl
    at host (network.Expires line x) same = refl
    at host (network.Makes m) same = refl
    at host (network.Gets line copied wire) same = refl
    at host (network.Hears line wire) same = refl
    at host (network.Takes line how) same = refl
    at host (network.Drops line) same = refl
    at host (network.Answers line) same = refl

-- nor the level: what its timestamps show isn't read from the edge
mistimed_with : (h : Header) (fs : Flights) (edge : ℕ) (s : Observation) → mistimed h fs (observed_with edge s) ≡ mistimed h fs s
mistimed_with h fs edge s = ap (λ (o : Option Untruth). if says_sender h.version then o else None) (by s.touched)
  where
    at : (event : Event) (c : Clocks) (es : List (ℕ × Option Echoable)) → mistimed_by (observed_with edge s) event c es ≡ mistimed_by s event c es
    at Opens c es = refl
    at (Calls abort) c es = refl
    at (Processes length rst) c es = refl
    at (Drops asks unlimited) c es = refl
    at (Builds m) c es = refl
    at (Sends x) c es = refl
    at (Expires timer) c es = refl
    at (Recovers change) c es = refl

    by : (o : Option TouchedEndpoint)
        → on (option_map (touched_with edge) o) None
        (λ t. mistimed_by (observed_with edge s) t.event (flight_at fs t.host t.place).clocks (flight_at fs t.host t.place).echoes)
        ≡ on o None (λ t. mistimed_by s t.event (flight_at fs t.host t.place).clocks (flight_at fs t.host t.place).echoes)
    by None = refl
    by (Some t) = at t.event (flight_at fs t.host t.place).clocks (flight_at fs t.host t.place).echoes

pub untrue_judged : (j : Judged) (h : Header) (moment : ℕ) (k : Known) (step : Step tcp_shape) (edge : ℕ)
    → observe (header_by j h) moment (world_judged j h k.model) step ≡ observed_with edge (observe h moment k.model step)
    → untrue_at (header_by j h) moment (known_judged j h k) step ≡ untrue_at h moment k step
untrue_judged j h moment k (network.Begin line t call) edge same = refl
untrue_judged j h moment k (network.Finish line t answer) edge same = refl
untrue_judged j h moment k (network.Effect t answer) edge same = refl
untrue_judged j h moment k (network.At host d) edge same = at host d same
  where
    p : Profile
    p = profile_of (header_by j h)

    sent : (host : Host) (s : HostState tcp_shape) (number : ℕ) (wire : Wire)
        → untrue_sent k.flights host (host_by p s) number wire ≡ untrue_sent k.flights host s number wire
    sent host s number wire =
        sent_with (endpoint_by p) (λ fs host place e wire. refl) k.flights host s.body (lookup (nat_eq number) s.made) wire

    shows : (host : Host) (state : HostState tcp_shape) (number : ℕ) (wire : Wire) (was is : Observation) → was ≡ observed_with edge is
        → shows_untrue (header_by j h) k.flights host (host_by p state) number wire was ≡ shows_untrue h k.flights host state number wire is
    shows host state number wire was is same =
        ap (λ (b : Bool). if says_sender h.version && b then Some untruth.Blocks else mistimed h k.flights was) (sent host state number wire)
        ∙ ap (shows_untrue h k.flights host state number wire) same
        ∙ ap (λ (o : Option Untruth). if says_sender h.version && untrue_sent k.flights host state number wire then Some untruth.Blocks else o)
        (mistimed_with h k.flights edge is)

    at : (host : Host) (d : HostStep tcp_shape)
        → observe (header_by j h) moment (world_judged j h k.model) (network.At host d) ≡ observed_with edge (observe h moment k.model (network.At host d))
        → untrue_by (header_by j h) moment (known_judged j h k) host d ≡ untrue_by h moment k host d
    at Zero (network.Sends line number wire) same = shows Zero k.model.hosts.zero number wire _ _ same
    at One (network.Sends line number wire) same = shows One k.model.hosts.one number wire _ _ same
    at host (network.Does x) same = refl
    at host (network.Expires line x) same = refl
    at host (network.Makes m) same = refl
    at host (network.Gets line copied wire) same = refl
    at host (network.Hears line wire) same = refl
    at host (network.Takes line how) same = refl
    at host (network.Drops line) same = refl
    at host (network.Answers line) same = refl
