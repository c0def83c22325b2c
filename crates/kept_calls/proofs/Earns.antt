-- A step by which an endpoint earns a credit brings it a segment.
use Rattle.std.proofs.Common.{◌≡◌, ℕ, Bool, true, false, Option, Some, None, refl, ap, sym, ◌∙◌, nat_eq, arith}
use Rattle.std.specs.Prelude.{if◌then◌else◌, ◌==◌, ◌&&◌, ◌||◌, not, nat_lt, is_some, slice_get}
use Rattle.std.specs.Map.{lookup}
use Rattle.std.specs.Option.{option_map}
use Rattle.std.proofs.lemmas.Bool.Decides.{nat_tests}
use Rattle.std.proofs.lemmas.Option.{none-some, same_Some}
use Rattle.case_forms.specs.States.{is_syn_received, is_syn_sent}
use Rattle.case_forms.specs.Versions.{says_sender}
use Rattle.case_forms.specs.declared.calls.Answer.{Answer}
use Rattle.case_forms.specs.declared.calls.Answer.TheVariants as answers
use Rattle.case_forms.specs.declared.calls.Call.{Call}
use Rattle.case_forms.specs.declared.calls.Call.TheVariants as calls
use Rattle.case_forms.specs.declared.calls.Host.{Host}
use Rattle.case_forms.specs.declared.calls.Host.TheVariants.{Zero, One}
use Rattle.case_forms.specs.declared.steps.TakeChoice.{TakeChoice}
use Rattle.case_forms.specs.declared.trace.Header.{Header}
use Rattle.case_forms.specs.declared.version.Version.{Version}
use Rattle.spec_network.specs.HostRules.{aim_of}
use Rattle.spec_network.specs.Hosts.{Turn, Idle, Called, Answered, World, Does, Expires, Makes, Sends}
use Rattle.spec_network.specs.Hosts.{Gets, Hears, Takes, Drops, Answers, Step, Begin, Finish, Effect, At, turn_of}
use Rattle.spec_network.specs.Tables.{host_is, on, pick, waiting}
use Rattle.spec_tcp.specs.Arrives.{Taker, Nobody, AtListener, AtEndpoint, taker}
use Rattle.spec_tcp.specs.Endpoints.{segment_length}
use Rattle.spec_tcp.specs.Heard.{as_read}
use Rattle.spec_tcp.specs.HostTcp.{HostTcp, has_ended, socket_target}
use Rattle.spec_tcp.specs.Machine.{aim, tcp, tcp_shape}
use Rattle.spec_tcp.specs.declared.endpoint.Emission.{Emission}
use Rattle.spec_tcp.specs.declared.endpoint.Endpoint.{Endpoint}
use Rattle.spec_tcp.specs.declared.endpoint.EndpointId.{EndpointId}
use Rattle.spec_tcp.specs.declared.endpoint.SocketTarget.{SocketTarget}
use Rattle.spec_tcp.specs.declared.endpoint.SocketTarget.TheVariants.{ListenerAt, EndpointAt}
use Rattle.spec_tcp_laws.proofs.Rules.{both_true}
use Rattle.spec_duties.specs.Dropped.{acknowledges_less, answering_breaks, taking_breaks}
use Rattle.spec_duties.specs.Observations.{at_place, observe, observe_accept, observe_call, observe_close, observe_dropping, observe_effect}
use Rattle.spec_duties.specs.Observations.{observe_other, observe_taking, is_done, unseen}
use Rattle.spec_duties.specs.Views.{view_of}
use Rattle.spec_duties.specs.declared.events.Event.{Event}
use Rattle.spec_duties.specs.declared.observations.Observation.{Observation}
use Rattle.spec_duties.specs.declared.observations.Queueing.TheVariants as queueing
use Rattle.spec_duties.specs.declared.observations.Sampling.TheVariants as sampling
use Rattle.spec_duties.specs.declared.observations.TouchedEndpoint.{TouchedEndpoint}
use Rattle.spec_flights.specs.Clocks.{excused_at, excused_by, is_outdated, is_unstamped}
use Rattle.spec_flights.specs.Flights.{Flights, excused, flight_at}
use Rattle.kept_calls.specs.Earning.{earns, is_news, reaches}

-- ---- steps that earn nothing

pub record Idles (s : Observation) : Type 0 where
  pub dropping : s.dropping ≡ None
  pub earns : s.earns ≡ false
  pub sampling : s.sampling ≡ sampling.Nothing

idle_unseen : Idles unseen
idle_unseen = record { dropping = refl; earns = refl; sampling = refl }

pub idle_on : {A : Type 0} (o : Option A) (f : A → Observation) → ((x : A) → Idles (f x)) → Idles (on o unseen f)
idle_on None f each = idle_unseen
idle_on (Some x) f each = each x

idle_accepting : (host : Host) (b : HostTcp) (answer : Answer) (target : SocketTarget) → Idles (observe_accept host b answer target)
idle_accepting host b (answers.Given n) (ListenerAt l) = record { dropping = refl; earns = refl; sampling = refl }
idle_accepting host b answer target = idle_unseen

idle_close : (host : Host) (b : HostTcp) (aborts : Bool) (answer : Answer) (target : SocketTarget) → Idles (observe_close host b aborts answer target)
idle_close host b aborts answer (EndpointAt i) = record { dropping = refl; earns = refl; sampling = refl }
idle_close host b aborts answer (ListenerAt l) = by (is_done answer && not (has_ended b l))
  where
    by : (c : Bool) → Idles (if c then record unseen { queueing = queueing.Closes host l } else unseen)
    by true = record { dropping = refl; earns = refl; sampling = refl }
    by false = idle_unseen

idle_other : (host : Host) (b : HostTcp) (target : SocketTarget) → Idles (observe_other host b target)
idle_other host b (ListenerAt l) = idle_unseen
idle_other host b (EndpointAt i) = record { dropping = refl; earns = refl; sampling = refl }

idle_call : (host : Host) (b : HostTcp) (call : Call) (answer : Answer) → Idles (observe_call host b call answer)
idle_call host b (calls.Connect x lport rport) (answers.Given n) = record { dropping = refl; earns = refl; sampling = refl }
idle_call host b (calls.Connect x lport rport) answer = idle_unseen
idle_call host b (calls.Accept n) answer = idle_on (socket_target b n) (observe_accept host b answer) (idle_accepting host b answer)
idle_call host b (calls.Send n bytes) answer = idle_on (socket_target b n) (observe_other host b) (idle_other host b)
idle_call host b (calls.Shut n) answer = idle_on (socket_target b n) (observe_close host b false answer) (idle_close host b false answer)
idle_call host b (calls.Close n) answer = idle_on (socket_target b n) (observe_close host b false answer) (idle_close host b false answer)
idle_call host b (calls.Abort n) answer =
    idle_on (socket_target b n) (observe_close host b (is_done answer) answer) (idle_close host b (is_done answer) answer)
idle_call host b call answer = idle_unseen

pub idle_effect : (h : Header) (w : World tcp_shape) (thread : ℕ) (answer : Answer) (u : Turn tcp_shape) → Idles (observe_effect h w thread answer u)
idle_effect h w thread answer Idle = idle_unseen
idle_effect h w thread answer (Answered told) = idle_unseen
idle_effect h w thread answer (Called call) =
    let i =
    idle_on (aim_of (tcp h) w.hosts (aim call)) (λ host. observe_call host (pick w.hosts host).body call answer)
    (λ host. idle_call host (pick w.hosts host).body call answer) in
    record { dropping = i.dropping; earns = i.earns; sampling = i.sampling }

-- what duties see earns as the step shows it, if nothing is dropped
earns_as_shown : (h : Header) (fs : Flights) (s : Observation) → s.dropping ≡ None → (excused h fs s).earns ≡ s.earns
earns_as_shown h fs s none = by (says_sender h.version) s.touched
  where
    by : (v : Bool) (o : Option TouchedEndpoint)
        → (if v then on o s (λ t. excused_at (flight_at fs t.host t.place).clocks s) else s).earns ≡ s.earns
    by false o = refl
    by true None = refl
    by true (Some t) =
        ap (λ (b : Bool). (if b then excused_by (is_outdated (flight_at fs t.host t.place).clocks s)
        (is_unstamped (flight_at fs t.host t.place).clocks s) s else s).earns)
        (let no : is_some s.dropping ≡ false = ap is_some none in no)

-- ---- the endpoint to which a segment comes

reached : (me : EndpointId) (host : Host) (place : ℕ) (e : Endpoint) (test : Endpoint → Bool) → host ≡ me.host → place ≡ me.number → test e ≡ true
    → reaches me host (AtEndpoint place e) test ≡ true
reached me host place e test of number is =
    let same : place == me.number ≡ true = grind (arith, nat_tests, number) in
    ap (λ (b : Bool). b && place == me.number && test e) (ap (λ (g : Host). host_is g me.host) of ∙ self me.host)
    ∙ ap (λ (b : Bool). b && test e) same ∙ is
  where
    self : (g : Host) → host_is g g ≡ true
    self Zero = refl
    self One = refl

-- who is touched is the endpoint there
pub touched_there : (me : EndpointId) (host : Host) (b : HostTcp) (event : Event) (i : ℕ) (t : TouchedEndpoint) → t.host ≡ me.host → t.place ≡ me.number
    → at_place host b event i ≡ Some t → (host ≡ me.host) × (i ≡ me.number)
touched_there me host b event i t of number = by (slice_get b.endpoints i)
  where
    by : (o : Option Endpoint) → option_map (λ e. record { host = host; place = i; event = event; before = view_of e }) o ≡ Some t
        → (host ≡ me.host) × (i ≡ me.number)
    by None is = absurd (none-some t is)
    by (Some e) is =
        let one = same_Some (record { host = host; place = i; event = event; before = view_of e }) t is in
        (ap (λ (x : TouchedEndpoint). x.host) one ∙ of, ap (λ (x : TouchedEndpoint). x.place) one ∙ number)

news_of : (v : Version) (e : Endpoint) (m : Emission) → (says_sender v && (nat_lt 0 (segment_length m) || acknowledges_less v e m)) ≡ true
    → is_news v e m ≡ true
news_of v e m is =
    either (nat_lt 0 (segment_length m)) (says_sender v) (is_syn_sent e.state) (is_syn_received e.state) m.flags.ack m.flags.rst
    (nat_lt (as_read v e m).ack e.stream.snd_una) (both_true (says_sender v) _ is).1
  where
    either : (a s x y ack rst less : Bool) → (a || (s && not x && not y && ack && not rst && less)) ≡ true → (a || ack && not rst && less) ≡ true
    either true s x y ack rst less is = refl
    either false true false false ack rst less is = is
    either false false x y ack rst less is = absurd (let e : false ≡ true = is in cc)
    either false true true y ack rst less is = absurd (let e : false ≡ true = is in cc)
    either false true false true ack rst less is = absurd (let e : false ≡ true = is in cc)

module _ (h : Header) (moment : ℕ) (w : World tcp_shape) (fs : Flights) (me : EndpointId) (t : TouchedEndpoint) (of : t.host ≡ me.host)
    (number : t.place ≡ me.number) where
  abbrev Does_earn : Step tcp_shape → Type 0
  Does_earn step =
      (observe h moment w step).touched ≡ Some t → (excused h fs (observe h moment w step)).earns ≡ true → earns h w me step ≡ true

  never : (step : Step tcp_shape) → Idles (observe h moment w step) → Does_earn step
  never step i touches is =
      absurd (let e : false ≡ true = sym i.earns ∙ sym (earns_as_shown h fs (observe h moment w step) i.dropping) ∙ is in cc)

  by_taking : (host : Host) (line : ℕ) (how : TakeChoice) → Does_earn (At host (Takes line how))
  by_taking host line how = by (waiting line (pick w.hosts host).inbox)
    where
      b : HostTcp
      b = (pick w.hosts host).body

      at : (m : Emission) (k : Taker) → (observe_taking h host b line how m k).touched ≡ Some t
          → (excused h fs (observe_taking h host b line how m k)).earns ≡ true → reaches me host k (λ e. is_news h.version e m) ≡ true
      at m Nobody touches is = absurd (none-some t touches)
      at m (AtListener l) touches is =
          absurd (let e : false ≡ true = sym (earns_as_shown h fs (observe_taking h host b line how m (AtListener l)) refl) ∙ is in cc)
      at m (AtEndpoint i e) touches is =
          let here = touched_there me host b _ i t of number touches in
          reached me host i e (λ e. is_news h.version e m) here.0 here.1
          (news_of h.version e m (sym (earns_as_shown h fs (observe_taking h host b line how m (AtEndpoint i e)) refl) ∙ is))

      by : (o : Option Emission) → (on o unseen (λ m. observe_taking h host b line how m (taker b m))).touched ≡ Some t
          → (excused h fs (on o unseen (λ m. observe_taking h host b line how m (taker b m)))).earns ≡ true
          → on o false (λ m. reaches me host (taker b m) (λ e. is_news h.version e m)) ≡ true
      by None touches is = absurd (none-some t touches)
      by (Some m) touches is = at m (taker b m) touches is

  by_dropping : (host : Host) (line : ℕ) → Does_earn (At host (Drops line))
  by_dropping host line = by (waiting line (pick w.hosts host).inbox)
    where
      b : HostTcp
      b = (pick w.hosts host).body

      shown : Emission → Taker → Observation
      shown m k = observe_dropping h.version host b line (taking_breaks h moment w host line) (answering_breaks h w host line) m k

      at : (m : Emission) (k : Taker) → (shown m k).touched ≡ Some t → reaches me host k (λ e. true) ≡ true
      at m Nobody touches = absurd (none-some t touches)
      at m (AtListener l) touches = absurd (none-some t touches)
      at m (AtEndpoint i e) touches =
          let here = touched_there me host b _ i t of number touches in reached me host i e (λ e. true) here.0 here.1 refl

      by : (o : Option Emission) → (on o unseen (λ m. shown m (taker b m))).touched ≡ Some t
          → (excused h fs (on o unseen (λ m. shown m (taker b m)))).earns ≡ true
          → on o false (λ m. reaches me host (taker b m) (λ e. true)) ≡ true
      by None touches is = absurd (none-some t touches)
      by (Some m) touches is = at m (taker b m) touches

  pub does_earn : (step : Step tcp_shape) → Does_earn step
  does_earn (Begin line thread call) = never (Begin line thread call) (record { dropping = refl; earns = refl; sampling = refl })
  does_earn (Finish line thread answer) = never (Finish line thread answer) (record { dropping = refl; earns = refl; sampling = refl })
  does_earn (Effect thread answer) = never (Effect thread answer) (idle_effect h w thread answer (turn_of thread w.threads))
  does_earn (At host (Does x)) = never (At host (Does x)) (record { dropping = refl; earns = refl; sampling = refl })
  does_earn (At host (Expires line x)) = never (At host (Expires line x)) (record { dropping = refl; earns = refl; sampling = refl })
  does_earn (At host (Makes m)) = never (At host (Makes m)) (record { dropping = refl; earns = refl; sampling = refl })
  does_earn (At host (Sends line n wire)) =
      never (At host (Sends line n wire)) (idle_on (lookup (nat_eq n) (pick w.hosts host).made) _
      (λ m. record { dropping = refl; earns = refl; sampling = refl }))
  does_earn (At host (Gets line copied wire)) = never (At host (Gets line copied wire)) (record { dropping = refl; earns = refl; sampling = refl })
  does_earn (At host (Hears line wire)) = never (At host (Hears line wire)) (record { dropping = refl; earns = refl; sampling = refl })
  does_earn (At host (Takes line how)) = by_taking host line how
  does_earn (At host (Drops line)) = by_dropping host line
  does_earn (At host (Answers line)) = never (At host (Answers line)) (record { dropping = refl; earns = refl; sampling = refl })
