-- What a step leaves of the sockets of a host: what a call on one may be answered changes only where duties look.
use Rattle.std.proofs.Common.{◌≡◌, ℕ, zero, suc, ◌<◌, ◌≤◌, ◌⊎◌, inl, inr, Bool, true, false, cond, List, [], ◌∷◌, ◌++◌, length, map, Option, Some, None}
use Rattle.std.proofs.Common.{refl, ap, sym, subst, ◌∙◌, nat_eq, arith}
use Rattle.std.specs.Prelude.{if◌then◌else◌, ◌==◌, ◌&&◌, not, nat_le, slice_get, is_some}
use Rattle.std.specs.Map.{lookup}
use Rattle.std.specs.Option.{option_map, option_map_or}
use Rattle.std.proofs.lemmas.Bool.Decides.{nat_tests}
use Rattle.std.proofs.lemmas.Option.{none-some, same_Some}
use Rattle.indexmap.specs.IndexMap.{insert_entry}
use Rattle.case_forms.specs.States.{is_syn_received}
use Rattle.case_forms.specs.Versions.{says_sender}
use Rattle.case_forms.specs.declared.calls.Answer.{Answer}
use Rattle.case_forms.specs.declared.calls.Answer.TheVariants as answers
use Rattle.case_forms.specs.declared.calls.Call.{Call}
use Rattle.case_forms.specs.declared.calls.Call.TheVariants as calls
use Rattle.case_forms.specs.declared.calls.Host.{Host}
use Rattle.case_forms.specs.declared.calls.State.TheVariants as states
use Rattle.case_forms.specs.declared.steps.TakeChoice.{TakeChoice}
use Rattle.case_forms.specs.declared.trace.Header.{Header}
use Rattle.case_forms.specs.declared.version.Version.TheVariants.{Six}
use Rattle.streams.specs.Lists.{modify}
use Rattle.streams.specs.Received.{is_ended, waiting as waiting_bytes}
use Rattle.streams.proofs.Places.{get_append}
use Rattle.spec_network.proofs.Entries.{lookup_insert}
use Rattle.spec_network.specs.HostRules.{aim_of}
use Rattle.spec_network.specs.Hosts.{Turn, Idle, Called, Answered, ThatSocket, World, HostStep, Does, Expires, Makes, Sends}
use Rattle.spec_network.specs.Hosts.{Gets, Hears, Takes, Drops, Answers, Step, Begin, Finish, Effect, At, turn_of}
use Rattle.spec_network.specs.HostSteps.{host_step_after, call_after, effect_after, after}
use Rattle.spec_network.specs.Tables.{pick, on, other, waiting}
use Rattle.spec_tcp.specs.Arrives.{Taker, Nobody, AtListener, AtEndpoint, taker, endpoint_taken, after_taking}
use Rattle.spec_tcp.specs.Arrives.Listen.{child}
use Rattle.spec_tcp.specs.Arrives.OtherStates.Ack.{acknowledges_syn}
use Rattle.spec_tcp.specs.Calls.{after_call, change_target, endpoint_allows}
use Rattle.spec_tcp.specs.Calls.Accept.{accepted_from, after_accept, listener_allows}
use Rattle.spec_tcp.specs.Calls.Close.{after_abort, after_close, after_shut, orphaned, target_gone}
use Rattle.spec_tcp.specs.Calls.Receive.{after_recv}
use Rattle.spec_tcp.specs.Calls.Send.{after_send}
use Rattle.spec_tcp.specs.Endpoints.{new_endpoint, rcv_nxt}
use Rattle.spec_tcp.specs.Heard.{as_read}
use Rattle.spec_tcp.specs.HostTcp.{HostTcp, at_ports, dead, has_ended, if_live, place_of, queue_of, socket_target, with_endpoint}
use Rattle.spec_tcp.specs.Machine.{Calls, aim, gives, tcp, tcp_shape}
use Rattle.spec_tcp.specs.Makes.{after_making}
use Rattle.spec_tcp.specs.Recovery.{after_recovery}
use Rattle.spec_tcp.specs.Signals.{profile_of}
use Rattle.spec_tcp.specs.Timeouts.{after_expiry}
use Rattle.spec_tcp.specs.declared.endpoint.Emission.{Emission}
use Rattle.spec_tcp.specs.declared.endpoint.Endpoint.{Endpoint}
use Rattle.spec_tcp.specs.declared.endpoint.Listener.{Listener}
use Rattle.spec_tcp.specs.declared.endpoint.Socket.{Socket}
use Rattle.spec_tcp.specs.declared.endpoint.SocketTarget.{SocketTarget}
use Rattle.spec_tcp.specs.declared.endpoint.SocketTarget.TheVariants.{ListenerAt, EndpointAt}
use Rattle.spec_tcp.specs.declared.endpoint.Stream.{Stream}
use Rattle.spec_tcp_laws.proofs.Moves.{map_onward, modify_each, with_cases}
use Rattle.spec_tcp_laws.proofs.Rules.{map_or_cases}
use Rattle.spec_tcp_laws.proofs.Sound.{queue_push}
use Rattle.spec_tcp_laws.proofs.Takes.{taker_there}
use Rattle.spec_duties.specs.Answering.{answering, call_for, closing, may_wait, waiting_on}
use Rattle.spec_duties.specs.Views.{view_of}
use Rattle.spec_duties.specs.declared.events.Event.{Event}
use Rattle.spec_duties.specs.Observations.{at_place, observe, observe_call, observe_host_step, observe_open, unseen}
use Rattle.spec_duties.specs.Observations as observations
use Rattle.spec_duties.specs.declared.answering.Awaited.{Awaited}
use Rattle.spec_duties.specs.declared.answering.Awaited.TheVariants as awaits
use Rattle.spec_duties.specs.declared.answering.CallChange.TheVariants as call_change
use Rattle.spec_duties.specs.declared.answering.SocketChange.TheVariants as socket_change
use Rattle.spec_duties.specs.declared.answering.Waiting.{Waiting}
use Rattle.spec_duties.specs.declared.events.Event.TheVariants as events
use Rattle.spec_duties.specs.declared.observations.Observation.{Observation}
use Rattle.spec_duties.specs.declared.observations.TouchedEndpoint.{TouchedEndpoint}

-- ---- what may be answered `again`

-- an endpoint stays in all that `again` depends on
pub record Alike (e f : Endpoint) : Type 0 where
  pub fault : f.fault ≡ e.fault
  pub stream : f.stream ≡ e.stream

alike : (e : Endpoint) → Alike e e
alike e = record { fault = refl; stream = refl }

allows_alike : (e f : Endpoint) → Alike e f → (awaited : Awaited)
    → endpoint_allows Six f (call_for awaited) answers.Again ≡ endpoint_allows Six e (call_for awaited) answers.Again
allows_alike e f same awaits.Bytes = λ i.
    not (is_some (same.fault i)) && length (waiting_bytes (same.stream i).receive) == 0
    && not (is_ended (same.stream i).receive && length (waiting_bytes (same.stream i).receive) == 0)
allows_alike e f same awaits.Connection = λ i.
    not (is_some (same.fault i)) && not (is_up_by (same.stream i))
  where
    is_up_by : Stream → Bool
    is_up_by s = nat_le 1 s.snd_una && nat_le 1 (rcv_nxt (record e { stream = s }))
allows_alike e f same awaits.Child = refl

-- what a step of a host does to its sockets: `looks`: what duties look at again; `gives`: the number is new
pub record Looks (b c : HostTcp) (looks : SocketTarget → Type 0) (new : ℕ → Type 0) : Type 0 where
  pub endpoints : (i : ℕ) (e : Endpoint) → slice_get b.endpoints i ≡ Some e
      → (f : Endpoint) × (slice_get c.endpoints i ≡ Some f) × (looks (EndpointAt i) ⊎ Alike e f)
  pub listeners : (l : ℕ) → looks (ListenerAt l) ⊎ ((has_ended c l ≡ has_ended b l) × (queue_of c l ≡ queue_of b l))
  pub grows : length b.listeners ≤ length c.listeners
  pub sockets : (n : ℕ) (target : SocketTarget) → socket_target c n ≡ Some target
      → (socket_target b n ≡ Some target)
      ⊎ (new n × ((l : ℕ) → target ≡ ListenerAt l → (length b.listeners ≤ l) × (l < length c.listeners)))

-- so a call may be answered `again` after it if it might before, where they don't look
pub may_stays : {b c : HostTcp} {looks : SocketTarget → Type 0} {new : ℕ → Type 0} → Looks b c looks new → (target : SocketTarget)
    → looks target ⊎ ((awaited : Awaited) → may_wait c target awaited ≡ false → may_wait b target awaited ≡ false)
may_stays {b} {c} {looks} {new} s (ListenerAt l) = by (s.listeners l)
  where
    by : looks (ListenerAt l) ⊎ ((has_ended c l ≡ has_ended b l) × (queue_of c l ≡ queue_of b l))
        → looks (ListenerAt l) ⊎ ((awaited : Awaited) → may_wait c (ListenerAt l) awaited ≡ false → may_wait b (ListenerAt l) awaited ≡ false)
    by (inl seen) = inl seen
    by (inr same) = inr (λ awaited none. sym (λ i. listener_allows Six (same.0 i) (same.1 i) (call_for awaited) answers.Again) ∙ none)
may_stays {b} {c} {looks} {new} s (EndpointAt i) = by (slice_get b.endpoints i) refl
  where
    by : (o : Option Endpoint) → slice_get b.endpoints i ≡ o
        → looks (EndpointAt i) ⊎ ((awaited : Awaited) → may_wait c (EndpointAt i) awaited ≡ false
        → option_map_or (λ e. endpoint_allows Six e (call_for awaited) answers.Again) o false ≡ false)
    by None is = inr (λ awaited none. refl)
    by (Some e) is = at (s.endpoints i e is)
      where
        at : (f : Endpoint) × (slice_get c.endpoints i ≡ Some f) × (looks (EndpointAt i) ⊎ Alike e f)
            → looks (EndpointAt i) ⊎ ((awaited : Awaited) → may_wait c (EndpointAt i) awaited ≡ false
            → endpoint_allows Six e (call_for awaited) answers.Again ≡ false)
        at (f, there, inl seen) = inl seen
        at (f, there, inr same) = inr (λ awaited none. sym (allows_alike e f same awaited)
            ∙ sym (ap (λ (o : Option Endpoint). option_map_or (λ e. endpoint_allows Six e (call_for awaited) answers.Again) o false) there) ∙ none)

-- ---- tables

-- one listener changes: this one, or it stays
one_listener : (f : Listener → Listener) (ls : List Listener) (l k : ℕ) → (k ≡ l) ⊎ (slice_get (modify ls l f) k ≡ slice_get ls k)
one_listener f [] l k = inr refl
one_listener f (x ∷ ls) zero zero = inl refl
one_listener f (x ∷ ls) zero (suc k) = inr refl
one_listener f (x ∷ ls) (suc l) zero = inr refl
one_listener f (x ∷ ls) (suc l) (suc k) = by (one_listener f ls l k)
  where
    by : (k ≡ l) ⊎ (slice_get (modify ls l f) k ≡ slice_get ls k) → (suc k ≡ suc l) ⊎ (slice_get (modify ls l f) k ≡ slice_get ls k)
    by (inl same) = inl (ap (λ (n : ℕ). suc n) same)
    by (inr stays) = inr stays

as_many : (f : Listener → Listener) (ls : List Listener) (l : ℕ) → length (modify ls l f) ≡ length ls
as_many f [] l = refl
as_many f (x ∷ ls) zero = refl
as_many f (x ∷ ls) (suc l) = ap (λ (n : ℕ). suc n) (as_many f ls l)

one_more : (ls : List Listener) (x : Listener) → length (ls ++ x ∷ []) ≡ suc (length ls)
one_more [] x = refl
one_more (y ∷ ls) x = ap (λ (n : ℕ). suc n) (one_more ls x)

ended_push : (ls : List Listener) (x : Listener) (l : ℕ) → not x.is_open ≡ false
    → option_map_or (λ (y : Listener). not y.is_open) (slice_get (ls ++ x ∷ []) l) false
    ≡ option_map_or (λ (y : Listener). not y.is_open) (slice_get ls l) false
ended_push [] x zero e = e
ended_push [] x (suc l) e = refl
ended_push (y ∷ ls) x zero e = refl
ended_push (y ∷ ls) x (suc l) e = ended_push ls x l e

-- a socket number after one was given
sockets_given : (b : HostTcp) (n : ℕ) (target : SocketTarget) (m : ℕ) (t : SocketTarget)
    → option_map_or if_live (lookup (nat_eq m) (insert_entry nat_eq b.sockets n (record { target = target; live = true }))) None ≡ Some t
    → (socket_target b m ≡ Some t) ⊎ ((m ≡ n) × (target ≡ t))
sockets_given b n target m t is =
    by (nat_eq m n) refl (sym (ap (λ (o : Option Socket). option_map_or if_live o None) (lookup_insert m n s b.sockets)) ∙ is)
  where
    s : Socket
    s = record { target = target; live = true }

    by : (c : Bool) → nat_eq m n ≡ c → option_map_or if_live (cond c (Some s) (lookup (nat_eq m) b.sockets)) None ≡ Some t
        → (socket_target b m ≡ Some t) ⊎ ((m ≡ n) × (target ≡ t))
    by true same live = inr (grind (arith, nat_tests, same), same_Some target t live)
    by false other live = inl live

-- after one was closed
sockets_dead : (b : HostTcp) (n m : ℕ) (t : SocketTarget) → option_map_or if_live (lookup (nat_eq m) (dead b.sockets n)) None ≡ Some t
    → socket_target b m ≡ Some t
sockets_dead b n m t = by (lookup (nat_eq n) b.sockets)
  where
    gone : Socket → Socket
    gone s = record s { live = false }

    at : (s : Socket) (c : Bool) → option_map_or if_live (cond c (Some (gone s)) (lookup (nat_eq m) b.sockets)) None ≡ Some t → socket_target b m ≡ Some t
    at s true live = absurd (none-some t live)
    at s false live = live

    by : (o : Option Socket)
        → option_map_or if_live (lookup (nat_eq m) (option_map_or (λ s. insert_entry nat_eq b.sockets n (record s { live = false })) o b.sockets)) None ≡ Some t
        → socket_target b m ≡ Some t
    by None live = live
    by (Some s) live = at s (nat_eq m n) (sym (ap (λ (o : Option Socket). option_map_or if_live o None) (lookup_insert m n (gone s) b.sockets)) ∙ live)

-- ---- where duties look

pub data Sees (s : Observation) (host : Host) (target : SocketTarget) : Type 0 where
  at_endpoint : (t : TouchedEndpoint) → s.touched ≡ Some t → t.host ≡ host → target ≡ EndpointAt t.place → Sees s host target
  at_listener : (t : TouchedEndpoint) (l : ℕ) → s.touched ≡ Some t → t.host ≡ host → t.before.listener ≡ Some l → target ≡ ListenerAt l
      → Sees s host target
  at_answer : (thread : ℕ) (x : Waiting) → s.call_change ≡ call_change.Answers thread (Some x) → x.host ≡ host → x.target ≡ target
      → Sees s host target
  at_shut : s.socket_change ≡ socket_change.Shuts host target → Sees s host target
  at_close : s.socket_change ≡ socket_change.Closes host target → Sees s host target

abbrev pub IsGiven : Observation → Host → ℕ → Type 0
IsGiven s host n = s.socket_change ≡ socket_change.Gives host n

abbrev pub Kept : Observation → Host → HostTcp → HostTcp → Type 0
Kept s host b c = Looks b c (Sees s host) (IsGiven s host)

module _ (s : Observation) (host : Host) where
  kept_not : (b : HostTcp) → Kept s host b b
  kept_not b = record {
    endpoints = λ i e at. (e, at, inr (alike e));
    listeners = λ l. inr (refl, refl);
    grows = omega arith;
    sockets = λ n target is. inl is;
  }

  kept_endpoints : (b : HostTcp) (fs : List Endpoint)
      → ((i : ℕ) (e : Endpoint) → slice_get b.endpoints i ≡ Some e
      → (f : Endpoint) × (slice_get fs i ≡ Some f) × (Sees s host (EndpointAt i) ⊎ Alike e f))
      → Kept s host b (record b { endpoints = fs })
  kept_endpoints b fs each = record {
    endpoints = each;
    listeners = λ l. inr (refl, refl);
    grows = omega arith;
    sockets = λ n target is. inl is;
  }

  each_of : (es : List Endpoint) (i : ℕ) (f : Endpoint → Endpoint)
      → ((e : Endpoint) → slice_get es i ≡ Some e → Sees s host (EndpointAt i) ⊎ Alike e (f e)) → (j : ℕ) (e : Endpoint) → slice_get es j ≡ Some e
      → (g : Endpoint) × (slice_get (modify es i f) j ≡ Some g) × (Sees s host (EndpointAt j) ⊎ Alike e g)
  each_of es i f new = modify_each (λ j e g. Sees s host (EndpointAt j) ⊎ Alike e g) f es i (λ j e at n. inr (alike e)) new

  place_seen : (b : HostTcp) (event : Event) (i : ℕ) → s.touched ≡ at_place host b event i → (e : Endpoint) → slice_get b.endpoints i ≡ Some e
      → Sees s host (EndpointAt i)
  place_seen b event i touches e there =
      at_endpoint (record { host = host; place = i; event = event; before = view_of e })
      (touches ∙ ap (λ (o : Option Endpoint). option_map (λ e. record { host = host; place = i; event = event; before = view_of e }) o) there) refl refl

  kept_touched : (b : HostTcp) (event : Event) (i : ℕ) (f : Endpoint → Endpoint) → s.touched ≡ at_place host b event i
      → Kept s host b (with_endpoint b i f)
  kept_touched b event i f touches =
      kept_endpoints b (modify b.endpoints i f) (each_of b.endpoints i f (λ e there. inl (place_seen b event i touches e there)))

  kept_ports : (b : HostTcp) (event : Event) (lport rport : ℕ) (f : Endpoint → Endpoint) → s.touched ≡ observations.at_ports host b event lport rport
      → Kept s host b (at_ports b lport rport f)
  kept_ports b event lport rport f touches =
      map_or_cases (λ (x : HostTcp). Kept s host b x) (place_of b lport rport) b (λ i. with_endpoint b i f) (λ e. kept_not b)
      (λ i is. kept_touched b event i f (touches ∙ ap (λ (o : Option ℕ). option_map_or (at_place host b event) o None) is))

  -- a listener changes where duties look
  kept_listener : (b : HostTcp) (fs : List Endpoint) (l : ℕ) (g : Listener → Listener)
      → ((i : ℕ) (e : Endpoint) → slice_get b.endpoints i ≡ Some e
      → (f : Endpoint) × (slice_get fs i ≡ Some f) × (Sees s host (EndpointAt i) ⊎ Alike e f))
      → Sees s host (ListenerAt l) → Kept s host b (record b { endpoints = fs; listeners = modify b.listeners l g })
  kept_listener b fs l g each seen = record {
    endpoints = each;
    listeners = λ k. by k (one_listener g b.listeners l k);
    grows = (let same = as_many g b.listeners l in omega (arith, same));
    sockets = λ n target is. inl is;
  }
    where
      by : (k : ℕ) → (k ≡ l) ⊎ (slice_get (modify b.listeners l g) k ≡ slice_get b.listeners k)
          → Sees s host (ListenerAt k)
          ⊎ ((option_map_or (λ (x : Listener). not x.is_open) (slice_get (modify b.listeners l g) k) false ≡ has_ended b k)
          × (option_map_or (λ (x : Listener). x.queue) (slice_get (modify b.listeners l g) k) [] ≡ queue_of b k))
      by k (inl same) = inl (subst (λ (n : ℕ). Sees s host (ListenerAt n)) (sym same) seen)
      by k (inr stays) = inr (
        ap (λ (o : Option Listener). option_map_or (λ (x : Listener). not x.is_open) o false) stays,
        ap (λ (o : Option Listener). option_map_or (λ (x : Listener). x.queue) o []) stays,
      )

-- ---- the steps of a host

module _ (h : Header) (moment : ℕ) (w : World tcp_shape) (host : Host) where
  abbrev b : HostTcp
  b = (pick w.hosts host).body

  -- who processes a segment
  kept_taking : (line : ℕ) (how : TakeChoice) (m : Emission) (t : Taker) → taker b m ≡ t
      → Kept (observations.observe_taking h host b line how m t) host b (after_taking h b how m moment t)
  kept_taking line how m Nobody is = kept_not (observations.observe_taking h host b line how m Nobody) host b
  kept_taking line how m (AtListener l) is =
      kept_endpoints (observations.observe_taking h host b line how m (AtListener l)) host b (b.endpoints ++ child (profile_of h) l how m moment ∷ [])
      (λ i e at. (e, get_append b.endpoints (child (profile_of h) l how m moment ∷ []) i e at, inr (alike e)))
  kept_taking line how m (AtEndpoint i e) is = go (is_syn_received e.state && acknowledges_syn e r) e.listener refl
    where
      r : Emission
      r = as_read h.version e m

      s : Observation
      s = observations.observe_taking h host b line how m (AtEndpoint i e)

      fs : List Endpoint
      fs = modify b.endpoints i (λ x. endpoint_taken h x how r moment)

      each : (j : ℕ) (x : Endpoint) → slice_get b.endpoints j ≡ Some x
          → (f : Endpoint) × (slice_get fs j ≡ Some f) × (Sees s host (EndpointAt j) ⊎ Alike x f)
      each =
          each_of s host b.endpoints i (λ x. endpoint_taken h x how r moment)
          (λ x there. inl (place_seen s host b (observations.processing_of m) i refl x there))

      shown : s.touched ≡ Some (record { host = host; place = i; event = observations.processing_of m; before = view_of e })
      shown =
          ap (λ (o : Option Endpoint). option_map (λ e. record { host = host; place = i; event = observations.processing_of m; before = view_of e }) o)
          (taker_there b m i e is)

      go : (c : Bool) (o : Option ℕ) → e.listener ≡ o
          → Kept s host b (record b {
            endpoints = fs;
            listeners = if c then option_map_or (λ l. modify b.listeners l (λ x. record x { queue = x.queue ++ i ∷ [] })) o b.listeners
                else b.listeners;
          })
      go false o his = kept_endpoints s host b fs each
      go true None his = kept_endpoints s host b fs each
      go true (Some l) his =
          kept_listener s host b fs l (λ x. record x { queue = x.queue ++ i ∷ [] }) each
          (at_listener (record { host = host; place = i; event = observations.processing_of m; before = view_of e }) l shown refl his refl)

  abbrev after_host : HostStep tcp_shape → HostTcp
  after_host d = (host_step_after (tcp h) host moment (suc w.count) (pick w.hosts (other host)).wire (pick w.hosts host) d).body

  kept_host_step : (d : HostStep tcp_shape) → Kept (observe h moment w (At host d)) host b (after_host d)
  kept_host_step (Does x) =
      kept_ports (observe h moment w (At host (Does x))) host b (events.Recovers x.change) x.lport x.rport
      (λ e. after_recovery e x.change x.cwnd x.ssthresh moment) refl
  kept_host_step (Expires line x) =
      kept_ports (observe h moment w (At host (Expires line x))) host b _ x.lport x.rport (λ e. after_expiry e x.expired moment) refl
  kept_host_step (Makes m) =
      kept_ports (observe h moment w (At host (Makes m))) host b (events.Builds m) m.lport m.rport (λ e. after_making e m moment) refl
  kept_host_step (Sends line number wire) = kept_not (observe h moment w (At host (Sends line number wire))) host b
  kept_host_step (Gets line copied wire) = kept_not (observe h moment w (At host (Gets line copied wire))) host b
  kept_host_step (Hears line wire) = kept_not (observe h moment w (At host (Hears line wire))) host b
  kept_host_step (Takes line how) = by (waiting line (pick w.hosts host).inbox)
    where
      by : (o : Option Emission)
          → Kept (on o unseen (λ m. observations.observe_taking h host b line how m (taker b m))) host b
          (on o b (λ m. after_taking h b how m moment (taker b m)))
      by None = kept_not unseen host b
      by (Some m) = kept_taking line how m (taker b m) refl
  kept_host_step (Drops line) = kept_not (observe h moment w (At host (Drops line))) host b
  kept_host_step (Answers line) = by (waiting line (pick w.hosts host).inbox)
    where
      by : (o : Option Emission) → Kept (observe h moment w (At host (Answers line))) host b (on o b (λ m. b))
      by None = kept_not (observe h moment w (At host (Answers line))) host b
      by (Some m) = kept_not (observe h moment w (At host (Answers line))) host b

-- ---- calls

module _ (h : Header) (w : World tcp_shape) (thread : ℕ) (host : Host) where
  abbrev c : HostTcp
  c = (pick w.hosts host).body

  -- what an open call with this answer shows, at the host that it applies to
  abbrev pub effect_shown : Call → Answer → Observation
  effect_shown call answer =
      record (observe_call host c call answer) {
        call_change = answering h w thread answer call;
        socket_change = on (gives call answer) (closing host c answer call) (socket_change.Gives host);
      }

  pub waits_at : (awaited : Awaited) (n : ℕ) (target : SocketTarget) → aim_of (tcp h) w.hosts (ThatSocket n) ≡ Some host
      → socket_target c n ≡ Some target → waiting_on h w awaited n ≡ Some (record { host = host; target = target; awaited = awaited })
  waits_at awaited n target aims is =
      ap (λ (o : Option Host). on o None (λ host. option_map (λ target. record { host = host; target = target; awaited = awaited })
      (socket_target (pick w.hosts host).body n))) aims
      ∙ ap (λ (o : Option SocketTarget). option_map (λ target. record { host = host; target = target; awaited = awaited }) o) is

  orphaned_alike : (l : ℕ) (e : Endpoint) → Alike e (orphaned l e)
  orphaned_alike l e = by (option_map_or (λ holder. holder == l) e.listener false)
    where
      by : (c : Bool) → Alike e (if c then after_abort e else e)
      by true = record { fault = refl; stream = refl }
      by false = alike e

  -- a target is shut, closed or aborted
  kept_gone : (s : Observation) (n : ℕ) (f : Endpoint → Endpoint) (sockets : List (ℕ × Socket))
      → ((m : ℕ) (t : SocketTarget) → option_map_or if_live (lookup (nat_eq m) sockets) None ≡ Some t → socket_target c m ≡ Some t)
      → ((l : ℕ) → socket_target c n ≡ Some (ListenerAt l) → Sees s host (ListenerAt l))
      → ((i : ℕ) → socket_target c n ≡ Some (EndpointAt i) → (event : Event) × (s.touched ≡ at_place host c event i))
      → Kept s host c (option_map_or (λ target. record (target_gone c target f) { sockets = sockets }) (socket_target c n) c)
  kept_gone s n f sockets live seen touches =
      map_or_cases (λ (x : HostTcp). Kept s host c x) (socket_target c n) c (λ target. record (target_gone c target f) { sockets = sockets })
      (λ e. kept_not s host c) go
    where
      go : (target : SocketTarget) → socket_target c n ≡ Some target → Kept s host c (record (target_gone c target f) { sockets = sockets })
      go (ListenerAt l) is =
          let k =
          kept_listener s host c (map (orphaned l) c.endpoints) l (λ x. record x { is_open = false })
          (map_onward (λ j e f. Sees s host (EndpointAt j) ⊎ Alike e f) (orphaned l) c.endpoints (λ j e at. inr (orphaned_alike l e))) (seen l is) in
          record { endpoints = k.endpoints; listeners = k.listeners; grows = k.grows; sockets = λ m t now. inl (live m t now) }
      go (EndpointAt i) is =
          let t = touches i is in
          let k = kept_touched s host c t.0 i f t.1 in
          record { endpoints = k.endpoints; listeners = k.listeners; grows = k.grows; sockets = λ m t now. inl (live m t now) }

  -- the endpoint of a live socket number changes
  kept_change : (s : Observation) (n : ℕ) (f : Endpoint → Endpoint)
      → ((i : ℕ) → socket_target c n ≡ Some (EndpointAt i) → (e : Endpoint) → slice_get c.endpoints i ≡ Some e → Sees s host (EndpointAt i))
      → Kept s host c (option_map_or (change_target c f) (socket_target c n) c)
  kept_change s n f seen =
      map_or_cases (λ (x : HostTcp). Kept s host c x) (socket_target c n) c (change_target c f) (λ e. kept_not s host c) go
    where
      go : (target : SocketTarget) → socket_target c n ≡ Some target → Kept s host c (change_target c f target)
      go (ListenerAt l) is = kept_not s host c
      go (EndpointAt i) is = kept_endpoints s host c (modify c.endpoints i f) (each_of s host c.endpoints i f (λ e there. inl (seen i is e there)))

  kept_accept : (n k : ℕ) → aim_of (tcp h) w.hosts (ThatSocket n) ≡ Some host
      → Kept (effect_shown (calls.Accept n) (answers.Given k)) host c (option_map_or (after_accept c k) (socket_target c n) c)
  kept_accept n k aims =
      map_or_cases (λ (x : HostTcp). Kept s host c x) (socket_target c n) c (after_accept c k) (λ e. kept_not s host c) go
    where
      s : Observation
      s = effect_shown (calls.Accept n) (answers.Given k)

      from : (l : ℕ) (queue : List ℕ) → socket_target c n ≡ Some (ListenerAt l) → Kept s host c (accepted_from c l k queue)
      from l [] is = kept_not s host c
      from l (child ∷ queue) is =
          let each =
          each_of s host c.endpoints child (λ e. record e { listener = None }) (λ e there. inr (record { fault = refl; stream = refl })) in
          let x =
          kept_listener s host c (modify c.endpoints child (λ e. record e { listener = None })) l (λ x. record x { queue = queue }) each
          (at_answer thread (record { host = host; target = ListenerAt l; awaited = awaits.Child })
          (ap (λ (o : Option Waiting). call_change.Answers thread o) (waits_at awaits.Child n (ListenerAt l) aims is)) refl refl) in
          record {
            endpoints = x.endpoints;
            listeners = x.listeners;
            grows = x.grows;
            sockets = λ m t now. new m t (sockets_given c k (EndpointAt child) m t now);
          }
        where
          new : (m : ℕ) (t : SocketTarget) → (socket_target c m ≡ Some t) ⊎ ((m ≡ k) × (EndpointAt child ≡ t))
              → (socket_target c m ≡ Some t)
              ⊎ (IsGiven s host m × ((q : ℕ) → t ≡ ListenerAt q → (length c.listeners ≤ q)
              × (q < length (modify c.listeners l (λ x. record x { queue = queue })))))
          new m t (inl old) = inl old
          new m t (inr here) = inr (ap (socket_change.Gives host) (sym here.0), λ q is. absurd (let e : EndpointAt child ≡ ListenerAt q = here.1 ∙ is in cc))

      go : (target : SocketTarget) → socket_target c n ≡ Some target → Kept s host c (after_accept c k target)
      go (EndpointAt i) is = kept_not s host c
      go (ListenerAt l) is = from l (queue_of c l) is

  kept_listen : (at : Host) (port backlog n : ℕ)
      → Kept (effect_shown (calls.Listen at port backlog) (answers.Given n)) host c
      (after_call (profile_of h) c (calls.Listen at port backlog) (answers.Given n))
  kept_listen at port backlog n = record {
    endpoints = λ i e there. (e, there, inr (alike e));
    listeners = λ l. inr (ended_push c.listeners new l refl, queue_push c.listeners new l refl);
    grows = (let more = one_more c.listeners new in omega (arith, more));
    sockets = λ m t now. by m t (sockets_given c n (ListenerAt (length c.listeners)) m t now);
  }
    where
      new : Listener
      new = record { port = port; backlog = backlog; is_open = true; queue = [] }

      by : (m : ℕ) (t : SocketTarget) → (socket_target c m ≡ Some t) ⊎ ((m ≡ n) × (ListenerAt (length c.listeners) ≡ t))
          → (socket_target c m ≡ Some t)
          ⊎ (IsGiven (effect_shown (calls.Listen at port backlog) (answers.Given n)) host m
          × ((l : ℕ) → t ≡ ListenerAt l → (length c.listeners ≤ l) × (l < length (c.listeners ++ new ∷ []))))
      by m t (inl old) = inl old
      by m t (inr here) = inr (
        ap (socket_change.Gives host) (sym here.0),
        λ l is.
            let one : length c.listeners ≡ l = let e : ListenerAt (length c.listeners) ≡ ListenerAt l = here.1 ∙ is in cc in
            let more = one_more c.listeners new in
            (omega (arith, one), omega (arith, one, more)),
      )

  kept_connect : (at : Host) (lport rport n : ℕ)
      → Kept (effect_shown (calls.Connect at lport rport) (answers.Given n)) host c
      (after_call (profile_of h) c (calls.Connect at lport rport) (answers.Given n))
  kept_connect at lport rport n = record {
    endpoints = λ i e there. (e, get_append c.endpoints (new_endpoint lport rport None states.SynSent (profile_of h) ∷ []) i e there, inr (alike e));
    listeners = λ l. inr (refl, refl);
    grows = omega arith;
    sockets = λ m t now. by m t (sockets_given c n (EndpointAt (length c.endpoints)) m t now);
  }
    where
      by : (m : ℕ) (t : SocketTarget) → (socket_target c m ≡ Some t) ⊎ ((m ≡ n) × (EndpointAt (length c.endpoints) ≡ t))
          → (socket_target c m ≡ Some t)
          ⊎ (IsGiven (effect_shown (calls.Connect at lport rport) (answers.Given n)) host m
          × ((l : ℕ) → t ≡ ListenerAt l → (length c.listeners ≤ l) × (l < length c.listeners)))
      by m t (inl old) = inl old
      by m t (inr here) = inr (
        ap (socket_change.Gives host) (sym here.0),
        λ l is. absurd (let e : EndpointAt (length c.endpoints) ≡ ListenerAt l = here.1 ∙ is in cc),
      )

  kept_call : (call : Call) (answer : Answer) → aim_of (tcp h) w.hosts (aim call) ≡ Some host
      → Kept (effect_shown call answer) host c (after_call (profile_of h) c call answer)
  kept_call (calls.Listen at port backlog) (answers.Given n) aims = kept_listen at port backlog n
  kept_call (calls.Connect at lport rport) (answers.Given n) aims = kept_connect at lport rport n
  kept_call (calls.Accept n) (answers.Given k) aims = kept_accept n k aims
  kept_call (calls.Send n bytes) (answers.Given k) aims =
      kept_change (effect_shown (calls.Send n bytes) (answers.Given k)) n (after_send bytes k)
      (λ i is e there. place_seen (effect_shown (calls.Send n bytes) (answers.Given k)) host c (events.Calls false) i
      (ap (λ (o : Option SocketTarget). (on o unseen (observations.observe_other host c)).touched) is) e there)
  kept_call (calls.Recv n most) (answers.Bytes bytes) aims =
      kept_change (effect_shown (calls.Recv n most) (answers.Bytes bytes)) n (after_recv bytes)
      (λ i is e there. at_answer thread (record { host = host; target = EndpointAt i; awaited = awaits.Bytes })
      (ap (λ (o : Option Waiting). call_change.Answers thread o) (waits_at awaits.Bytes n (EndpointAt i) aims is)) refl refl)
  kept_call (calls.Shut n) answers.Done aims =
      kept_gone (effect_shown (calls.Shut n) answers.Done) n after_shut c.sockets (λ m t now. now)
      (λ l is. at_shut (ap (λ (o : Option SocketTarget). option_map_or (socket_change.Shuts host) o socket_change.Nothing) is))
      (λ i is. (events.Calls false, ap (λ (o : Option SocketTarget). (on o unseen (observations.observe_close host c false answers.Done)).touched) is))
  kept_call (calls.Close n) answers.Done aims =
      kept_gone (effect_shown (calls.Close n) answers.Done) n after_close (dead c.sockets n) (sockets_dead c n)
      (λ l is. at_close (ap (λ (o : Option SocketTarget). option_map_or (socket_change.Closes host) o socket_change.Nothing) is))
      (λ i is. (events.Calls false, ap (λ (o : Option SocketTarget). (on o unseen (observations.observe_close host c false answers.Done)).touched) is))
  kept_call (calls.Abort n) answers.Done aims =
      kept_gone (effect_shown (calls.Abort n) answers.Done) n after_abort (dead c.sockets n) (sockets_dead c n)
      (λ l is. at_close (ap (λ (o : Option SocketTarget). option_map_or (socket_change.Closes host) o socket_change.Nothing) is))
      (λ i is. (events.Calls true, ap (λ (o : Option SocketTarget). (on o unseen (observations.observe_close host c true answers.Done)).touched) is))
  kept_call call answer aims = kept_not (effect_shown call answer) host c

-- ---- both hosts

module _ (h : Header) (moment : ℕ) (w : World tcp_shape) (six : says_sender h.version ≡ true) where
  -- what an effect shows
  pub shows_effect : (thread : ℕ) (answer : Answer) (call : Call) (host : Host) → turn_of thread w.threads ≡ Called call
      → aim_of (tcp h) w.hosts (aim call) ≡ Some host → observe h moment w (Effect thread answer) ≡ effect_shown h w thread host call answer
  shows_effect thread answer call host turn aims =
      ap (observations.observe_effect h w thread answer) turn
      ∙ ap (λ (o : Option Host). with o (says_sender h.version)) aims
      ∙ ap (λ (v : Bool). with (Some host) v) six
    where
      with : Option Host → Bool → Observation
      with o v =
          record (on o unseen (λ host. observe_call host (pick w.hosts host).body call answer)) {
            call_change = if v then answering h w thread answer call else call_change.Nothing;
            socket_change =
                if v then on o socket_change.Nothing
                (λ host. on (gives call answer) (closing host (pick w.hosts host).body answer call) (socket_change.Gives host))
                else socket_change.Nothing;
          }

  abbrev pub BothKept : Step tcp_shape → Type 0
  BothKept step = (x : Host) → Kept (observe h moment w step) x (pick w.hosts x).body (pick (after (tcp h) moment w step).hosts x).body

  pub both_kept : (step : Step tcp_shape) → BothKept step
  both_kept (Begin line t call) = λ x. kept_not (observe h moment w (Begin line t call)) x (pick w.hosts x).body
  both_kept (Finish line t answer) = λ x. kept_not (observe h moment w (Finish line t answer)) x (pick w.hosts x).body
  both_kept (At host d) =
      with_cases w.hosts host (host_step_after (tcp h) host moment (suc w.count) (pick w.hosts (other host)).wire (pick w.hosts host) d)
      (λ x k. Kept (observe h moment w (At host d)) x (pick w.hosts x).body k.body) (kept_host_step h moment w host d)
      (kept_not (observe h moment w (At host d)) (other host) (pick w.hosts (other host)).body)
  both_kept (Effect t answer) = turned (turn_of t w.threads) refl
    where
      s : Observation
      s = observe h moment w (Effect t answer)

      aimed : (call : Call) → turn_of t w.threads ≡ Called call → (o : Option Host) → aim_of (tcp h) w.hosts (aim call) ≡ o
          → (x : Host) → Kept s x (pick w.hosts x).body (pick (call_after (tcp h) moment w.hosts (Calls call answer) o) x).body
      aimed call turn None is x = kept_not s x (pick w.hosts x).body
      aimed call turn (Some host) is x =
          with_cases w.hosts host (record (pick w.hosts host) { body = after_call (profile_of h) (pick w.hosts host).body call answer })
          (λ x k. Kept s x (pick w.hosts x).body k.body)
          (subst (λ (s : Observation). Kept s host (pick w.hosts host).body (after_call (profile_of h) (pick w.hosts host).body call answer))
          (sym (shows_effect t answer call host turn is)) (kept_call h w t host call answer is))
          (kept_not s (other host) (pick w.hosts (other host)).body) x

      turned : (u : Turn tcp_shape) → turn_of t w.threads ≡ u
          → (x : Host) → Kept s x (pick w.hosts x).body (pick (effect_after (tcp h) moment w t answer u).hosts x).body
      turned Idle is x = kept_not s x (pick w.hosts x).body
      turned (Called call) is x = aimed call is (aim_of (tcp h) w.hosts (aim call)) refl x
      turned (Answered given) is x = kept_not s x (pick w.hosts x).body
