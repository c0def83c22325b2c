-- A step leaves each endpoint as it was that it does not affect.
use Rattle.std.proofs.Common.{◌≡◌, ◌<◌, ◌⊎◌, ℕ, zero, suc, Bool, true, false, List, [], ◌∷◌, ◌++◌, length, map, Option}
use Rattle.std.proofs.Common.{None, Some, refl, ap, sym, ◌∙◌, subst, inl, inr, arith}
use Rattle.std.specs.Prelude.{slice_get, if◌then◌else◌}
use Rattle.std.specs.Option.{option_map_or}
use Rattle.case_forms.specs.States.{is_closed}
use Rattle.case_forms.specs.declared.calls.Answer.{Answer}
use Rattle.case_forms.specs.declared.calls.Answer.TheVariants as answers
use Rattle.case_forms.specs.declared.calls.Call.{Call}
use Rattle.case_forms.specs.declared.calls.Call.TheVariants as calls
use Rattle.case_forms.specs.declared.calls.Host.{Host}
use Rattle.case_forms.specs.declared.calls.Host.TheVariants.{Zero, One}
use Rattle.case_forms.specs.declared.calls.Ports.{Ports}
use Rattle.case_forms.specs.declared.steps.TakeChoice.{TakeChoice}
use Rattle.case_forms.specs.declared.trace.Header.{Header}
use Rattle.streams.specs.Lists.{modify}
use Rattle.spec_network.specs.Tables.{Both, on, other, pick, waiting, with_host}
use Rattle.spec_network.specs.Hosts.{HostState, HostStep, Does, Expires, Makes, Sends, Gets, Hears, Takes, Drops, Answers}
use Rattle.spec_network.specs.Hosts.{Turn, Idle, Called, Answered, World, Step, Begin, Finish, Effect, At, turn_of}
use Rattle.spec_network.specs.HostRules.{aim_of}
use Rattle.spec_network.specs.HostSteps.{after, call_after, host_step_after, effect_after, start}
use Rattle.window_rules.specs.declared.control.Profile.{Profile}
use Rattle.spec_tcp.specs.Signals.{profile_of}
use Rattle.spec_tcp.specs.declared.endpoint.Emission.{Emission}
use Rattle.spec_tcp.specs.declared.endpoint.Endpoint.{Endpoint}
use Rattle.spec_tcp.specs.declared.endpoint.Socket.{Socket}
use Rattle.spec_tcp.specs.declared.endpoint.SocketTarget.{SocketTarget}
use Rattle.spec_tcp.specs.declared.endpoint.SocketTarget.TheVariants.{ListenerAt, EndpointAt}
use Rattle.spec_tcp.specs.Arrives.{Nobody, AtListener, AtEndpoint, after_taking, endpoint_taker, listener_taker, taker}
use Rattle.spec_tcp.specs.HostTcp.{HostTcp, at_ports, dead, listener_on, place_of, queue_of, socket_target, with_endpoint}
use Rattle.spec_tcp.specs.Calls.{after_call, change, change_target}
use Rattle.spec_tcp.specs.Calls.Accept.{accepted_from, after_accept}
use Rattle.spec_tcp.specs.Calls.Close.{after_abort, after_close, after_gone, after_shut, orphaned, target_gone}
use Rattle.spec_tcp.specs.Calls.Receive.{after_recv}
use Rattle.spec_tcp.specs.Calls.Send.{after_send}
use Rattle.spec_tcp.specs.Forgetting.{forget_body}
use Rattle.spec_tcp.specs.Machine.{aim, tcp, tcp_shape}
use Rattle.spec_tcp.specs.Machine as acts
use Rattle.endpoint_state.specs.Turns.{pending_call}
use Rattle.spec_merge.specs.Books.{Flying, bring}
use Rattle.stack_core.specs.declared.deadline_queue.Affected.{Affected}
use Rattle.stack_core.specs.declared.deadline_queue.Affected.TheVariants as kinds
use Rattle.stack_core.specs.DeadlineQueues.{Leaves}
use Rattle.stack_core.specs.ArrivalEvents.{IsHeld}
use Rattle.stack_core.specs.Cores.{Core, own_body, world}
use Rattle.stack_core.specs.Affected.{affected_by_accept, affected_by_call, affected_by_host_step, affected_by_end, affected_in_queue, affected_target}
use Rattle.stack_core.specs.Affected.{affected_at}
use Rattle.stack_core.specs.Affected.{affected_by}

-- 1. lists

pub leaves_same : (t : Affected) (es : List Endpoint) → Leaves t es es
leaves_same t es = record { back = λ i f less at. inr at; count = omega arith }

modify_length : (es : List Endpoint) (j : ℕ) (f : Endpoint → Endpoint) → length (modify es j f) ≡ length es
modify_length [] j f = refl
modify_length (e ∷ es) zero f = refl
modify_length (e ∷ es) (suc j) f = ap suc (modify_length es j f)

modify_back : (es : List Endpoint) (j : ℕ) (f : Endpoint → Endpoint) (i : ℕ) (x : Endpoint)
    → slice_get (modify es j f) i ≡ Some x → (i ≡ j) ⊎ (slice_get es i ≡ Some x)
modify_back [] j f i x at = inr at
modify_back (e ∷ es) zero f zero x at = inl refl
modify_back (e ∷ es) zero f (suc i) x at = inr at
modify_back (e ∷ es) (suc j) f zero x at = inr at
modify_back (e ∷ es) (suc j) f (suc i) x at = up (modify_back es j f i x at)
  where
    up : (i ≡ j) ⊎ (slice_get es i ≡ Some x) → (suc i ≡ suc j) ⊎ (slice_get es i ≡ Some x)
    up (inl same) = inl (ap suc same)
    up (inr there) = inr there

leaves_modify : (es : List Endpoint) (j : ℕ) (f : Endpoint → Endpoint) → Leaves (kinds.Place j) es (modify es j f)
leaves_modify es j f = record { back = λ i x less at. modify_back es j f i x at; count = let same = modify_length es j f in omega arith }

push_length : (es : List Endpoint) (x : Endpoint) → length (es ++ x ∷ []) ≡ suc (length es)
push_length [] x = refl
push_length (e ∷ es) x = ap suc (push_length es x)

push_back : (es : List Endpoint) (x : Endpoint) (i : ℕ) (f : Endpoint) → i < length es → slice_get (es ++ x ∷ []) i ≡ Some f → slice_get es i ≡ Some f
push_back [] x i f less at = absurd (omega arith)
push_back (e ∷ es) x zero f less at = at
push_back (e ∷ es) x (suc i) f less at = push_back es x i f (omega arith) at

leaves_push : (t : Affected) (es : List Endpoint) (x : Endpoint) → Leaves t es (es ++ x ∷ [])
leaves_push t es x = record { back = λ i f less at. inr (push_back es x i f less at); count = let more = push_length es x in omega arith }

map_length : (es : List Endpoint) (f : Endpoint → Endpoint) → length (map f es) ≡ length es
map_length [] f = refl
map_length (e ∷ es) f = ap suc (map_length es f)

leaves_map : (es : List Endpoint) (f : Endpoint → Endpoint) → Leaves kinds.All es (map f es)
leaves_map es f = record { back = λ i x less at. inl tt; count = let same = map_length es f in omega arith }

-- 2. steps of a host

at_leaves : (b : HostTcp) (l r : ℕ) (f : Endpoint → Endpoint) → Leaves (affected_at (place_of b l r)) b.endpoints (at_ports b l r f).endpoints
at_leaves b l r f = by (place_of b l r)
  where
    by : (o : Option ℕ) → Leaves (affected_at o) b.endpoints (option_map_or (λ i. with_endpoint b i f) o b).endpoints
    by None = leaves_same kinds.Nobody b.endpoints
    by (Some i) = leaves_modify b.endpoints i f

taking_leaves : (h : Header) (b : HostTcp) (how : TakeChoice) (m : Emission) (moment : ℕ)
    → Leaves (affected_at (place_of b m.rport m.lport)) b.endpoints
    (after_taking h b how m moment (taker b m)).endpoints
taking_leaves h b how m moment = by (place_of b m.rport m.lport)
  where
    at_listener : (t : Affected) (o : Option ℕ) → Leaves t b.endpoints (after_taking h b how m moment (option_map_or (λ l. AtListener l) o Nobody)).endpoints
    at_listener t None = leaves_same t b.endpoints
    at_listener t (Some l) = leaves_push t b.endpoints _

    closed : (i : ℕ) (e : Endpoint) (c : Bool)
        → Leaves (kinds.Place i) b.endpoints
        (after_taking h b how m moment (if c then listener_taker b m else AtEndpoint i e)).endpoints
    closed i e true = at_listener (kinds.Place i) (listener_on b m.rport)
    closed i e false = leaves_modify b.endpoints i _

    at_place : (i : ℕ) (o : Option Endpoint)
        → Leaves (kinds.Place i) b.endpoints
        (after_taking h b how m moment
        (option_map_or (λ e. if is_closed e.state then listener_taker b m else AtEndpoint i e) o
        (listener_taker b m))).endpoints
    at_place i None = at_listener (kinds.Place i) (listener_on b m.rport)
    at_place i (Some e) = closed i e (is_closed e.state)

    by : (o : Option ℕ)
        → Leaves (affected_at o) b.endpoints
        (after_taking h b how m moment (option_map_or (endpoint_taker b m) o (listener_taker b m))).endpoints
    by None = at_listener kinds.Nobody (listener_on b m.rport)
    by (Some i) = at_place i (slice_get b.endpoints i)

host_step_leaves : (h : Header) (me : Host) (moment fresh : ℕ) (far : List (ℕ × Emission)) (s : HostState tcp_shape)
    (d : HostStep tcp_shape) → Leaves (affected_by_host_step s d) s.body.endpoints
    (host_step_after (tcp h) me moment fresh far s d).body.endpoints
host_step_leaves h me moment fresh far s (Does x) = at_leaves s.body x.lport x.rport _
host_step_leaves h me moment fresh far s (Expires line x) = at_leaves s.body x.lport x.rport _
host_step_leaves h me moment fresh far s (Makes plan) = at_leaves s.body plan.lport plan.rport _
host_step_leaves h me moment fresh far s (Sends line number wire) = leaves_same kinds.Nobody s.body.endpoints
host_step_leaves h me moment fresh far s (Gets line copied wire) = leaves_same kinds.Nobody s.body.endpoints
host_step_leaves h me moment fresh far s (Hears line wire) = leaves_same kinds.Nobody s.body.endpoints
host_step_leaves h me moment fresh far s (Takes line how) = by (waiting line s.inbox)
  where
    by : (o : Option Emission)
        → Leaves (on o kinds.Nobody (λ m. affected_at (place_of s.body m.rport m.lport))) s.body.endpoints
        (on o s.body (λ m. after_taking h s.body how m moment (taker s.body m))).endpoints
    by None = leaves_same kinds.Nobody s.body.endpoints
    by (Some m) = taking_leaves h s.body how m moment
host_step_leaves h me moment fresh far s (Drops line) = leaves_same kinds.Nobody s.body.endpoints
host_step_leaves h me moment fresh far s (Answers line) = by (waiting line s.inbox)
  where
    by : (o : Option Emission) → Leaves kinds.Nobody s.body.endpoints (on o s.body (λ m. s.body)).endpoints
    by None = leaves_same kinds.Nobody s.body.endpoints
    by (Some m) = leaves_same kinds.Nobody s.body.endpoints

-- 3. calls

change_leaves : (b : HostTcp) (n : ℕ) (f : Endpoint → Endpoint)
    → Leaves (option_map_or affected_target (socket_target b n) kinds.Nobody) b.endpoints (change b n f).endpoints
change_leaves b n f = by (socket_target b n)
  where
    by : (o : Option SocketTarget) → Leaves (option_map_or affected_target o kinds.Nobody) b.endpoints (option_map_or (change_target b f) o b).endpoints
    by None = leaves_same kinds.Nobody b.endpoints
    by (Some (ListenerAt l)) = leaves_same kinds.Nobody b.endpoints
    by (Some (EndpointAt i)) = leaves_modify b.endpoints i f

gone_leaves : (b : HostTcp) (n : ℕ) (f : Endpoint → Endpoint) (sockets : List (ℕ × Socket))
    → Leaves (option_map_or affected_by_end (socket_target b n) kinds.Nobody) b.endpoints (after_gone b n f sockets).endpoints
gone_leaves b n f sockets = by (socket_target b n)
  where
    by : (o : Option SocketTarget)
        → Leaves (option_map_or affected_by_end o kinds.Nobody) b.endpoints
        (option_map_or (λ target. record (target_gone b target f) { sockets = sockets }) o b).endpoints
    by None = leaves_same kinds.Nobody b.endpoints
    by (Some (ListenerAt l)) = leaves_map b.endpoints (orphaned l)
    by (Some (EndpointAt i)) = leaves_modify b.endpoints i f

accept_leaves : (b : HostTcp) (h n : ℕ)
    → Leaves (option_map_or (affected_by_accept b) (socket_target b h) kinds.Nobody) b.endpoints
    (option_map_or (after_accept b n) (socket_target b h) b).endpoints
accept_leaves b h n = by (socket_target b h)
  where
    queued : (l : ℕ) (queue : List ℕ) → Leaves (affected_in_queue queue) b.endpoints (accepted_from b l n queue).endpoints
    queued l [] = leaves_same kinds.Nobody b.endpoints
    queued l (child ∷ queue) = leaves_modify b.endpoints child _

    by : (o : Option SocketTarget) → Leaves (option_map_or (affected_by_accept b) o kinds.Nobody) b.endpoints (option_map_or (after_accept b n) o b).endpoints
    by None = leaves_same kinds.Nobody b.endpoints
    by (Some (ListenerAt l)) = queued l (queue_of b l)
    by (Some (EndpointAt i)) = leaves_same kinds.Nobody b.endpoints

call_leaves : (p : Profile) (b : HostTcp) (call : Call) (answer : Answer) → Leaves (affected_by_call b call) b.endpoints (after_call p b call answer).endpoints
call_leaves p b (calls.Listen host port backlog) (answers.Given n) = leaves_same kinds.Nobody b.endpoints
call_leaves p b (calls.Connect host lport rport) (answers.Given n) = leaves_push kinds.Nobody b.endpoints _
call_leaves p b (calls.Accept h) (answers.Given n) = accept_leaves b h n
call_leaves p b (calls.Send h bytes) (answers.Given n) = change_leaves b h (after_send bytes n)
call_leaves p b (calls.Recv h most) (answers.Bytes bytes) = change_leaves b h (after_recv bytes)
call_leaves p b (calls.Shut h) answers.Done = gone_leaves b h after_shut b.sockets
call_leaves p b (calls.Close h) answers.Done = gone_leaves b h after_close (dead b.sockets h)
call_leaves p b (calls.Abort h) answers.Done = gone_leaves b h after_abort (dead b.sockets h)
call_leaves p b call answer = leaves_same _ b.endpoints

-- 4. a step

abbrev pub ends : Host → World tcp_shape → List Endpoint
ends me w = (pick w.hosts me).body.endpoints

call_at : (p : Profile) (me host : Host) (hosts : Both (HostState tcp_shape)) (call : Call) (answer : Answer)
    → Leaves (affected_by_call (pick hosts me).body call) (pick hosts me).body.endpoints
    (pick (with_host hosts host (record (pick hosts host) { body = after_call p (pick hosts host).body call answer }))
    me).body.endpoints
call_at p Zero Zero hosts call answer = call_leaves p hosts.zero.body call answer
call_at p Zero One hosts call answer = leaves_same _ hosts.zero.body.endpoints
call_at p One Zero hosts call answer = leaves_same _ hosts.one.body.endpoints
call_at p One One hosts call answer = call_leaves p hosts.one.body call answer

host_step_at : (h : Header) (me : Host) (moment : ℕ) (w : World tcp_shape) (d : HostStep tcp_shape)
    → Leaves (affected_by_host_step (pick w.hosts me) d) (ends me w) (ends me (after (tcp h) moment w (At me d)))
host_step_at h Zero moment w d = host_step_leaves h Zero moment (suc w.count) w.hosts.one.wire w.hosts.zero d
host_step_at h One moment w d = host_step_leaves h One moment (suc w.count) w.hosts.zero.wire w.hosts.one d

module _ (h : Header) (me : Host) (moment : ℕ) (w : World tcp_shape) where
  effect_leaves : (t : ℕ) (answer : Answer) (u : Turn tcp_shape)
      → Leaves (option_map_or (affected_by_call (pick w.hosts me).body) (pending_call u) kinds.Nobody) (ends me w)
      (ends me (effect_after (tcp h) moment w t answer u))
  effect_leaves t answer Idle = leaves_same kinds.Nobody (ends me w)
  effect_leaves t answer (Answered a) = leaves_same kinds.Nobody (ends me w)
  effect_leaves t answer (Called call) = by (aim_of (tcp h) w.hosts (aim call))
    where
      by : (o : Option Host)
          → Leaves (affected_by_call (pick w.hosts me).body call) (ends me w)
          (pick (call_after (tcp h) moment w.hosts (acts.Calls call answer) o) me).body.endpoints
      by None = leaves_same _ (ends me w)
      by (Some host) = call_at (profile_of h) me host w.hosts call answer

  pub step_leaves : (step : Step tcp_shape) → ((host : Host) (d : HostStep tcp_shape) → step ≡ At host d → host ≡ me)
      → Leaves (affected_by me w step) (ends me w) (ends me (after (tcp h) moment w step))
  step_leaves (Begin line t call) own = leaves_same kinds.Nobody (ends me w)
  step_leaves (Finish line t answer) own = leaves_same kinds.Nobody (ends me w)
  step_leaves (Effect t answer) own = effect_leaves t answer (turn_of t w.threads)
  step_leaves (At host d) own =
      subst (λ (x : Host). Leaves (affected_by_host_step (pick w.hosts me) d) (ends me w)
      (ends me (after (tcp h) moment w (At x d)))) (sym (own host d refl)) (host_step_at h me moment w d)

pub bring_leaves : (h : Header) (me : Host) (f : Flying tcp_shape) (w : World tcp_shape) → ends me (bring (tcp h) (other me) f w) ≡ ends me w
bring_leaves h Zero f w = refl
bring_leaves h One f w = refl

pub start_ends : (h : Header) (me : Host) → ends me (start (tcp h)) ≡ []
start_ends h Zero = refl
start_ends h One = refl

-- 5. of what is kept

affected_by_call-forget : (b : HostTcp) (call : Call) → affected_by_call (forget_body b) call ≡ affected_by_call b call
affected_by_call-forget b (calls.Listen host port backlog) = refl
affected_by_call-forget b (calls.Connect host lport rport) = refl
affected_by_call-forget b (calls.Await n) = refl
affected_by_call-forget b (calls.Send n bytes) = refl
affected_by_call-forget b (calls.Recv n most) = refl
affected_by_call-forget b (calls.Shut n) = refl
affected_by_call-forget b (calls.Close n) = refl
affected_by_call-forget b (calls.Abort n) = refl
affected_by_call-forget b (calls.Status n) = refl
affected_by_call-forget b (calls.Accept n) = by (socket_target b n)
  where
    by : (o : Option SocketTarget) → option_map_or (affected_by_accept (forget_body b)) o kinds.Nobody ≡ option_map_or (affected_by_accept b) o kinds.Nobody
    by None = refl
    by (Some (ListenerAt l)) = refl
    by (Some (EndpointAt i)) = refl

pub affected-forget : (b : HostTcp) (o : Option Call)
    → option_map_or (affected_by_call (forget_body b)) o kinds.Nobody
    ≡ option_map_or (affected_by_call b) o kinds.Nobody
affected-forget b None = refl
affected-forget b (Some call) = affected_by_call-forget b call

-- 6. of a segment that is held

pub held_affected : (c : Core) (line : ℕ) (ports : Ports) (affected : Affected) → IsHeld c line ports
    → affected ≡ affected_at (place_of (own_body c) ports.lport ports.rport)
    → affected ≡ on (waiting line (pick (world c).hosts c.recorded.me).inbox) kinds.Nobody (λ m. affected_at (place_of (own_body c) m.rport m.lport))
held_affected c line ports affected (m, waits, same) is = is ∙ ap (λ (p : Ports). affected_at (place_of (own_body c) p.lport p.rport)) same
    ∙ sym (ap (λ (o : Option Emission). on o kinds.Nobody (λ m. affected_at (place_of (own_body c) m.rport m.lport))) waits)
