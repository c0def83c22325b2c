-- What is said of a host holds of it after each act, with one step more.
use Rattle.std.proofs.Common.{◌≡◌, ℕ, suc, ◌<◌, ◌≤◌, ◌^◌, Bool, true, false, List, [], ◌∷◌, ◌++◌, length, Option, None, Some, refl, subst, arith}
use Rattle.std.specs.Prelude.{◌&&◌, if◌then◌else◌, slice_get}
use Rattle.std.specs.List.{All}
use Rattle.std.specs.Option.{option_map_or}
use Rattle.std.proofs.lemmas.List.{length-map}
use Rattle.std.proofs.lemmas.List.Elements.{All-map, All-nil, All-weaker}
use Rattle.case_forms.specs.declared.trace.Header.{Header}
use Rattle.case_forms.specs.declared.version.Version.{Version}
use Rattle.case_forms.specs.declared.calls.Host.{Host}
use Rattle.case_forms.specs.declared.calls.Call.{Call}
use Rattle.case_forms.specs.declared.calls.Call.TheVariants as calls
use Rattle.case_forms.specs.declared.calls.Answer.{Answer}
use Rattle.case_forms.specs.declared.calls.Answer.TheVariants as answers
use Rattle.case_forms.specs.declared.calls.State.TheVariants as states
use Rattle.verdict.specs.Rules.{first_broken}
use Rattle.verdict.proofs.RuleLemmas.{none_all}
use Rattle.streams.specs.Lists.{modify}
use Rattle.window_rules.specs.declared.control.Profile.{Profile}
use Rattle.window_rules.proofs.ControlLemmas.{counts_began}
use Rattle.spec_tcp.specs.Signals.{profile_of}
use Rattle.spec_tcp.specs.declared.endpoint.Endpoint.{Endpoint}
use Rattle.spec_tcp.specs.declared.endpoint.Emission.{Emission}
use Rattle.spec_tcp.specs.declared.endpoint.Listener.{Listener}
use Rattle.spec_tcp.specs.declared.endpoint.Socket.{Socket}
use Rattle.spec_tcp.specs.declared.endpoint.SocketTarget.{SocketTarget}
use Rattle.spec_tcp.specs.declared.endpoint.SocketTarget.TheVariants.{ListenerAt, EndpointAt}
use Rattle.case_forms.specs.declared.steps.TakeChoice.{TakeChoice}
use Rattle.spec_tcp.specs.Endpoints.{new_endpoint}
use Rattle.spec_tcp.specs.HostTcp.{HostTcp, empty, place_of, queue_of, socket_target, with_endpoint, at_ports, dead}
use Rattle.case_forms.specs.States.{is_syn_received}
use Rattle.spec_tcp.specs.Calls.{call_allows, endpoint_allows, is_bad_socket, target_allows, change_target, change, after_call}
use Rattle.spec_tcp.specs.Calls.Send.{after_send}
use Rattle.spec_tcp.specs.Calls.Receive.{after_recv}
use Rattle.spec_tcp.specs.Calls.Close.{orphaned, without_listener, target_gone, after_gone, after_shut, after_close, after_abort}
use Rattle.spec_tcp.specs.Calls.Accept.{accepted_from, after_accept}
use Rattle.spec_tcp.specs.Makes.{after_making}
use Rattle.spec_tcp.specs.Timeouts.{after_expiry}
use Rattle.spec_tcp.specs.Recovery.{after_recovery}
use Rattle.spec_tcp.specs.Arrives.OtherStates.Ack.{acknowledges_syn}
use Rattle.spec_tcp.specs.Heard.{as_read}
use Rattle.spec_tcp.specs.Arrives.Listen.{child}
use Rattle.spec_tcp.specs.Arrives.{Taker, Nobody, AtListener, AtEndpoint, taker, endpoint_taken, joined, after_taking}
use Rattle.spec_tcp.specs.Bounds.{IsKept, IsKeptBody}
use Rattle.spec_tcp.specs.Forgetting.{forget_endpoint, forget_body}
use Rattle.spec_tcp.specs.Machine.{Act, Calls, Makes, Takes, Resets, Expires, Recovers, act_rules, act_after}
use Rattle.spec_tcp_laws.proofs.Rules.{map_or_cases, not_false}
use Rattle.endpoint_state.specs.Keeping.{IsSmallAct, IsSmallAnswer}
use Rattle.endpoint_state.proofs.Lists.{all_modify, all_push, length_modify, length_push}
use Rattle.endpoint_state.proofs.Forgets.{IsBounded, bounded, bounded_later, kept_later, all_kept_forgotten}
use Rattle.endpoint_state.proofs.Effects.{after_shut_bounded, after_close_bounded, after_abort_bounded}
use Rattle.endpoint_state.proofs.Effects.{orphaned_bounded, accepted_bounded, after_send_bounded, after_recv_bounded}
use Rattle.endpoint_state.proofs.Effects.{after_making_bounded, after_expiry_bounded, after_recovery_bounded}
use Rattle.endpoint_state.proofs.Segments.{read_small}
use Rattle.endpoint_state.proofs.Takes.{child_bounded, endpoint_taken_bounded}

-- a host after so many steps, of which something may still be discarded
record IsBoundedBody (steps : ℕ) (b : HostTcp) : Type 0 where
  pub bounded : All (IsBounded steps) b.endpoints
  pub endpoints : length b.endpoints ≤ steps
  pub listeners : length b.listeners ≤ steps

bounded_body : (steps : ℕ) (b : HostTcp) → IsKeptBody steps b → IsBoundedBody steps b
bounded_body steps b k =
    record {
      bounded = All-weaker (IsKept steps) (IsBounded steps) (bounded steps) b.endpoints k.kept;
      endpoints = k.endpoints;
      listeners = k.listeners;
    }

kept_body_forgotten : (steps : ℕ) (b : HostTcp) → IsBoundedBody steps b → IsKeptBody steps (forget_body b)
kept_body_forgotten steps b k =
    let same = length-map b.endpoints forget_endpoint in
    let few = k.endpoints in
    record { kept = all_kept_forgotten steps b.endpoints k.bounded; endpoints = omega arith; listeners = k.listeners }

pub kept_body_later : (steps : ℕ) (b : HostTcp) → IsKeptBody steps b → IsKeptBody (suc steps) b
kept_body_later steps b k =
    let endpoints = k.endpoints in
    let listeners = k.listeners in
    record { kept = All-weaker (IsKept steps) (IsKept (suc steps)) (kept_later steps) b.endpoints k.kept; endpoints = omega arith; listeners = omega arith }

pub starts_kept : IsKeptBody 0 empty
starts_kept = record { kept = All-nil (IsKept 0); endpoints = omega arith; listeners = omega arith }

-- 1. endpoints and listeners in their places

all_later : (steps : ℕ) (es : List Endpoint) → All (IsBounded steps) es → All (IsBounded (suc steps)) es
all_later steps es h = All-weaker (IsBounded steps) (IsBounded (suc steps)) (bounded_later steps) es h

body_later : (steps : ℕ) (b : HostTcp) → IsBoundedBody steps b → IsBoundedBody (suc steps) b
body_later steps b k =
    let endpoints = k.endpoints in
    let listeners = k.listeners in
    record { bounded = all_later steps b.endpoints k.bounded; endpoints = omega arith; listeners = omega arith }

-- the endpoint at a place changes
place_bounded : (steps : ℕ) (b : HostTcp) (i : ℕ) (f : Endpoint → Endpoint)
    → ((e : Endpoint) → slice_get b.endpoints i ≡ Some e → IsBounded steps e → IsBounded (suc steps) (f e))
    → IsBoundedBody steps b → IsBoundedBody (suc steps) (with_endpoint b i f)
place_bounded steps b i f grows k =
    let same = length_modify f b.endpoints i in
    let endpoints = k.endpoints in
    let listeners = k.listeners in
    record {
      bounded = all_modify (IsBounded steps) (IsBounded (suc steps)) f b.endpoints i (bounded_later steps) grows k.bounded;
      endpoints = omega arith;
      listeners = omega arith;
    }

ports_bounded : (steps : ℕ) (b : HostTcp) (lport rport : ℕ) (f : Endpoint → Endpoint)
    → ((e : Endpoint) → IsBounded steps e → IsBounded (suc steps) (f e)) → IsBoundedBody steps b
    → IsBoundedBody (suc steps) (at_ports b lport rport f)
ports_bounded steps b lport rport f grows k =
    map_or_cases (IsBoundedBody (suc steps)) (place_of b lport rport) b (λ i. with_endpoint b i f)
    (λ none. body_later steps b k) (λ i at. place_bounded steps b i f (λ e there. grows e) k)

-- an endpoint joins
joins_bounded : (steps : ℕ) (b : HostTcp) (e : Endpoint) → IsBounded (suc steps) e → IsBoundedBody steps b
    → IsBoundedBody (suc steps) (record b { endpoints = b.endpoints ++ e ∷ [] })
joins_bounded steps b e new k =
    let listeners = k.listeners in
    record {
      bounded = all_push (IsBounded (suc steps)) b.endpoints e (all_later steps b.endpoints k.bounded) new;
      endpoints = length_push b.endpoints e steps k.endpoints;
      listeners = omega arith;
    }

-- 2. calls

changed_bounded : (steps : ℕ) (b : HostTcp) (n : ℕ) (f : Endpoint → Endpoint)
    → ((e : Endpoint) → IsBounded steps e → IsBounded (suc steps) (f e)) → IsBoundedBody steps b
    → IsBoundedBody (suc steps) (change b n f)
changed_bounded steps b n f grows k = by (socket_target b n)
  where
    by : (o : Option SocketTarget) → IsBoundedBody (suc steps) (option_map_or (change_target b f) o b)
    by None = body_later steps b k
    by (Some (ListenerAt l)) = body_later steps b k
    by (Some (EndpointAt i)) = place_bounded steps b i f (λ e there. grows e) k

recv_bounded : (v : Version) (steps : ℕ) (b : HostTcp) (n most : ℕ) (bytes : List ℕ)
    → call_allows v b (calls.Recv n most) (answers.Bytes bytes) ≡ true → IsBoundedBody steps b
    → IsBoundedBody (suc steps) (change b n (after_recv bytes))
recv_bounded v steps b n most bytes allowed k = by (socket_target b n) allowed
  where
    by : (o : Option SocketTarget)
        → option_map_or (target_allows v b (calls.Recv n most) (answers.Bytes bytes)) o
        (is_bad_socket (answers.Bytes bytes)) ≡ true
        → IsBoundedBody (suc steps) (option_map_or (change_target b (after_recv bytes)) o b)
    by None h = body_later steps b k
    by (Some (ListenerAt l)) h = body_later steps b k
    by (Some (EndpointAt i)) h =
        place_bounded steps b i (after_recv bytes)
        (λ e there. after_recv_bounded v most bytes steps e
        (subst (λ (o : Option Endpoint).
        option_map_or (λ x. endpoint_allows v x (calls.Recv n most) (answers.Bytes bytes)) o false ≡ true) there
        h))
        k

gone_bounded : (steps : ℕ) (b : HostTcp) (n : ℕ) (f : Endpoint → Endpoint) (sockets : List (ℕ × Socket))
    → ((e : Endpoint) → IsBounded steps e → IsBounded (suc steps) (f e)) → IsBoundedBody steps b
    → IsBoundedBody (suc steps) (after_gone b n f sockets)
gone_bounded steps b n f sockets grows k = by (socket_target b n)
  where
    -- socket numbers are not spoken of
    plain : (c : HostTcp) → IsBoundedBody (suc steps) c → IsBoundedBody (suc steps) (record c { sockets = sockets })
    plain c k = record { bounded = k.bounded; endpoints = k.endpoints; listeners = k.listeners }

    orphans : (l : ℕ) → IsBoundedBody (suc steps) (without_listener b l)
    orphans l =
        let places = length-map b.endpoints (orphaned l) in
        let same = length_modify (λ (x : Listener). record x { is_open = false }) b.listeners l in
        let endpoints = k.endpoints in
        let listeners = k.listeners in
        record {
          bounded =
              All-map (IsBounded (suc steps)) (orphaned l) b.endpoints
              (All-weaker (IsBounded steps) (λ e. IsBounded (suc steps) (orphaned l e))
              (orphaned_bounded steps l) b.endpoints k.bounded);
          endpoints = omega arith;
          listeners = omega arith;
        }

    by : (o : Option SocketTarget) → IsBoundedBody (suc steps) (option_map_or (λ target. record (target_gone b target f) { sockets = sockets }) o b)
    by None = body_later steps b k
    by (Some (ListenerAt l)) = plain (without_listener b l) (orphans l)
    by (Some (EndpointAt i)) = plain (with_endpoint b i f) (place_bounded steps b i f (λ e there. grows e) k)

accept_bounded : (steps : ℕ) (b : HostTcp) (n : ℕ) (o : Option SocketTarget) → IsBoundedBody steps b
    → IsBoundedBody (suc steps) (option_map_or (after_accept b n) o b)
accept_bounded steps b n o k = by o
  where
    from : (l : ℕ) (queue : List ℕ) → IsBoundedBody (suc steps) (accepted_from b l n queue)
    from l [] = body_later steps b k
    from l (place ∷ queue) =
        let one = place_bounded steps b place (λ e. record e { listener = None }) (λ e there. accepted_bounded steps e) k in
        let same = length_modify (λ (x : Listener). record x { queue = queue }) b.listeners l in
        let listeners = k.listeners in
        record { bounded = one.bounded; endpoints = one.endpoints; listeners = omega arith }

    by : (o : Option SocketTarget) → IsBoundedBody (suc steps) (option_map_or (after_accept b n) o b)
    by None = body_later steps b k
    by (Some (ListenerAt l)) = from l (queue_of b l)
    by (Some (EndpointAt i)) = body_later steps b k

listened_bounded : (steps : ℕ) (b : HostTcp) (l : Listener) → IsBoundedBody steps b → IsBoundedBody (suc steps) (record b { listeners = b.listeners ++ l ∷ [] })
listened_bounded steps b l k =
    let later = body_later steps b k in
    record { bounded = later.bounded; endpoints = later.endpoints; listeners = length_push b.listeners l steps k.listeners }

opened_bounded : (p : Profile) (lport rport steps : ℕ) → IsBounded steps (new_endpoint lport rport None states.SynSent p)
opened_bounded p lport rport steps = record {
  snd_una = omega arith;
  counts = counts_began p steps;
  unanswered_expiries = omega arith;
  backoffs = omega arith;
  accepted = omega arith;
  met = λ sent closed. absurd cc;
  unmet = λ sent. refl;
}

socket_bounded : (steps : ℕ) (b c : HostTcp) → b.endpoints ≡ c.endpoints → b.listeners ≡ c.listeners → IsBoundedBody steps b → IsBoundedBody steps c
socket_bounded steps b c e l k = record {
  bounded = subst (λ (es : List Endpoint). All (IsBounded steps) es) e k.bounded;
  endpoints = subst (λ (es : List Endpoint). length es ≤ steps) e k.endpoints;
  listeners = subst (λ (ls : List Listener). length ls ≤ steps) l k.listeners;
}

call_bounded : (v : Version) (p : Profile) (steps : ℕ) (b : HostTcp) (call : Call) (answer : Answer) → IsSmallAnswer answer → call_allows v b call answer ≡ true
    → IsBoundedBody steps b → IsBoundedBody (suc steps) (after_call p b call answer)
call_bounded v p steps b (calls.Listen host port backlog) (answers.Given n) small allowed k =
    let l : Listener = record { port = port; backlog = backlog; is_open = true; queue = [] } in
    socket_bounded (suc steps) (record b { listeners = b.listeners ++ l ∷ [] }) _ refl refl (listened_bounded steps b l k)
call_bounded v p steps b (calls.Connect host lport rport) (answers.Given n) small allowed k =
    let e = new_endpoint lport rport None states.SynSent p in
    socket_bounded (suc steps) (record b { endpoints = b.endpoints ++ e ∷ [] }) _ refl refl
    (joins_bounded steps b e (opened_bounded p lport rport (suc steps)) k)
call_bounded v p steps b (calls.Accept h) (answers.Given n) small allowed k = accept_bounded steps b n (socket_target b h) k
call_bounded v p steps b (calls.Send h bytes) (answers.Given n) small allowed k =
    changed_bounded steps b h (after_send bytes n) (after_send_bounded bytes n small steps) k
call_bounded v p steps b (calls.Recv h most) (answers.Bytes bytes) small allowed k = recv_bounded v steps b h most bytes allowed k
call_bounded v p steps b (calls.Shut h) answers.Done small allowed k =
    gone_bounded steps b h after_shut b.sockets (after_shut_bounded steps) k
call_bounded v p steps b (calls.Close h) answers.Done small allowed k =
    gone_bounded steps b h after_close (dead b.sockets h) (after_close_bounded steps) k
call_bounded v p steps b (calls.Abort h) answers.Done small allowed k =
    gone_bounded steps b h after_abort (dead b.sockets h) (after_abort_bounded steps) k
call_bounded v p steps b _ _ small allowed k = body_later steps b k

-- 3. segments

length_joined : (b : HostTcp) (i : ℕ) (e : Endpoint) (m : Emission) → length (joined b i e m) ≡ length b.listeners
length_joined b i e m = by (is_syn_received e.state && acknowledges_syn e m) e.listener
  where
    by : (c : Bool) (o : Option ℕ)
        → length (if c then option_map_or
        (λ l. modify b.listeners l (λ x. record x { queue = x.queue ++ i ∷ [] })) o b.listeners else b.listeners)
        ≡ length b.listeners
    by true None = refl
    by true (Some l) = length_modify (λ (x : Listener). record x { queue = x.queue ++ i ∷ [] }) b.listeners l
    by false o = refl

taking_bounded : (h : Header) (how : TakeChoice) (m : Emission) (moment steps : ℕ) (b : HostTcp) (t : Taker)
    → m.ack < 2 ^ 63 → IsBoundedBody steps b → IsBoundedBody (suc steps) (after_taking h b how m moment t)
taking_bounded h how m moment steps b Nobody small k = body_later steps b k
taking_bounded h how m moment steps b (AtListener l) small k =
    joins_bounded steps b (child (profile_of h) l how m moment) (child_bounded (profile_of h) l how m moment (suc steps)) k
taking_bounded h how m moment steps b (AtEndpoint i e) small k =
    let read = as_read h.version e m in
    let one =
    place_bounded steps b i (λ x. endpoint_taken h x how read moment)
    (λ x there. endpoint_taken_bounded h how read moment steps x (read_small h.version e m small)) k in
    let same = length_joined b i e read in
    let listeners = k.listeners in
    record { bounded = one.bounded; endpoints = one.endpoints; listeners = omega arith }

-- 4. all acts

act_bounded : (h : Header) (me : Host) (moment steps : ℕ) (b : HostTcp) (act : Act) → IsSmallAct act
    → first_broken (act_rules h me moment b act) ≡ None → IsBoundedBody steps b
    → IsBoundedBody (suc steps) (act_after h me moment b act)
act_bounded h me moment steps b (Calls call answer) small permitted k =
    let all = none_all (act_rules h me moment b (Calls call answer)) permitted in
    call_bounded h.version (profile_of h) steps b call answer small (not_false (call_allows h.version b call answer) all.0) k
act_bounded h me moment steps b (Makes m) small permitted k =
    ports_bounded steps b m.lport m.rport (λ e. after_making e m moment) (after_making_bounded m moment steps) k
act_bounded h me moment steps b (Takes how m) small permitted k = taking_bounded h how m moment steps b (taker b m) small.ack k
act_bounded h me moment steps b (Resets m) small permitted k = body_later steps b k
act_bounded h me moment steps b (Expires x) small permitted k =
    ports_bounded steps b x.lport x.rport (λ e. after_expiry e x.expired moment)
    (after_expiry_bounded x.expired moment steps) k
act_bounded h me moment steps b (Recovers x) small permitted k =
    ports_bounded steps b x.lport x.rport (λ e. after_recovery e x.change x.cwnd x.ssthresh moment)
    (after_recovery_bounded x.change x.cwnd x.ssthresh moment steps) k

pub body_keeps : (h : Header) (me : Host) (moment steps : ℕ) (b : HostTcp) (act : Act) → IsSmallAct act
    → first_broken (act_rules h me moment b act) ≡ None → IsKeptBody steps b
    → IsKeptBody (suc steps) (forget_body (act_after h me moment b act))
body_keeps h me moment steps b act small permitted k =
    kept_body_forgotten (suc steps) (act_after h me moment b act) (act_bounded h me moment steps b act small permitted (bounded_body steps b k))
