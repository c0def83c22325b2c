-- A host whose endpoints go by another profile: what is found, what calls may answer, and what they make of it.
use Rattle.std.proofs.Common.{◌≡◌, ℕ, zero, suc, Bool, false, not, List, [], ◌∷◌, ◌++◌, Option, None, Some, map, refl, ap, if◌then◌else◌}
use Rattle.std.specs.Prelude.{slice_get}
use Rattle.std.specs.Option.{option_map, option_map_or}
use Rattle.std.proofs.lemmas.List.{length-map}
use Rattle.std.proofs.lemmas.Option.{slice_get-map}
use Rattle.case_forms.specs.States.{is_closed}
use Rattle.case_forms.specs.declared.version.Version.{Version}
use Rattle.case_forms.specs.declared.calls.Answer.{Answer}
use Rattle.case_forms.specs.declared.calls.Answer.TheVariants as answers
use Rattle.case_forms.specs.declared.calls.Call.{Call}
use Rattle.case_forms.specs.declared.calls.Call.TheVariants as calls
use Rattle.case_forms.specs.declared.calls.State.TheVariants as states
use Rattle.streams.specs.Lists.{modify}
use Rattle.window_rules.specs.declared.control.Profile.{Profile}
use Rattle.spec_tcp.specs.declared.endpoint.Endpoint.{Endpoint}
use Rattle.spec_tcp.specs.declared.endpoint.Socket.{Socket}
use Rattle.spec_tcp.specs.declared.endpoint.SocketTarget.{SocketTarget}
use Rattle.spec_tcp.specs.declared.endpoint.SocketTarget.TheVariants.{EndpointAt, ListenerAt}
use Rattle.spec_tcp.specs.Calls.{after_call, call_allows, change, change_target, endpoint_allows, gives_or_in_use, is_bad_socket, socket_allows, target_allows}
use Rattle.spec_tcp.specs.Calls.Accept.{accepted_from, after_accept}
use Rattle.spec_tcp.specs.Calls.Await.{await_allows}
use Rattle.spec_tcp.specs.Calls.Close.{after_abort, after_close, after_gone, after_shut, orphaned, shut_allows, target_gone}
use Rattle.spec_tcp.specs.Calls.Receive.{after_recv, recv_allows}
use Rattle.spec_tcp.specs.Calls.Send.{after_send}
use Rattle.spec_tcp.specs.Endpoints.{new_endpoint}
use Rattle.spec_tcp.specs.HostTcp.{HostTcp, at_ports, dead, endpoint_of, has_ports, is_connected, last_from, place_of, queue_of, socket_target, with_endpoint}
use Rattle.spec_tcp_laws.specs.Judging.{body_by, endpoint_by}
use Rattle.spec_tcp_laws.proofs.JudgedEffects.{Keeps, abort_kept, adopted_kept, close_kept, orphaned_kept, recv_kept, send_kept, shut_kept}

-- endpoints are found at their places
found_by : (p : Profile) (lport rport place : ℕ) (found : Option ℕ) (es : List Endpoint)
    → last_from (has_ports lport rport) place found (map (endpoint_by p) es) ≡ last_from (has_ports lport rport) place found es
found_by p lport rport place found [] = refl
found_by p lport rport place found (e ∷ es) = found_by p lport rport (suc place) (if has_ports lport rport e then Some place else found) es

pub place_by : (p : Profile) (b : HostTcp) (lport rport : ℕ) → place_of (body_by p b) lport rport ≡ place_of b lport rport
place_by p b lport rport = found_by p lport rport 0 None b.endpoints

pub endpoint_of_by : (p : Profile) (b : HostTcp) (lport rport : ℕ)
    → endpoint_of (body_by p b) lport rport ≡ option_map (endpoint_by p) (endpoint_of b lport rport)
endpoint_of_by p b lport rport = rw (place_by p b lport rport) (by (place_of b lport rport))
  where
    by : (place : Option ℕ)
        → option_map_or (λ i. slice_get (map (endpoint_by p) b.endpoints) i) place None
        ≡ option_map (endpoint_by p) (option_map_or (λ i. slice_get b.endpoints i) place None)
    by None = refl
    by (Some i) = slice_get-map (endpoint_by p) b.endpoints i

-- what is asked of an endpoint that may be there
each_by : {X : Type 0} (p : Profile) (f : Endpoint → X) (o : Option Endpoint) (none : X) → ((e : Endpoint) → f (endpoint_by p e) ≡ f e)
    → option_map_or f (option_map (endpoint_by p) o) none ≡ option_map_or f o none
each_by p f None none same = refl
each_by p f (Some e) none same = same e

-- endpoints change in their places
pub modify_by : (p : Profile) (es : List Endpoint) (i : ℕ) (f g : Endpoint → Endpoint) → Keeps p f g
    → modify (map (endpoint_by p) es) i f ≡ map (endpoint_by p) (modify es i g)
modify_by p [] i f g same = refl
modify_by p (e ∷ es) zero f g same = let here = same e in cc
modify_by p (e ∷ es) (suc i) f g same = let rest = modify_by p es i f g same in cc

map_by : (p : Profile) (es : List Endpoint) (f : Endpoint → Endpoint) → Keeps p f f → map f (map (endpoint_by p) es) ≡ map (endpoint_by p) (map f es)
map_by p [] f same = refl
map_by p (e ∷ es) f same = let here = same e in let rest = map_by p es f same in cc

pub append_by : (p : Profile) (es : List Endpoint) (e : Endpoint) → map (endpoint_by p) es ++ endpoint_by p e ∷ [] ≡ map (endpoint_by p) (es ++ e ∷ [])
append_by p [] e = refl
append_by p (x ∷ es) e = let rest = append_by p es e in cc

pub place_kept : (p : Profile) (b : HostTcp) (i : ℕ) (f g : Endpoint → Endpoint) → Keeps p f g
    → with_endpoint (body_by p b) i f ≡ body_by p (with_endpoint b i g)
place_kept p b i f g same = ap (λ es. record b { endpoints = es }) (modify_by p b.endpoints i f g same)

pub ports_kept : (p : Profile) (b : HostTcp) (lport rport : ℕ) (f : Endpoint → Endpoint) → Keeps p f f
    → at_ports (body_by p b) lport rport f ≡ body_by p (at_ports b lport rport f)
ports_kept p b lport rport f same = rw (place_by p b lport rport) (by (place_of b lport rport))
  where
    by : (place : Option ℕ)
        → option_map_or (λ i. with_endpoint (body_by p b) i f) place (body_by p b) ≡ body_by p (option_map_or (λ i. with_endpoint b i f) place b)
    by None = refl
    by (Some i) = place_kept p b i f f same

-- answers
await_same : (p : Profile) (e : Endpoint) (answer : Answer) → await_allows (endpoint_by p e) answer ≡ await_allows e answer
await_same p e answers.Done = refl
await_same p e answers.Again = refl
await_same p e _ = refl

recv_same : (v : Version) (p : Profile) (e : Endpoint) (most : ℕ) (answer : Answer)
    → recv_allows v (endpoint_by p e) most answer ≡ recv_allows v e most answer
recv_same v p e most (answers.Bytes bytes) = refl
recv_same v p e most answers.Eof = refl
recv_same v p e most answers.Again = refl
recv_same v p e most answers.NotConn = refl
recv_same v p e most _ = refl

shut_same : (v : Version) (p : Profile) (e : Endpoint) (answer : Answer) → shut_allows v (endpoint_by p e) answer ≡ shut_allows v e answer
shut_same v p e answers.Done = refl
shut_same v p e answers.NotConn = refl
shut_same v p e _ = refl

endpoint_allows_by : (v : Version) (p : Profile) (call : Call) (answer : Answer) (e : Endpoint)
    → endpoint_allows v (endpoint_by p e) call answer ≡ endpoint_allows v e call answer
endpoint_allows_by v p (calls.Await n) answer e = await_same p e answer
endpoint_allows_by v p (calls.Recv n most) answer e = recv_same v p e most answer
endpoint_allows_by v p (calls.Shut n) answer e = shut_same v p e answer
endpoint_allows_by v p (calls.Status n) (answers.State s) e = refl
endpoint_allows_by v p (calls.Close n) answers.Done e = refl
endpoint_allows_by v p (calls.Abort n) answers.Done e = refl
endpoint_allows_by v p _ _ e = refl

pub target_allows_by : (v : Version) (p : Profile) (b : HostTcp) (call : Call) (answer : Answer) (target : SocketTarget)
    → target_allows v (body_by p b) call answer target ≡ target_allows v b call answer target
target_allows_by v p b call answer (ListenerAt l) = refl
target_allows_by v p b call answer (EndpointAt i) =
    rw (slice_get-map (endpoint_by p) b.endpoints i)
    (each_by p (λ e. endpoint_allows v e call answer) (slice_get b.endpoints i) false (endpoint_allows_by v p call answer))

socket_allows_by : (v : Version) (p : Profile) (b : HostTcp) (n : ℕ) (call : Call) (answer : Answer)
    → socket_allows v (body_by p b) n call answer ≡ socket_allows v b n call answer
socket_allows_by v p b n call answer = by (socket_target b n)
  where
    by : (o : Option SocketTarget)
        → option_map_or (target_allows v (body_by p b) call answer) o (is_bad_socket answer)
        ≡ option_map_or (target_allows v b call answer) o (is_bad_socket answer)
    by None = refl
    by (Some target) = target_allows_by v p b call answer target

connected_by : (p : Profile) (b : HostTcp) (lport rport : ℕ) → is_connected (body_by p b) lport rport ≡ is_connected b lport rport
connected_by p b lport rport = rw (endpoint_of_by p b lport rport) (each_by p (λ e. not (is_closed e.state)) (endpoint_of b lport rport) false (λ e. refl))

pub call_allows_by : (v : Version) (p : Profile) (b : HostTcp) (call : Call) (answer : Answer)
    → call_allows v (body_by p b) call answer ≡ call_allows v b call answer
call_allows_by v p b (calls.Listen host port backlog) answer = refl
call_allows_by v p b (calls.Connect host lport rport) answer = ap (λ (used : Bool). gives_or_in_use used answer) (connected_by p b lport rport)
call_allows_by v p b (calls.Await n) answer = socket_allows_by v p b n (calls.Await n) answer
call_allows_by v p b (calls.Accept n) answer = socket_allows_by v p b n (calls.Accept n) answer
call_allows_by v p b (calls.Send n bytes) answer = socket_allows_by v p b n (calls.Send n bytes) answer
call_allows_by v p b (calls.Recv n most) answer = socket_allows_by v p b n (calls.Recv n most) answer
call_allows_by v p b (calls.Shut n) answer = socket_allows_by v p b n (calls.Shut n) answer
call_allows_by v p b (calls.Close n) answer = socket_allows_by v p b n (calls.Close n) answer
call_allows_by v p b (calls.Abort n) answer = socket_allows_by v p b n (calls.Abort n) answer
call_allows_by v p b (calls.Status n) answer = socket_allows_by v p b n (calls.Status n) answer

-- effects
change_kept : (p : Profile) (b : HostTcp) (n : ℕ) (f : Endpoint → Endpoint) → Keeps p f f → change (body_by p b) n f ≡ body_by p (change b n f)
change_kept p b n f same = by (socket_target b n)
  where
    by : (o : Option SocketTarget) → option_map_or (change_target (body_by p b) f) o (body_by p b) ≡ body_by p (option_map_or (change_target b f) o b)
    by None = refl
    by (Some (ListenerAt l)) = refl
    by (Some (EndpointAt i)) = place_kept p b i f f same

gone_kept : (p : Profile) (b : HostTcp) (n : ℕ) (f : Endpoint → Endpoint) (sockets : List (ℕ × Socket)) → Keeps p f f
    → after_gone (body_by p b) n f sockets ≡ body_by p (after_gone b n f sockets)
gone_kept p b n f sockets same = by (socket_target b n)
  where
    by : (o : Option SocketTarget) → option_map_or (λ target. record (target_gone (body_by p b) target f) { sockets = sockets }) o (body_by p b)
        ≡ body_by p (option_map_or (λ target. record (target_gone b target f) { sockets = sockets }) o b)
    by None = refl
    by (Some (ListenerAt l)) =
        ap (λ es. record (target_gone b (ListenerAt l) f) { endpoints = es; sockets = sockets })
        (map_by p b.endpoints (orphaned l) (orphaned_kept p l))
    by (Some (EndpointAt i)) = ap (λ es. record b { endpoints = es; sockets = sockets }) (modify_by p b.endpoints i f f same)

accepted_kept : (p : Profile) (b : HostTcp) (l n : ℕ) (queue : List ℕ) → accepted_from (body_by p b) l n queue ≡ body_by p (accepted_from b l n queue)
accepted_kept p b l n [] = refl
accepted_kept p b l n (child ∷ queue) =
    ap (λ es. record (accepted_from b l n (child ∷ queue)) { endpoints = es })
    (modify_by p b.endpoints child (λ e. record e { listener = None }) (λ e. record e { listener = None }) (adopted_kept p))

accept_kept : (p : Profile) (b : HostTcp) (n : ℕ) (o : Option SocketTarget)
    → option_map_or (after_accept (body_by p b) n) o (body_by p b) ≡ body_by p (option_map_or (after_accept b n) o b)
accept_kept p b n None = refl
accept_kept p b n (Some (ListenerAt l)) = accepted_kept p b l n (queue_of b l)
accept_kept p b n (Some (EndpointAt i)) = refl

-- an endpoint that is opened begins with the profile that it is given
pub call_kept : (p q : Profile) (b : HostTcp) (call : Call) (answer : Answer) → after_call p (body_by p b) call answer ≡ body_by p (after_call q b call answer)
call_kept p q b (calls.Listen host port backlog) (answers.Given n) = refl
call_kept p q b (calls.Connect host lport rport) (answers.Given n) =
    rw (length-map b.endpoints (endpoint_by p))
    (ap (λ es. record (after_call q b (calls.Connect host lport rport) (answers.Given n)) { endpoints = es })
    (append_by p b.endpoints (new_endpoint lport rport None states.SynSent q)))
call_kept p q b (calls.Accept h) (answers.Given n) = accept_kept p b n (socket_target b h)
call_kept p q b (calls.Send h bytes) (answers.Given n) = change_kept p b h (after_send bytes n) (send_kept p bytes n)
call_kept p q b (calls.Recv h most) (answers.Bytes bytes) = change_kept p b h (after_recv bytes) (recv_kept p bytes)
call_kept p q b (calls.Shut h) answers.Done = gone_kept p b h after_shut b.sockets (shut_kept p)
call_kept p q b (calls.Close h) answers.Done = gone_kept p b h after_close (dead b.sockets h) (close_kept p)
call_kept p q b (calls.Abort h) answers.Done = gone_kept p b h after_abort (dead b.sockets h) (abort_kept p)
call_kept p q b _ _ = refl
