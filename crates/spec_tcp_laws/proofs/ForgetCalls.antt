-- Calls: what was discarded matters neither to their answers nor to what the host has then.
use Rattle.std.proofs.Common.{◌≡◌, ℕ, Bool, false, not, List, [], ◌∷◌, Option, None, Some, refl, ap}
use Rattle.std.specs.Prelude.{slice_get}
use Rattle.std.specs.Option.{option_map_or}
use Rattle.std.proofs.lemmas.List.{length-map}
use Rattle.std.proofs.lemmas.Option.{slice_get-map}
use Rattle.case_forms.specs.declared.version.Version.{Version}
use Rattle.case_forms.specs.declared.calls.Call.{Call}
use Rattle.case_forms.specs.declared.calls.Call.TheVariants as calls
use Rattle.case_forms.specs.declared.calls.Answer.{Answer}
use Rattle.case_forms.specs.declared.calls.Answer.TheVariants as answers
use Rattle.case_forms.specs.declared.calls.State.TheVariants as states
use Rattle.window_rules.specs.declared.control.Profile.{Profile}
use Rattle.spec_tcp.specs.declared.endpoint.Endpoint.{Endpoint}
use Rattle.spec_tcp.specs.declared.endpoint.Socket.{Socket}
use Rattle.spec_tcp.specs.declared.endpoint.SocketTarget.{SocketTarget}
use Rattle.spec_tcp.specs.declared.endpoint.SocketTarget.TheVariants.{ListenerAt, EndpointAt}
use Rattle.spec_tcp.specs.Endpoints.{new_endpoint}
use Rattle.spec_tcp.specs.HostTcp.{HostTcp, endpoint_of, is_connected, queue_of, socket_target, dead}
use Rattle.case_forms.specs.States.{is_closed}
use Rattle.spec_tcp.specs.Calls.Close.{shut_allows, orphaned, target_gone, after_gone, after_shut, after_close, after_abort}
use Rattle.spec_tcp.specs.Calls.{endpoint_allows, target_allows, socket_allows, gives_or_in_use, is_bad_socket, call_allows, change_target, change, after_call}
use Rattle.spec_tcp.specs.Calls.Send.{after_send}
use Rattle.spec_tcp.specs.Calls.Receive.{after_recv}
use Rattle.spec_tcp.specs.Calls.Accept.{accepted_from, after_accept}
use Rattle.spec_tcp.specs.Forgetting.{forget_endpoint, forget_body}
use Rattle.spec_tcp_laws.proofs.ForgetRules.{await-forget, recv-forget}
use Rattle.spec_tcp_laws.proofs.ForgetEffects.{Forgets, abort-forgets, adopted-forgets, close-forgets, orphaned-forgets}
use Rattle.spec_tcp_laws.proofs.ForgetEffects.{recv-forgets, send-forgets, shut-forgets}
use Rattle.spec_tcp_laws.proofs.ForgetBodies.{append-forgets, all-forget, body-forget, each-forget, endpoint-forget, map-forgets, modify-forgets, place-forgets}

shut-forget : (v : Version) (e : Endpoint) (answer : Answer) → shut_allows v (forget_endpoint e) answer ≡ shut_allows v e answer
shut-forget v e answers.Done = refl
shut-forget v e answers.NotConn = refl
shut-forget v e _ = refl

endpoint_allows-forget : (v : Version) (call : Call) (answer : Answer) (e : Endpoint)
    → endpoint_allows v (forget_endpoint e) call answer ≡ endpoint_allows v e call answer
endpoint_allows-forget v (calls.Await n) answer e = await-forget e answer
endpoint_allows-forget v (calls.Recv n most) answer e = recv-forget v e most answer
endpoint_allows-forget v (calls.Shut n) answer e = shut-forget v e answer
endpoint_allows-forget v (calls.Status n) (answers.State s) e = refl
endpoint_allows-forget v (calls.Close n) answers.Done e = refl
endpoint_allows-forget v (calls.Abort n) answers.Done e = refl
endpoint_allows-forget v _ _ e = refl

pub target-forget : (v : Version) (b : HostTcp) (call : Call) (answer : Answer) (target : SocketTarget)
    → target_allows v (forget_body b) call answer target ≡ target_allows v b call answer target
target-forget v b call answer (ListenerAt l) = refl
target-forget v b call answer (EndpointAt i) =
    rw (slice_get-map forget_endpoint b.endpoints i)
    (each-forget (λ e. endpoint_allows v e call answer) (λ e. endpoint_allows v e call answer)
    (slice_get b.endpoints i) false (endpoint_allows-forget v call answer))

socket-forget : (v : Version) (b : HostTcp) (n : ℕ) (call : Call) (answer : Answer)
    → socket_allows v (forget_body b) n call answer ≡ socket_allows v b n call answer
socket-forget v b n call answer = by (socket_target b n)
  where
    by : (o : Option SocketTarget)
        → option_map_or (target_allows v (forget_body b) call answer) o (is_bad_socket answer)
        ≡ option_map_or (target_allows v b call answer) o (is_bad_socket answer)
    by None = refl
    by (Some target) = target-forget v b call answer target

connected-forget : (b : HostTcp) (lport rport : ℕ) → is_connected (forget_body b) lport rport ≡ is_connected b lport rport
connected-forget b lport rport =
    rw (endpoint-forget b lport rport)
    (each-forget (λ e. not (is_closed e.state)) (λ e. not (is_closed e.state)) (endpoint_of b lport rport) false
    (λ e. refl))

pub call_allows-forget : (v : Version) (b : HostTcp) (call : Call) (answer : Answer)
    → call_allows v (forget_body b) call answer ≡ call_allows v b call answer
call_allows-forget v b (calls.Listen host port backlog) answer = refl
call_allows-forget v b (calls.Connect host lport rport) answer = ap (λ (used : Bool). gives_or_in_use used answer) (connected-forget b lport rport)
call_allows-forget v b (calls.Await n) answer = socket-forget v b n (calls.Await n) answer
call_allows-forget v b (calls.Accept n) answer = socket-forget v b n (calls.Accept n) answer
call_allows-forget v b (calls.Send n bytes) answer = socket-forget v b n (calls.Send n bytes) answer
call_allows-forget v b (calls.Recv n most) answer = socket-forget v b n (calls.Recv n most) answer
call_allows-forget v b (calls.Shut n) answer = socket-forget v b n (calls.Shut n) answer
call_allows-forget v b (calls.Close n) answer = socket-forget v b n (calls.Close n) answer
call_allows-forget v b (calls.Abort n) answer = socket-forget v b n (calls.Abort n) answer
call_allows-forget v b (calls.Status n) answer = socket-forget v b n (calls.Status n) answer

change-forgets : (b : HostTcp) (n : ℕ) (f : Endpoint → Endpoint) → Forgets f → forget_body (change (forget_body b) n f) ≡ forget_body (change b n f)
change-forgets b n f same = by (socket_target b n)
  where
    by : (o : Option SocketTarget)
        → forget_body (option_map_or (change_target (forget_body b) f) o (forget_body b))
        ≡ forget_body (option_map_or (change_target b f) o b)
    by None = body-forget b
    by (Some (ListenerAt l)) = body-forget b
    by (Some (EndpointAt i)) = place-forgets b i f same

gone-forgets : (b : HostTcp) (n : ℕ) (f : Endpoint → Endpoint) (sockets : List (ℕ × Socket)) → Forgets f
    → forget_body (after_gone (forget_body b) n f sockets) ≡ forget_body (after_gone b n f sockets)
gone-forgets b n f sockets same = by (socket_target b n)
  where
    by : (o : Option SocketTarget)
        → forget_body (option_map_or (λ target.
        record (target_gone (forget_body b) target f) { sockets = sockets }) o (forget_body b))
        ≡ forget_body (option_map_or (λ target. record (target_gone b target f) { sockets = sockets }) o b)
    by None = body-forget b
    by (Some (ListenerAt l)) = rw (map-forgets b.endpoints (orphaned l) (orphaned-forgets l)) refl
    by (Some (EndpointAt i)) = rw (modify-forgets b.endpoints i f same) refl

accepted-forgets : (b : HostTcp) (l n : ℕ) (queue : List ℕ) → forget_body (accepted_from (forget_body b) l n queue) ≡ forget_body (accepted_from b l n queue)
accepted-forgets b l n [] = body-forget b
accepted-forgets b l n (child ∷ queue) = rw (modify-forgets b.endpoints child (λ e. record e { listener = None }) adopted-forgets) refl

accept-forgets : (b : HostTcp) (n : ℕ) (o : Option SocketTarget)
    → forget_body (option_map_or (after_accept (forget_body b) n) o (forget_body b))
    ≡ forget_body (option_map_or (after_accept b n) o b)
accept-forgets b n None = body-forget b
accept-forgets b n (Some (ListenerAt l)) = accepted-forgets b l n (queue_of b l)
accept-forgets b n (Some (EndpointAt i)) = body-forget b

pub call-forgets : (p : Profile) (b : HostTcp) (call : Call) (answer : Answer)
    → forget_body (after_call p (forget_body b) call answer) ≡ forget_body (after_call p b call answer)
call-forgets p b (calls.Listen host port backlog) (answers.Given n) = rw (all-forget b.endpoints) refl
call-forgets p b (calls.Connect host lport rport) (answers.Given n) =
    rw (length-map b.endpoints forget_endpoint, append-forgets b.endpoints (new_endpoint lport rport None states.SynSent p ∷ [])) refl
call-forgets p b (calls.Accept h) (answers.Given n) = accept-forgets b n (socket_target b h)
call-forgets p b (calls.Send h bytes) (answers.Given n) = change-forgets b h (after_send bytes n) (send-forgets bytes n)
call-forgets p b (calls.Recv h most) (answers.Bytes bytes) = change-forgets b h (after_recv bytes) (recv-forgets bytes)
call-forgets p b (calls.Shut h) answers.Done = gone-forgets b h after_shut b.sockets shut-forgets
call-forgets p b (calls.Close h) answers.Done = gone-forgets b h after_close (dead b.sockets h) close-forgets
call-forgets p b (calls.Abort h) answers.Done = gone-forgets b h after_abort (dead b.sockets h) abort-forgets
call-forgets p b _ _ = body-forget b
