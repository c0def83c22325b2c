-- Which answers a call may have at a host, and the host afterwards (RFC 9293, 3.9.1 and 3.10.1 to 3.10.6).
pub mod Await
pub mod Send
pub mod Receive
pub mod Close
pub mod Accept
use Rattle.std.specs.Prelude.{ℕ, Bool, true, false, not, [], ◌∷◌, ◌++◌, length, slice_get, None}
use Rattle.std.specs.Option.{option_map_or}
use Rattle.case_forms.specs.declared.calls.Answer.{Answer}
use Rattle.case_forms.specs.declared.calls.Answer.TheVariants as answers
use Rattle.case_forms.specs.declared.calls.Call.{Call}
use Rattle.case_forms.specs.declared.calls.Call.TheVariants as calls
use Rattle.case_forms.specs.declared.calls.State.TheVariants as states
use Rattle.case_forms.specs.declared.version.Version.{Version}
use Rattle.spec_tcp.specs.Endpoints.{Endpoint, SocketTarget, ListenerAt, EndpointAt, new_endpoint}
use Rattle.spec_tcp.specs.HostTcp.{HostTcp, dead, has_ended, is_connected, with_endpoint, is_listening, queue_of}
use Rattle.spec_tcp.specs.HostTcp.{socket_target, with_socket}
use Rattle.spec_tcp.specs.Same.{same_state}
use Rattle.window_rules.specs.declared.control.Profile.{Profile}
use Rattle.spec_tcp.specs.Calls.Await.{is_not_connected, await_allows}
use Rattle.spec_tcp.specs.Calls.Send.{send_allows, after_send}
use Rattle.spec_tcp.specs.Calls.Receive.{recv_allows, after_recv}
use Rattle.spec_tcp.specs.Calls.Close.{shut_allows, after_shut, after_close, after_abort, after_gone}
use Rattle.spec_tcp.specs.Calls.Accept.{listener_allows, after_accept}

-- a call on a live socket number of an endpoint
abbrev pub endpoint_allows : Version → Endpoint → Call → Answer → Bool
endpoint_allows v e (calls.Await n) answer = await_allows e answer
endpoint_allows v e (calls.Accept n) answer = is_not_connected answer
endpoint_allows v e (calls.Send n bytes) answer = send_allows v e bytes answer
endpoint_allows v e (calls.Recv n most) answer = recv_allows v e most answer
endpoint_allows v e (calls.Shut n) answer = shut_allows v e answer
endpoint_allows v e (calls.Close n) answers.Done = true
endpoint_allows v e (calls.Abort n) answers.Done = true
endpoint_allows v e (calls.Status n) (answers.State s) = same_state s e.state
endpoint_allows v e _ _ = false

abbrev pub target_allows : Version → HostTcp → Call → Answer → SocketTarget → Bool
target_allows v b call answer (ListenerAt l) = listener_allows v (has_ended b l) (queue_of b l) call answer
target_allows v b call answer (EndpointAt i) =
    option_map_or (λ e. endpoint_allows v e call answer) (slice_get b.endpoints i) false

-- the only answer to a call on a socket number that is not live
abbrev pub is_bad_socket : Answer → Bool
is_bad_socket answers.BadSocket = true
is_bad_socket _ = false

abbrev pub socket_allows : Version → HostTcp → ℕ → Call → Answer → Bool
socket_allows v b n call answer =
    option_map_or (target_allows v b call answer) (socket_target b n) (is_bad_socket answer)

-- a socket number is returned, or the port or the pair of ports is in use
abbrev pub gives_or_in_use : Bool → Answer → Bool
gives_or_in_use used (answers.Given n) = not used
gives_or_in_use used answers.InUse = used
gives_or_in_use used _ = false

-- the call may have this answer in a text of this version
abbrev pub call_allows : Version → HostTcp → Call → Answer → Bool
call_allows v b (calls.Listen host port backlog) answer = gives_or_in_use (is_listening b port) answer
call_allows v b (calls.Connect host lport rport) answer = gives_or_in_use (is_connected b lport rport) answer
call_allows v b (calls.Await n) answer = socket_allows v b n (calls.Await n) answer
call_allows v b (calls.Accept n) answer = socket_allows v b n (calls.Accept n) answer
call_allows v b (calls.Send n bytes) answer = socket_allows v b n (calls.Send n bytes) answer
call_allows v b (calls.Recv n most) answer = socket_allows v b n (calls.Recv n most) answer
call_allows v b (calls.Shut n) answer = socket_allows v b n (calls.Shut n) answer
call_allows v b (calls.Close n) answer = socket_allows v b n (calls.Close n) answer
call_allows v b (calls.Abort n) answer = socket_allows v b n (calls.Abort n) answer
call_allows v b (calls.Status n) answer = socket_allows v b n (calls.Status n) answer

-- the endpoint of a live socket number changes
abbrev pub change_target : HostTcp → (Endpoint → Endpoint) → SocketTarget → HostTcp
change_target b f (ListenerAt l) = b
change_target b f (EndpointAt i) = with_endpoint b i f

abbrev pub change : HostTcp → ℕ → (Endpoint → Endpoint) → HostTcp
change b n f = option_map_or (change_target b f) (socket_target b n) b

-- the host afterwards; every other answer changes nothing. `shut` leaves the socket number live, `close` and `abort`
-- don't.
abbrev pub after_call : Profile → HostTcp → Call → Answer → HostTcp
after_call profile b (calls.Listen host port backlog) (answers.Given n) =
    with_socket (record b {
      listeners = b.listeners ++ record { port = port; backlog = backlog; is_open = true; queue = [] }
          ∷ [];
    }) n (ListenerAt (length b.listeners))
after_call profile b (calls.Connect host lport rport) (answers.Given n) =
    with_socket (record b {
      endpoints = b.endpoints ++ new_endpoint lport rport None states.SynSent profile
          ∷ [];
    }) n (EndpointAt (length b.endpoints))
after_call profile b (calls.Accept h) (answers.Given n) = option_map_or (after_accept b n) (socket_target b h) b
after_call profile b (calls.Send h bytes) (answers.Given n) = change b h (after_send bytes n)
after_call profile b (calls.Recv h most) (answers.Bytes bytes) = change b h (after_recv bytes)
after_call profile b (calls.Shut h) answers.Done = after_gone b h after_shut b.sockets
after_call profile b (calls.Close h) answers.Done = after_gone b h after_close (dead b.sockets h)
after_call profile b (calls.Abort h) answers.Done = after_gone b h after_abort (dead b.sockets h)
after_call profile b _ _ = b
