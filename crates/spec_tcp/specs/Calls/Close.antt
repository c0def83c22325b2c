-- CLOSE and ABORT: the answers they may have, and the host afterwards (RFC 9293, 3.10.4 and 3.10.5).
use Rattle.std.specs.Prelude.{ℕ, ◌==◌, Bool, true, false, not, ◌&&◌, ◌||◌, if◌then◌else◌, List, map, is_some}
use Rattle.std.specs.Option.{option_map_or}
use Rattle.case_forms.specs.States.{is_closed, is_syn_sent}
use Rattle.case_forms.specs.Versions.{says_sender}
use Rattle.case_forms.specs.declared.calls.Answer.{Answer}
use Rattle.case_forms.specs.declared.calls.Answer.TheVariants as answers
use Rattle.case_forms.specs.declared.calls.State.{State}
use Rattle.case_forms.specs.declared.calls.State.TheVariants as states
use Rattle.case_forms.specs.declared.version.Version.{Version}
use Rattle.streams.specs.Lists.{modify}
use Rattle.timer_rules.specs.Timers.{all_stopped}
use Rattle.spec_tcp.specs.Endpoints.{Endpoint, Socket, SocketTarget, ListenerAt, EndpointAt}
use Rattle.spec_tcp.specs.HostTcp.{HostTcp, with_endpoint, socket_target}
use Rattle.spec_tcp.specs.Calls.Await.{tells_fault}

-- sending was ended, or the endpoint is CLOSED: from version 6 on, `shut` may say so (RFC 9293, 3.10.4: "error:
-- connection closing", "error: connection does not exist")
abbrev pub is_shut_already : Version → Endpoint → Bool
is_shut_already v e = says_sender v && (e.stream.ended || is_closed e.state)

-- `shut`; in SYN-SENT it may end the connection from version 6 on (RFC 9293, 3.10.4)
abbrev pub shut_allows : Version → Endpoint → Answer → Bool
shut_allows v e answers.Done = not (is_some e.fault) && (says_sender v || not (is_syn_sent e.state))
shut_allows v e answers.NotConn = is_some e.fault || is_syn_sent e.state || is_shut_already v e
shut_allows v e answer = tells_fault e answer

-- the endpoint is CLOSED: its timers are off
abbrev pub shut_down : Endpoint → Endpoint
shut_down e = record e { state = states.Closed; timers = all_stopped e.timers }

-- the state once sending is ended: a FIN is to be sent (RFC 9293, 3.10.4)
abbrev pub ended_state : State → State
ended_state states.Established = states.FinWait1
ended_state states.CloseWait = states.LastAck
ended_state state = state

-- sending is ended
abbrev pub after_ending : Endpoint → Endpoint
after_ending e = record e { stream = record e.stream { ended = true }; state = ended_state e.state }

-- `shut`: sending is ended, and an endpoint in SYN-SENT is CLOSED
abbrev pub after_shut : Endpoint → Endpoint
after_shut e =
    if is_syn_sent e.state then shut_down (record e { stream = record e.stream { ended = true } }) else after_ending e

-- `close`: like `shut`, and the user is done with the endpoint
abbrev pub after_close : Endpoint → Endpoint
after_close e = record (after_shut e) { closed = true }

-- an abort in these states makes a reset due (RFC 9293, 3.10.5)
abbrev pub resets_at_abort : State → Bool
resets_at_abort states.SynReceived = true
resets_at_abort states.Established = true
resets_at_abort states.FinWait1 = true
resets_at_abort states.FinWait2 = true
resets_at_abort states.CloseWait = true
resets_at_abort _ = false

-- `abort`: CLOSED at once
abbrev pub after_abort : Endpoint → Endpoint
after_abort e = record (shut_down e) { reset_due = e.reset_due || resets_at_abort e.state }

-- a child of that listener that was not accepted is aborted
abbrev pub orphaned : ℕ → Endpoint → Endpoint
orphaned l e = if option_map_or (λ holder. holder == l) e.listener false then after_abort e else e

-- a listener is closed, and with it its children that were not accepted
abbrev pub without_listener : HostTcp → ℕ → HostTcp
without_listener b l =
    record b {
      endpoints = map (orphaned l) b.endpoints;
      listeners = modify b.listeners l
          (λ x. record x { is_open = false });
    }

-- `shut`, `close` and `abort` of what a socket number names
abbrev pub target_gone : HostTcp → SocketTarget → (Endpoint → Endpoint) → HostTcp
target_gone b (ListenerAt l) f = without_listener b l
target_gone b (EndpointAt i) f = with_endpoint b i f

-- the host then, with these socket numbers
abbrev pub after_gone : HostTcp → ℕ → (Endpoint → Endpoint) → List (ℕ × Socket) → HostTcp
after_gone b n f sockets =
    option_map_or (λ target. record (target_gone b target f) { sockets = sockets }) (socket_target b n) b
