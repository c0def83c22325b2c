-- Which endpoints of a host a step may change, besides one that it creates.
use Rattle.std.specs.Prelude.{ℕ, List, [], ◌∷◌, Option, None, Some}
use Rattle.std.specs.Option.{option_map_or}
use Rattle.case_forms.specs.declared.calls.Call.{Call}
use Rattle.case_forms.specs.declared.calls.Call.TheVariants as calls
use Rattle.case_forms.specs.declared.calls.Host.{Host}
use Rattle.spec_network.specs.Tables.{on, pick, waiting}
use Rattle.spec_network.specs.Hosts.{Answers, At, Begin, HostStep, Does, Drops, Effect, Expires, Finish, Gets, Hears}
use Rattle.spec_network.specs.Hosts.{HostState, Makes, Sends, Step, Takes, World, turn_of}
use Rattle.spec_tcp.specs.HostTcp.{HostTcp, place_of, queue_of, socket_target}
use Rattle.spec_tcp.specs.declared.endpoint.SocketTarget.{SocketTarget}
use Rattle.spec_tcp.specs.declared.endpoint.SocketTarget.TheVariants.{ListenerAt, EndpointAt}
use Rattle.spec_tcp.specs.Machine.{tcp_shape}
use Rattle.endpoint_state.specs.Turns.{pending_call}
use Rattle.stack_core.specs.declared.deadline_queue.Affected.{Affected}
use Rattle.stack_core.specs.declared.deadline_queue.Affected.TheVariants.{All, Nobody, Place}

abbrev pub affected_at : Option ℕ → Affected
affected_at None = Nobody
affected_at (Some i) = Place i

-- the first child of a queue
abbrev pub affected_in_queue : List ℕ → Affected
affected_in_queue [] = Nobody
affected_in_queue (child ∷ queue) = Place child

-- the endpoint that a socket number names
abbrev pub affected_target : SocketTarget → Affected
affected_target (ListenerAt l) = Nobody
affected_target (EndpointAt i) = Place i

-- what ends with what it names: a listener's children
abbrev pub affected_by_end : SocketTarget → Affected
affected_by_end (ListenerAt l) = All
affected_by_end (EndpointAt i) = Place i

abbrev pub affected_by_accept : HostTcp → SocketTarget → Affected
affected_by_accept b (ListenerAt l) = affected_in_queue (queue_of b l)
affected_by_accept b (EndpointAt i) = Nobody

-- a call's effect
abbrev pub affected_by_call : HostTcp → Call → Affected
affected_by_call b (calls.Listen host port backlog) = Nobody
affected_by_call b (calls.Connect host lport rport) = Nobody
affected_by_call b (calls.Await n) = Nobody
affected_by_call b (calls.Accept n) = option_map_or (affected_by_accept b) (socket_target b n) Nobody
affected_by_call b (calls.Send n bytes) = option_map_or affected_target (socket_target b n) Nobody
affected_by_call b (calls.Recv n most) = option_map_or affected_target (socket_target b n) Nobody
affected_by_call b (calls.Shut n) = option_map_or affected_by_end (socket_target b n) Nobody
affected_by_call b (calls.Close n) = option_map_or affected_by_end (socket_target b n) Nobody
affected_by_call b (calls.Abort n) = option_map_or affected_by_end (socket_target b n) Nobody
affected_by_call b (calls.Status n) = Nobody

-- what a host does
abbrev pub affected_by_host_step : HostState tcp_shape → HostStep tcp_shape → Affected
affected_by_host_step s (Does x) = affected_at (place_of s.body x.lport x.rport)
affected_by_host_step s (Expires line x) = affected_at (place_of s.body x.lport x.rport)
affected_by_host_step s (Makes plan) = affected_at (place_of s.body plan.lport plan.rport)
affected_by_host_step s (Sends line number wire) = Nobody
affected_by_host_step s (Gets line copied wire) = Nobody
affected_by_host_step s (Hears line wire) = Nobody
affected_by_host_step s (Takes line choice) =
    on (waiting line s.inbox) Nobody (λ m. affected_at (place_of s.body m.rport m.lport))
affected_by_host_step s (Drops line) = Nobody
affected_by_host_step s (Answers line) = Nobody

-- the effect of a thread's call
abbrev pub affected_by_effect : Host → World tcp_shape → ℕ → Affected
affected_by_effect me w t =
    option_map_or (affected_by_call (pick w.hosts me).body) (pending_call (turn_of t w.threads)) Nobody

-- a step of this host
abbrev pub affected_by : Host → World tcp_shape → Step tcp_shape → Affected
affected_by me w (Begin line t call) = Nobody
affected_by me w (Finish line t answer) = Nobody
affected_by me w (Effect t answer) = affected_by_effect me w t
affected_by me w (At host host_step) = affected_by_host_step (pick w.hosts me) host_step
