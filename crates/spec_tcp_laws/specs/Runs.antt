-- What the steps of a run show by themselves: what reads returned, what sends accepted, and which sendings were ended.
use Rattle.std.specs.Prelude.{ℕ, ◌==◌, nat_eq, Bool, false, ◌||◌, if◌then◌else◌, List, [], ◌∷◌, ◌++◌, take, Option}
use Rattle.std.specs.Prelude.{None, Some}
use Rattle.std.specs.Option.{option_map_or}
use Rattle.std.specs.Map.{lookup}
use Rattle.case_forms.specs.declared.trace.Header.{Header}
use Rattle.case_forms.specs.declared.calls.Call.{Call}
use Rattle.case_forms.specs.declared.calls.Call.TheVariants as calls
use Rattle.case_forms.specs.declared.calls.Answer.{Answer}
use Rattle.case_forms.specs.declared.calls.Answer.TheVariants as answers
use Rattle.spec_network.specs.Tables.{Both, pick}
use Rattle.spec_network.specs.Hosts.{HostState, Turn, Idle, Called, Answered, World, Step, Begin, Finish, Effect, At}
use Rattle.spec_network.specs.Hosts.{Stamped, turn_of}
use Rattle.spec_network.specs.HostSteps.{after, after_all, start}
use Rattle.spec_tcp.specs.declared.endpoint.EndpointId.{EndpointId}
use Rattle.spec_tcp.specs.declared.endpoint.SocketTarget.{SocketTarget}
use Rattle.spec_tcp.specs.declared.endpoint.SocketTarget.TheVariants.{ListenerAt, EndpointAt}
use Rattle.spec_tcp.specs.HostTcp.{HostTcp}
use Rattle.spec_tcp.specs.Machine.{tcp, tcp_shape}

-- the world at the end of a run
abbrev pub world_at_end : Header → List (Stamped tcp_shape) → World tcp_shape
world_at_end h steps = after_all (tcp h) (start (tcp h)) steps

-- the place of an endpoint with an identity
abbrev pub endpoint_place : SocketTarget → Option ℕ
endpoint_place (ListenerAt l) = None
endpoint_place (EndpointAt i) = Some i

-- the endpoint that this socket number was returned for at this host, if it was; live or not
abbrev pub owner : HostTcp → ℕ → Option ℕ
owner b socket = option_map_or (λ s. endpoint_place s.target) (lookup (nat_eq socket) b.sockets) None

-- the socket number was returned for that endpoint
abbrev pub is_socket_of : Both (HostState tcp_shape) → ℕ → EndpointId → Bool
is_socket_of hosts socket me = option_map_or (λ i. i == me.number) (owner (pick hosts me.host).body socket) false

-- the bytes that a call returned to the reads on a socket number
abbrev pub call_told : Call → Answer → ℕ → List ℕ
call_told (calls.Recv n most) (answers.Bytes bytes) socket = if n == socket then bytes else []
call_told _ _ socket = []

-- it returned the end to them
abbrev pub call_told_end : Call → Answer → ℕ → Bool
call_told_end (calls.Recv n most) answers.Eof socket = n == socket
call_told_end _ _ socket = false

-- the first bytes of a `send`, as many as it accepted, for this endpoint
abbrev pub call_accepted : Both (HostState tcp_shape) → Call → Answer → EndpointId → List ℕ
call_accepted hosts (calls.Send n bytes) (answers.Given count) me =
    if is_socket_of hosts n me then take count bytes else []
call_accepted hosts _ _ me = []

-- a `shut` or a `close` ended this endpoint's sending
abbrev pub call_ended : Both (HostState tcp_shape) → Call → Answer → EndpointId → Bool
call_ended hosts (calls.Shut n) answers.Done me = is_socket_of hosts n me
call_ended hosts (calls.Close n) answers.Done me = is_socket_of hosts n me
call_ended hosts _ _ me = false

-- the function's value for the call that is open and had no effect yet; else this
abbrev pub of_turn : {X : Type 0} → Turn tcp_shape → X → (Call → X) → X
of_turn Idle none f = none
of_turn (Called call) none f = f call
of_turn (Answered answer) none f = none

-- the function's value for the call whose effect a step is; else this
abbrev pub of_effect : {X : Type 0} → Header → World tcp_shape → Step tcp_shape → X → (Call → Answer → X) → X
of_effect h w (Begin line t call) none f = none
of_effect h w (Finish line t answer) none f = none
of_effect h w (Effect t answer) none f = of_turn (turn_of t w.threads) none (λ call. f call answer)
of_effect h w (At host host_step) none f = none

-- the bytes that the steps from this world on returned to the reads on a socket number, in order
abbrev pub told_from : Header → ℕ → World tcp_shape → List (Stamped tcp_shape) → List ℕ
told_from h socket w [] = []
told_from h socket w (x ∷ xs) =
    of_effect h w x.step [] (λ call answer. call_told call answer socket)
    ++ told_from h socket (after (tcp h) x.moment w x.step) xs

-- one of them returned the end to those reads
abbrev pub told_end_from : Header → ℕ → World tcp_shape → List (Stamped tcp_shape) → Bool
told_end_from h socket w [] = false
told_end_from h socket w (x ∷ xs) =
    of_effect h w x.step false (λ call answer. call_told_end call answer socket)
    || told_end_from h socket (after (tcp h) x.moment w x.step) xs

-- the bytes that they accepted from the sends on socket numbers of an endpoint, in order
abbrev pub accepted_from : Header → EndpointId → World tcp_shape → List (Stamped tcp_shape) → List ℕ
accepted_from h me w [] = []
accepted_from h me w (x ∷ xs) =
    of_effect h w x.step [] (λ call answer. call_accepted w.hosts call answer me)
    ++ accepted_from h me (after (tcp h) x.moment w x.step) xs

-- one of them ended its sending
abbrev pub ended_from : Header → EndpointId → World tcp_shape → List (Stamped tcp_shape) → Bool
ended_from h me w [] = false
ended_from h me w (x ∷ xs) =
    of_effect h w x.step false (λ call answer. call_ended w.hosts call answer me)
    || ended_from h me (after (tcp h) x.moment w x.step) xs

-- over a whole run: what the reads on a socket number returned
abbrev pub told_to : Header → ℕ → List (Stamped tcp_shape) → List ℕ
told_to h socket steps = told_from h socket (start (tcp h)) steps

-- whether they returned the end
abbrev pub was_told_end : Header → ℕ → List (Stamped tcp_shape) → Bool
was_told_end h socket steps = told_end_from h socket (start (tcp h)) steps

-- what the sends on socket numbers of an endpoint accepted
abbrev pub accepted_by : Header → EndpointId → List (Stamped tcp_shape) → List ℕ
accepted_by h me steps = accepted_from h me (start (tcp h)) steps

-- whether a `shut` or a `close` ended its sending
abbrev pub was_ended : Header → EndpointId → List (Stamped tcp_shape) → Bool
was_ended h me steps = ended_from h me (start (tcp h)) steps
