-- The state of a host: endpoints in the order of creation, listeners, and the sockets that name them; and look-ups in
-- it (RFC 9293, 3.3.1 and 3.9.1.1).
use Rattle.std.specs.Prelude.{ℕ, suc, ◌==◌, nat_eq, Bool, true, false, not, ◌&&◌, if◌then◌else◌, List, [], ◌∷◌}
use Rattle.std.specs.Prelude.{slice_get, Option, None, Some, is_some}
use Rattle.std.specs.Map.{lookup}
use Rattle.std.specs.Option.{option_map_or}
use Rattle.indexmap.specs.IndexMap.{insert_entry}
use Rattle.case_forms.specs.States.{is_closed}
use Rattle.streams.specs.Lists.{modify}
use Rattle.spec_tcp.specs.Endpoints.{Endpoint, Listener, SocketTarget, Socket}

-- the state of a host
pub record HostTcp : Type 0 where
  pub endpoints : List Endpoint
  pub listeners : List Listener
  pub sockets : List (ℕ × Socket)

abbrev pub empty : HostTcp
empty = record { endpoints = []; listeners = []; sockets = [] }

-- the endpoint has these ports
abbrev pub has_ports : ℕ → ℕ → Endpoint → Bool
has_ports lport rport e = e.lport == lport && e.rport == rport

-- the place of the last element with a property; the first element has this place
abbrev pub last_from : {X : Type 0} → (X → Bool) → ℕ → Option ℕ → List X → Option ℕ
last_from test place found [] = found
last_from test place found (x ∷ xs) = last_from test (suc place) (if test x then Some place else found) xs

-- the endpoint at some ports is the last one created there
abbrev pub place_of : HostTcp → ℕ → ℕ → Option ℕ
place_of b lport rport = last_from (has_ports lport rport) 0 None b.endpoints

abbrev pub endpoint_at : HostTcp → Option ℕ → Option Endpoint
endpoint_at b place = option_map_or (λ i. slice_get b.endpoints i) place None

-- the endpoint at some ports, closed or not
abbrev pub endpoint_of : HostTcp → ℕ → ℕ → Option Endpoint
endpoint_of b lport rport = endpoint_at b (place_of b lport rport)

-- an endpoint at these ports exists and is not CLOSED
abbrev pub is_connected : HostTcp → ℕ → ℕ → Bool
is_connected b lport rport = option_map_or (λ e. not (is_closed e.state)) (endpoint_of b lport rport) false

-- one endpoint changes
abbrev pub with_endpoint : HostTcp → ℕ → (Endpoint → Endpoint) → HostTcp
with_endpoint b place f = record b { endpoints = modify b.endpoints place f }

-- the endpoint at these ports changes
abbrev pub at_ports : HostTcp → ℕ → ℕ → (Endpoint → Endpoint) → HostTcp
at_ports b lport rport f = option_map_or (λ i. with_endpoint b i f) (place_of b lport rport) b

-- the listener is open on this port
abbrev pub listens_on : ℕ → Listener → Bool
listens_on port l = l.is_open && l.port == port

-- the place of the open listener on a port
abbrev pub listener_on : HostTcp → ℕ → Option ℕ
listener_on b port = last_from (listens_on port) 0 None b.listeners

abbrev pub is_listening : HostTcp → ℕ → Bool
is_listening b port = is_some (listener_on b port)

-- the children in a listener's queue
abbrev pub queue_of : HostTcp → ℕ → List ℕ
queue_of b l = option_map_or (λ x. x.queue) (slice_get b.listeners l) []

-- the listener is closed: only `shut` leaves its socket number live then
abbrev pub has_ended : HostTcp → ℕ → Bool
has_ended b l = option_map_or (λ x. not x.is_open) (slice_get b.listeners l) false

-- the socket number was returned at this host
abbrev pub given : HostTcp → ℕ → Bool
given b n = is_some (lookup (nat_eq n) b.sockets)

abbrev pub if_live : Socket → Option SocketTarget
if_live s = if s.live then Some s.target else None

-- what a live socket number names
abbrev pub socket_target : HostTcp → ℕ → Option SocketTarget
socket_target b n = option_map_or if_live (lookup (nat_eq n) b.sockets) None

-- a socket number is returned
abbrev pub with_socket : HostTcp → ℕ → SocketTarget → HostTcp
with_socket b n target =
    record b { sockets = insert_entry nat_eq b.sockets n (record { target = target; live = true }) }

-- the socket number is no longer live
abbrev pub dead : List (ℕ × Socket) → ℕ → List (ℕ × Socket)
dead sockets n =
    option_map_or (λ s. insert_entry nat_eq sockets n (record s { live = false })) (lookup (nat_eq n) sockets) sockets
