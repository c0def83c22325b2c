-- When a call has no answer yet.
use Rattle.std.specs.Prelude.{◌≡◌, ◌≤◌, ◌⊎◌, ◌-◌, ℕ, max, Bool, true, false, Option, None, Some, slice_get}
use Rattle.std.specs.Option.{IsSomeAnd, option_map_or}
use Rattle.case_forms.specs.declared.calls.Answer.{Answer}
use Rattle.case_forms.specs.declared.calls.Answer.TheVariants as answers
use Rattle.case_forms.specs.declared.calls.Call.{Call}
use Rattle.case_forms.specs.declared.calls.Call.TheVariants as calls
use Rattle.case_forms.specs.declared.calls.State.{State}
use Rattle.case_forms.specs.declared.calls.State.TheVariants as states
use Rattle.case_forms.specs.declared.version.Version.{Version}
use Rattle.streams.specs.Sent.{end_of}
use Rattle.spec_tcp.specs.HostTcp.{HostTcp, socket_target}
use Rattle.spec_tcp.specs.Calls.{call_allows}
use Rattle.spec_tcp.specs.declared.endpoint.Endpoint.{Endpoint}
use Rattle.spec_tcp.specs.declared.endpoint.SocketTarget.{SocketTarget}
use Rattle.spec_tcp.specs.declared.endpoint.SocketTarget.TheVariants.{ListenerAt, EndpointAt}

-- the answer says that the call has to be repeated
abbrev pub is_again : Answer → Bool
is_again answers.Again = true
is_again answer = false

-- a call on a socket number
abbrev pub IsOnSocket : Call → Type 0
IsOnSocket (calls.Listen host port backlog) = ⊥
IsOnSocket (calls.Connect host lport rport) = ⊥
IsOnSocket call = Unit {0}

-- the handshake is not done (RFC 9293, 3.5)
abbrev pub is_before_handshake : State → Bool
is_before_handshake states.SynSent = true
is_before_handshake states.SynReceived = true
is_before_handshake state = false

-- how many accepted bytes aren't acknowledged yet
abbrev pub unacknowledged : Endpoint → ℕ
unacknowledged e = end_of e.stream.accepted - max e.stream.snd_una 1

-- a send waits: before the handshake is done, or while the ring is full
abbrev pub SendWaits : ℕ → Endpoint → Type 0
SendWaits ring e = (is_before_handshake e.state ≡ true) ⊎ (ring ≤ unacknowledged e)

abbrev pub IfSendWaits : ℕ → Endpoint → Call → Type 0
IfSendWaits ring e (calls.Send n bytes) = SendWaits ring e
IfSendWaits ring e call = Unit {0}

-- the endpoint that a live socket number names
abbrev pub target_endpoint : HostTcp → SocketTarget → Option Endpoint
target_endpoint b (ListenerAt l) = None
target_endpoint b (EndpointAt i) = slice_get b.endpoints i

abbrev pub endpoint_named : HostTcp → ℕ → Option Endpoint
endpoint_named b n = option_map_or (target_endpoint b) (socket_target b n) None

-- a send on this socket number waits at the endpoint that it names
abbrev pub WaitsAt : ℕ → HostTcp → ℕ → Call → Type 0
WaitsAt ring b n call = (e : Endpoint) → endpoint_named b n ≡ Some e → IfSendWaits ring e call

abbrev pub IfSendingWaits : ℕ → HostTcp → Call → Type 0
IfSendingWaits ring b (calls.Send n bytes) = WaitsAt ring b n (calls.Send n bytes)
IfSendingWaits ring b call = Unit {0}

-- a call waits: it may be answered `again` in a text of this version, and a send waits for the handshake or for room in
-- the ring
abbrev pub Waits : Version → ℕ → HostTcp → Call → Type 0
Waits v ring b call = (call_allows v b call answers.Again ≡ true) × IfSendingWaits ring b call

-- each live socket number of an endpoint has its endpoint
abbrev pub IsNamed : HostTcp → Type 0
IsNamed b = (n i : ℕ) → socket_target b n ≡ Some (EndpointAt i) → IsSomeAnd (slice_get b.endpoints i) (λ e. Unit {0})
