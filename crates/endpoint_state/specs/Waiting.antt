-- What a call needs when it has its effect.
use Rattle.std.specs.Prelude.{◌≡◌, ◌≤◌, ℕ, List, Some, length, slice_get}
use Rattle.streams.specs.Received.{waiting}
use Rattle.spec_tcp.specs.HostTcp.{HostTcp, socket_target}
use Rattle.spec_tcp.specs.declared.endpoint.Endpoint.{Endpoint}
use Rattle.spec_tcp.specs.declared.endpoint.SocketTarget.TheVariants.{EndpointAt}

-- as many bytes wait at the endpoint that a socket number names
abbrev pub AreWaiting : HostTcp → ℕ → List ℕ → Type 0
AreWaiting b n bytes =
    (i : ℕ) (e : Endpoint) → socket_target b n ≡ Some (EndpointAt i) → slice_get b.endpoints i ≡ Some e
    → length bytes ≤ length (waiting e.stream.receive)
