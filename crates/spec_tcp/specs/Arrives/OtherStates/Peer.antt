-- Whose segment arrives, tested before any test of RFC 9293, 3.10.7.4 (specific to this profile).
use Rattle.std.specs.Prelude.{Bool, true, false, ◌&&◌, if◌then◌else◌}
use Rattle.std.specs.Option.{option_map_or}
use Rattle.spec_tcp.specs.Endpoints.{EndpointId, Endpoint, Emission}
use Rattle.spec_tcp.specs.Same.{same_endpoint}

-- the peer built it for this endpoint, or before it knew its peer; a reset in answer must answer this endpoint
abbrev pub is_from_peer : EndpointId → Endpoint → Emission → Bool
is_from_peer me e m =
    if m.is_reset_reply then same_endpoint m.sender me
    else option_map_or (λ peer. same_endpoint peer m.sender) e.stream.peer false && option_map_or
    (λ peer_at_send. same_endpoint peer_at_send me) m.peer_at_send true
