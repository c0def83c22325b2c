-- What a host may discard: delivered bytes, and bytes and transmissions below the oldest unacknowledged position. Fixed
-- values take their places.
use Rattle.std.specs.Prelude.{map}
use Rattle.streams.specs.Forgetting.{below, forgotten, made_below}
use Rattle.spec_network.specs.Hosts.{HostState, World}
use Rattle.spec_tcp.specs.Endpoints.{Endpoint}
use Rattle.spec_tcp.specs.HostTcp.{HostTcp}
use Rattle.spec_tcp.specs.Machine.{tcp_shape}

abbrev pub forget_endpoint : Endpoint → Endpoint
forget_endpoint e = record e {
  stream =
      record e.stream { accepted = below e.stream.snd_una e.stream.accepted; receive = forgotten e.stream.receive };
  transmissions = made_below e.stream.snd_una e.transmissions;
}

abbrev pub forget_body : HostTcp → HostTcp
forget_body b = record b { endpoints = map forget_endpoint b.endpoints }

abbrev pub forget_host : HostState tcp_shape → HostState tcp_shape
forget_host h = record h { body = forget_body h.body }

abbrev pub forget : World tcp_shape → World tcp_shape
forget w = record w { hosts = record { zero = forget_host w.hosts.zero; one = forget_host w.hosts.one } }
