-- Books written out, for facts that are computed: entries, the segments in them, and a header.
use Rattle.std.proofs.Common.{ℕ, Bool, false, List, Option, None}
use Rattle.std.specs.Option.{option_map}
use Rattle.case_forms.specs.declared.calls.Host.{Host}
use Rattle.case_forms.specs.declared.steps.Flags.{Flags}
use Rattle.case_forms.specs.declared.trace.Header.{Header}
use Rattle.case_forms.specs.declared.trace.Wire.{Wire}
use Rattle.spec_tcp.proofs.Telling as telling
use Rattle.spec_network.specs.Hosts.{Stamped, Step}
use Rattle.spec_merge.specs.Books.{Bring, Do, Key}
use Rattle.spec_tcp.specs.declared.endpoint.Emission.{Emission}
use Rattle.spec_tcp.specs.declared.endpoint.EndpointId.{EndpointId}
use Rattle.spec_tcp.specs.Machine.{tcp_shape}
use Rattle.case_forms.specs.declared.steps.SegmentPlan.{SegmentPlan}
use Rattle.case_forms.specs.declared.steps.TakeChoice.{TakeChoice}
use Rattle.spec_merge.specs.Recordings.{TcpEntry}

abbrev pub header : Header
header = telling.header 120000000 0

-- a segment on the wire, without options
abbrev pub packet : (src dst seq ack flags : ℕ) → List ℕ → Wire
packet src dst seq ack flags payload = telling.packet src dst seq ack flags 65535 None payload

-- a segment to be made, with the initial number where it is the first
abbrev pub making : (lport rport pos len : ℕ) → Flags → Option ℕ → SegmentPlan
making lport rport pos len made iss =
    record {
      lport = lport;
      rport = rport;
      pos = pos;
      len = len;
      flags = made;
      window = 65535;
      iss = option_map (λ n. record { 0 = n }) iss;
      shift = None;
    }

-- the choices at taking one
abbrev pub how : (cwnd : ℕ) (keep sample : Bool) → TakeChoice
how cwnd keep sample = record { cwnd = cwnd; keep = keep; sample = sample }

-- the first endpoint of a host
abbrev pub first_of : Host → EndpointId
first_of host = record { host = host; number = 0 }

-- what went out at a moment: its sender and the peer that was known, its positions, its flags as made, and as it was shown
abbrev pub emission : Host → Option EndpointId → (pos ack moment : ℕ) → Flags → Wire → Emission
emission host peer_at_send pos ack moment made wire = record {
  sender = first_of host;
  peer_at_send = peer_at_send;
  lport = wire.seg.src;
  rport = wire.seg.dst;
  pos = pos;
  ack = ack;
  seq = wire.seg.seq;
  ack_seq = wire.seg.ack;
  raised = 0;
  flags = made;
  window = wire.seg.window;
  payload = wire.seg.payload;
  shift = None;
  scaled = false;
  is_reset_reply = false;
  bytes = wire.bytes;
  mss = wire.seg.mss;
  scale = wire.seg.scale;
  moment = moment;
}

abbrev pub key : (moment counter : ℕ) → Host → Key
key moment counter host = record { moment = moment; counter = counter; host = host }

-- a step of a host, and a segment that is brought, with the key and the line with which it went out
abbrev pub does : (moment counter : ℕ) → Host → Step tcp_shape → TcpEntry
does moment counter host step = record { key = key moment counter host; item = Do step }

abbrev pub brings : (moment counter : ℕ) → Host → Key → (line : ℕ) → Emission → TcpEntry
brings moment counter host sent line m = record { key = key moment counter host; item = Bring (record { key = sent; line = line; emission = m }) }

-- a step of both hosts' run
abbrev pub stamped : ℕ → Step tcp_shape → Stamped tcp_shape
stamped moment step = record { moment = moment; step = step }
