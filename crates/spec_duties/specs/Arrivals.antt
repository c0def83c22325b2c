-- What reaches an endpoint, as that reads it; the timestamps of a segment (RFC 7323, 3.2); and what one acknowledges
-- that is built or sent.
use Rattle.std.specs.Prelude.{ℕ, ◌-◌, ◌&&◌, if◌then◌else◌, List, Option, None, Some, slice_get}
use Rattle.std.specs.Option.{option_map_or}
use Rattle.segment.specs.Reading.{timestamps}
use Rattle.segment.specs.declared.options.TimestampPair.{TimestampPair}
use Rattle.case_forms.specs.Versions.{says_sender}
use Rattle.case_forms.specs.declared.steps.SegmentPlan.{SegmentPlan}
use Rattle.case_forms.specs.declared.trace.Wire.{Wire}
use Rattle.case_forms.specs.declared.version.Version.{Version}
use Rattle.spec_tcp.specs.Arrives.{Taker, Nobody, AtListener, AtEndpoint}
use Rattle.spec_tcp.specs.Endpoints.{rcv_nxt, segment_length}
use Rattle.spec_tcp.specs.Heard.{as_read}
use Rattle.spec_tcp.specs.HostTcp.{HostTcp, place_of}
use Rattle.spec_tcp.specs.Makes.Edges.{raised_at}
use Rattle.spec_tcp.specs.Wire.{is_before_text}
use Rattle.spec_tcp.specs.declared.endpoint.Emission.{Emission}
use Rattle.spec_tcp.specs.declared.endpoint.Endpoint.{Endpoint}
use Rattle.spec_duties.specs.Blocks.{reads_blocks}
pub use Rattle.spec_duties.specs.declared.observations.Arrival.{Arrival}

-- version 6 asks for the timestamps of what is sent, processed or dropped
abbrev pub stamps_read : Version → (bytes : List ℕ) → Option TimestampPair
stamps_read v bytes = if says_sender v then timestamps bytes else None

abbrev pub arrival_of : Emission → Arrival
arrival_of m = record { pos = m.pos; ack = m.ack; length = segment_length m }

-- and for what reaches an endpoint that knows the peer's SYN, but for resets; it reads the segment first
abbrev pub arrival_at : Version → Emission → Taker → Option Arrival
arrival_at v m Nobody = None
arrival_at v m (AtListener l) = None
arrival_at v m (AtEndpoint i e) = if reads_blocks v e m then Some (arrival_of (as_read v e m)) else None

-- the position that a segment acknowledges at least which an endpoint builds at a moment: before it is sent, it may
-- still have the number from before the text of that moment
abbrev pub acked_built : Endpoint → SegmentPlan → (moment : ℕ) → ℕ
acked_built e m moment = if m.flags.ack then rcv_nxt e - raised_at e m moment else 0

-- the same at the endpoint of its ports; version 6 asks
abbrev pub acked_at_ports : Version → HostTcp → SegmentPlan → (moment : ℕ) → ℕ
acked_at_ports v b m moment =
    if says_sender v
    then option_map_or (λ i. option_map_or (λ e. acked_built e m moment) (slice_get b.endpoints i) 0)
    (place_of b m.lport m.rport) 0
    else 0

-- the position that its line shows
abbrev pub acked_sent : Version → Wire → Emission → ℕ
acked_sent v wire m =
    if says_sender v && m.flags.ack then (if is_before_text wire m then m.ack - m.raised else m.ack) else 0
