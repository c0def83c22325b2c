-- Segments from a host that is not recorded: only their bytes are known, so their numbers are read near the expected
-- positions (specific to this profile).
use Rattle.std.specs.Prelude.{ℕ, nat_le, false, not, ◌&&◌, if◌then◌else◌, take, Option, None}
use Rattle.std.specs.Option.{option_map_or}
use Rattle.segment.specs.Flags.{has_flag}
use Rattle.segment.specs.declared.fields.Segment.{Segment}
use Rattle.segment.specs.declared.flag.Flag.TheVariants.{Ack, Fin, Rst, Syn}
use Rattle.seqno.specs.Near.{near_position}
use Rattle.seqno.specs.declared.word.Word.{Word}
use Rattle.case_forms.specs.Versions.{is_half}
use Rattle.case_forms.specs.declared.calls.Host.TheVariants.{One}
use Rattle.case_forms.specs.declared.steps.Flags.{Flags}
use Rattle.case_forms.specs.declared.trace.Wire.{Wire}
use Rattle.case_forms.specs.declared.version.Version.{Version}
use Rattle.spec_tcp.specs.Bounds.{greatest_position}
use Rattle.spec_tcp.specs.Endpoints.{EndpointId, Endpoint, Emission, rcv_nxt, is_scaling}

-- every segment from the host that is not recorded has this sender
abbrev pub far_name : EndpointId
far_name = record { host = One; number = 0 }

abbrev pub told_flags : Segment → Flags
told_flags s =
    record {
      ack = has_flag s.flags Ack;
      rst = has_flag s.flags Rst;
      syn = has_flag s.flags Syn;
      fin = has_flag s.flags Fin;
    }

-- no segment carries more bytes: its length field has 16 bits (RFC 9293, 3.7.1, and RFC 791, 3.1)
abbrev pub most_bytes : ℕ
most_bytes = 65535

-- a segment from its bytes; each reset counts as one in answer to a segment, whose acknowledgment isn't read
abbrev pub heard : ℕ → Wire → Emission
heard moment wire = record {
  sender = far_name;
  peer_at_send = None;
  lport = wire.seg.src;
  rport = wire.seg.dst;
  pos = 0;
  ack = 0;
  seq = wire.seg.seq;
  ack_seq = wire.seg.ack;
  raised = 0;
  flags = told_flags wire.seg;
  window = wire.seg.window;
  payload = take most_bytes wire.seg.payload;
  shift = None;
  scaled = false;
  is_reset_reply = has_flag wire.seg.flags Rst;
  bytes = wire.bytes;
  mss = wire.seg.mss;
  scale = wire.seg.scale;
  moment = moment;
}

-- a position, or 0 if there is none, or none that a text could contain: then the number doesn't read back
abbrev pub readable : Option ℕ → ℕ
readable position = option_map_or (λ p. if nat_le p greatest_position then p else 0) position 0

-- the position that a number has near another
abbrev pub position_near : ℕ → Option Word → Word → ℕ
position_near near base w = readable (option_map_or (λ b. near_position near b w) base None)

-- with the positions that its numbers have at the endpoint that receives it, and with windows scaled as they are there
abbrev pub read_at : Endpoint → Emission → Emission
read_at e m = record m {
  pos = position_near (rcv_nxt e) e.irs m.seq;
  ack = if m.flags.ack && not m.flags.rst then position_near e.stream.snd_una e.iss m.ack_seq else 0;
  scaled = is_scaling e;
}

-- a segment as its receiving endpoint reads it: that of a recorded host doesn't change
abbrev pub as_read : Version → Endpoint → Emission → Emission
as_read version e m = if is_half version then read_at e m else m
