-- How a made segment is sent.
use Rattle.std.specs.Prelude.{◌≡◌, ◌≤◌, ℕ, ◌+◌, nat_eq, true, if◌then◌else◌, [], length, Option, None, Some}
use Rattle.std.specs.Map.{lookup}
use Rattle.seqno.specs.declared.word.Word.{Word}
use Rattle.case_forms.specs.declared.steps.Flags.{Flags}
use Rattle.case_forms.specs.declared.trace.Wire.{Wire}
use Rattle.segment.specs.declared.fields.Segment.{Segment}
use Rattle.spec_network.specs.Tables.{pick, unsent}
use Rattle.spec_network.specs.Hosts.{At, Sends}
use Rattle.spec_tcp.specs.declared.endpoint.Emission.{Emission}
use Rattle.spec_tcp.specs.Machine.{tcp_shape}
use Rattle.spec_tcp.specs.Makes.Kind.{word_zero}
use Rattle.spec_tcp.specs.Wire.{matches_sent, sent}
use Rattle.spec_merge.specs.Books.{Flying}
use Rattle.stack_core.specs.Cores.{Core, line_to_come, with_step, world}
use Rattle.stack_core.specs.Keys.{key_of}

-- the flags in the byte of the header
abbrev pub flag_bits : Flags → ℕ
flag_bits f = (if f.ack then 16 else 0) + (if f.rst then 4 else 0) + (if f.syn then 2 else 0) + (if f.fin then 1 else 0)

-- a SYN carries the shift that its sender gave (RFC 7323, 2.2)
abbrev pub told_shift : Emission → Option ℕ
told_shift m = if m.flags.syn then m.shift else None

-- the number that it acknowledges, or 0 without ACK
abbrev pub told_ack : Emission → Word
told_ack m = if m.flags.ack then m.ack_seq else word_zero

-- a made segment as it is sent, with this MSS option if there is one
abbrev pub segment_of : Emission → Option ℕ → Segment
segment_of m mss =
    record {
      src = m.lport;
      dst = m.rport;
      seq = m.seq;
      ack = told_ack m;
      flags = flag_bits m.flags;
      window = m.window;
      mss =
          mss;
      scale = told_shift m;
      options = [];
      payload = m.payload;
    }

-- the greatest payload that a core sends: with a header and the options that are written it fits into a segment
abbrev pub greatest_payload : ℕ
greatest_payload = 65487

-- a segment under this number was made and wasn't sent
pub record WaitsToGo (c : Core) (number : ℕ) : Type 0 where
  pub emission : Emission
  pub found : lookup (nat_eq number) (pick (world c).hosts c.recorded.me).made ≡ Some (unsent emission)
  pub short : length emission.payload ≤ greatest_payload

-- it may be sent like this, and this is then in transit
pub record MayGo (c : Core) (number : ℕ) (wire : Wire) (f : Flying tcp_shape) : Type 0 where
  pub emission : Emission
  pub found : lookup (nat_eq number) (pick (world c).hosts c.recorded.me).made ≡ Some (unsent emission)
  pub shown : matches_sent c.recorded.header wire emission ≡ true
  pub flying : f ≡ record {
    key = key_of c.recorded.me c.last;
    line = line_to_come c;
    emission = sent c.last.moment wire emission;
  }

-- the segment that was made under this number was sent: its line; this is in transit, and on its host's wire under that
-- line
pub record GoesOut (c : Core) (number : ℕ) (f : Flying tcp_shape) (d : Core) : Type 0 where
  pub wire : Wire
  pub row : d ≡ with_step c (At c.recorded.me (Sends (line_to_come c) number wire))
  pub key : f.key ≡ key_of c.recorded.me c.last
  pub line : f.line ≡ line_to_come c
  pub stands : lookup (nat_eq f.line) (pick (world d).hosts c.recorded.me).wire ≡ Some f.emission
