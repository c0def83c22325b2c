-- Segments sent and received, as bytes on the wire (RFC 9293, 3.1 and 3.4.2; RFC 7323, 2.2).
use Rattle.std.specs.Prelude.{ℕ, ◌+◌, ◌-◌, ◌==◌, nat_lt, min, Bool, true, false, not, ◌&&◌, ◌||◌, if◌then◌else◌, List}
use Rattle.std.specs.Prelude.{[], ◌∷◌}
use Rattle.std.specs.Option.{option_map_or}
use Rattle.segment.specs.Flags.{has_flag}
use Rattle.segment.specs.declared.fields.Segment.{Segment}
use Rattle.segment.specs.declared.flag.Flag.TheVariants.{Ack, Fin, Rst, Syn}
use Rattle.seqno.specs.Numbers.{number_of}
use Rattle.seqno.specs.declared.word.Word.{Word}
use Rattle.case_forms.specs.Versions.{says_sender, scales}
use Rattle.case_forms.specs.declared.steps.Flags.{Flags}
use Rattle.case_forms.specs.declared.trace.Header.{Header}
use Rattle.case_forms.specs.declared.trace.Wire.{Wire}
use Rattle.case_forms.specs.declared.version.Version.{Version}
use Rattle.verdict.specs.declared.rule.Rule.{Rule}
use Rattle.verdict.specs.declared.rule.Rule.TheVariants as rules
use Rattle.spec_tcp.specs.Endpoints.{Emission}
use Rattle.spec_tcp.specs.Same.{same_bool, same_word, same_bytes}

-- the flags RST, SYN and FIN are those of the built segment; all others but ACK are read and ignored
abbrev pub same_flags : Segment → Flags → Bool
same_flags s f =
    same_bool (has_flag s.flags Rst) f.rst && same_bool (has_flag s.flags Syn) f.syn && same_bool
    (has_flag s.flags Fin) f.fin

-- the segment may acknowledge: as it was built, or in version 6 any reset in answer to a segment (RFC 9293, 3.5.2 and
-- 3.10.7.1, ask for no acknowledgment in answer to one with ACK, but don't forbid it)
abbrev pub may_acknowledge : Version → Emission → Bool
may_acknowledge v m = m.flags.ack || says_sender v && m.is_reset_reply

-- the acknowledgment number is that of the built segment, or from version 6 on that from before the text which was
-- taken at the moment of building: RFC 9293, 3.10.7.4, processes a segment's acknowledgment before its text
abbrev pub acknowledges : Version → Word → Emission → Bool
acknowledges version ack m =
    same_word ack m.ack_seq
    || says_sender version && nat_lt 0 m.raised && same_word (number_of ack m.raised) m.ack_seq

-- a segment with ACK may have it, and its number; one without is built without
abbrev pub ack_matches : Version → Segment → Emission → Bool
ack_matches v s m = if has_flag s.flags Ack then may_acknowledge v m && acknowledges v s.ack m else not m.flags.ack

-- the fields are those of the built segment: the window of all except a reset in answer to a segment
abbrev pub header_matches : Version → Segment → Emission → Bool
header_matches v s m =
    s.src == m.lport && s.dst == m.rport && same_word s.seq m.seq && ack_matches v s m && same_flags s m.flags
    && (m.is_reset_reply || s.window == m.window) && same_bytes s.payload m.payload

-- a SYN carries the shift that its sender gave, or none (RFC 7323, 2.2); a byte above 14 is read as 14 (RFC 7323, 2.3)
abbrev pub shift_matches : Segment → Emission → Bool
shift_matches s m =
    option_map_or (λ told. option_map_or (λ given. min told 14 == min given 14) m.shift false) s.scale true

-- the segment on the wire is the built one; shifts are compared if windows may be scaled
abbrev pub matches_sent : Header → Wire → Emission → Bool
matches_sent h wire m =
    header_matches h.version wire.seg m && (not (scales h.version && m.flags.syn) || shift_matches wire.seg m)

-- the segment sent is the built one
abbrev pub out_rules : Header → Wire → Emission → List (Rule × Bool)
out_rules h wire m = (rules.BytesDiffer, not (matches_sent h wire m)) ∷ []

-- a reset in answer to a segment acknowledges if the segment on the wire does
abbrev pub sent_ack : Segment → Emission → Bool
sent_ack s m = if m.is_reset_reply then has_flag s.flags Ack else m.flags.ack

-- the line shows the acknowledgment number from before the text
abbrev pub is_before_text : Wire → Emission → Bool
is_before_text wire m = nat_lt 0 m.raised && not (same_word wire.seg.ack m.ack_seq)

-- on the wire it has its bytes, the acknowledgment that they show, its MSS, its shift and the moment
abbrev pub sent : ℕ → Wire → Emission → Emission
sent moment wire m = record m {
  ack = if is_before_text wire m then m.ack - m.raised else m.ack;
  ack_seq = if is_before_text wire m then wire.seg.ack else m.ack_seq;
  raised = 0;
  flags = record m.flags { ack = sent_ack wire.seg m };
  bytes = wire.bytes;
  mss = wire.seg.mss;
  scale = wire.seg.scale;
  moment = moment;
}

-- what arrives is a copy of it, at most the maximum segment lifetime later (RFC 9293, 3.4.2)
abbrev pub in_rules : Header → ℕ → Wire → Emission → List (Rule × Bool)
in_rules h moment wire m =
    (rules.CopyDiffers, not (same_bytes wire.bytes m.bytes)) ∷ (rules.Lifetime, nat_lt (m.moment + h.msl) moment) ∷ []
