-- The bytes of a segment to build, and where they begin (RFC 9293, 3.8.1, 3.10.2 and 3.10.4).
use Rattle.std.specs.Prelude.{ℕ, ◌+◌, ◌==◌, nat_lt, min, Bool, false, not, ◌&&◌, ◌||◌, if◌then◌else◌}
use Rattle.case_forms.specs.Versions.{says_sender}
use Rattle.case_forms.specs.declared.steps.SegmentPlan.{SegmentPlan}
use Rattle.case_forms.specs.declared.version.Version.{Version}
use Rattle.streams.specs.Sent.{end_of}
use Rattle.spec_tcp.specs.Endpoints.{Endpoint, snd_max, flag_count}

-- the positions that it occupies (RFC 9293, 3.3.1: SEG.LEN)
abbrev pub making_length : SegmentPlan → ℕ
making_length m = m.len + flag_count m.flags.syn + flag_count m.flags.fin

-- bytes that were not sent before are among its own
abbrev pub has_new_bytes : Endpoint → SegmentPlan → Bool
has_new_bytes e m = nat_lt 0 m.len && nat_lt (snd_max e) (m.pos + m.len)

-- bytes that weren't accepted; a FIN before sending is ended, or that doesn't follow the last accepted byte; or bytes
-- with a SYN or a reset
abbrev pub is_bad_payload : Endpoint → SegmentPlan → Bool
is_bad_payload e m =
    if m.flags.syn then not (m.pos == 0 && m.len == 0)
    else if m.flags.rst then not (m.len == 0)
    else (nat_lt 0 m.len && (m.pos == 0 || nat_lt (end_of e.stream.accepted) (m.pos + m.len)))
    || (m.flags.fin && not (e.stream.ended && m.pos + m.len == end_of e.stream.accepted))

-- the end of its part that was sent before
abbrev pub old_end : Endpoint → SegmentPlan → ℕ
old_end e m = min (m.pos + making_length m) (snd_max e)

-- an empty segment more than one below the oldest unacknowledged position (a keep-alive is one below), or above the
-- next to be sent
abbrev pub is_bad_empty_place : Endpoint → SegmentPlan → Bool
is_bad_empty_place e m = nat_lt (m.pos + 1) e.stream.snd_una || nat_lt (snd_max e) m.pos

-- any other segment below the oldest unacknowledged position, or with a gap after what was sent, or that retransmits
-- beyond where recovery began; from version 6 on, the model doesn't ask what is retransmitted
abbrev pub is_bad_place : Version → Endpoint → SegmentPlan → Bool
is_bad_place v e m =
    if m.flags.rst then nat_lt m.pos e.stream.snd_una || nat_lt (snd_max e) m.pos
    else if m.flags.syn && m.flags.ack && not (says_sender v) then false
    else if making_length m == 0 then is_bad_empty_place e m
    else nat_lt m.pos e.stream.snd_una || nat_lt (snd_max e) m.pos
    || nat_lt m.pos (snd_max e) && not (says_sender v) && nat_lt e.recover (old_end e m)
