-- First, the sequence number (RFC 9293, 3.10.7.4).
use Rattle.std.specs.Prelude.{ℕ, ◌+◌, ◌-◌, ◌^◌, ◌==◌, nat_le, nat_lt, Bool, false, not, ◌&&◌, ◌||◌, if◌then◌else◌}
use Rattle.std.specs.Prelude.{Option, None, Some, is_some}
use Rattle.std.specs.Option.{option_map_or}
use Rattle.seqno.specs.Near.{near_position}
use Rattle.seqno.specs.Numbers.{number_of}
use Rattle.seqno.specs.declared.word.Word.{Word}
use Rattle.case_forms.specs.States.{is_syn_received}
use Rattle.spec_tcp.specs.Endpoints.{Endpoint, Emission, rcv_nxt, receive_window, segment_length}
use Rattle.spec_tcp.specs.Same.{same_word}

-- where the segment begins: its true position; for a reset in answer, the position its number has near the next one
abbrev pub read_position : Endpoint → Emission → Option ℕ
read_position e m =
    if m.is_reset_reply then option_map_or (λ irs. near_position (rcv_nxt e) irs m.seq) e.irs None else Some m.pos

-- the number reads as this position, near another (RFC 9293, 3.4)
abbrev pub reads_as : ℕ → Option Word → Word → ℕ → Bool
reads_as near base w pos =
    option_map_or (λ b. same_word (number_of b pos) w && nat_le near (pos + 2 ^ 31) && nat_lt pos
    (near + 2 ^ 31)) base false

-- a number doesn't read as its position; for a reset in answer, the sequence number reads as no position
abbrev pub is_bad_number : Endpoint → Emission → Bool
is_bad_number e m =
    if m.is_reset_reply then not (is_some (read_position e m))
    else not (reads_as (rcv_nxt e) e.irs m.seq m.pos) || m.flags.ack && not
    (reads_as e.stream.snd_una e.iss m.ack_seq m.ack)

-- the position is in the receive window
abbrev pub is_in_window : Endpoint → ℕ → Bool
is_in_window e pos = nat_le (rcv_nxt e) pos && nat_lt pos (rcv_nxt e + receive_window e)

-- the segment is acceptable (RFC 9293, 3.10.7.4): with a window of 0 only at the next position, else with its first or
-- its last position in the window
abbrev pub is_acceptable_at : Endpoint → Emission → ℕ → Bool
is_acceptable_at e m pos =
    if receive_window e == 0 then pos == rcv_nxt e
    else is_in_window e pos || nat_lt 0 (segment_length m) && is_in_window e (pos + segment_length m - 1)

-- in SYN-RECEIVED the peer's SYN is accepted again with its acknowledgment (simultaneous open; RFC 9293, 3.5); any
-- other segment with SYN and without RST is not acceptable
abbrev pub is_acceptable : Endpoint → Emission → Bool
is_acceptable e m =
    is_syn_received e.state && m.flags.syn && m.flags.ack && m.pos == 0 && not m.is_reset_reply
    || not (m.flags.syn && not m.flags.rst) && option_map_or (is_acceptable_at e m) (read_position e m) false
