-- Which kinds of segments a state may send, and numbers of positions (RFC 9293, 3.4, 3.5 and 3.10).
use Rattle.std.specs.Prelude.{ℕ, ◌==◌, nat_le, Bool, true, false, not, ◌&&◌, ◌||◌, if◌then◌else◌, Option, is_some}
use Rattle.std.specs.Option.{option_map_or}
use Rattle.seqno.specs.Numbers.{number_of}
use Rattle.seqno.specs.declared.word.Word.{Word}
use Rattle.case_forms.specs.States.{is_closed, is_syn_received, is_syn_sent}
use Rattle.case_forms.specs.declared.calls.State.{State}
use Rattle.case_forms.specs.declared.calls.State.TheVariants as states
use Rattle.case_forms.specs.declared.steps.SegmentPlan.{SegmentPlan}
use Rattle.spec_tcp.specs.Endpoints.{Endpoint, rcv_nxt}

-- bytes may be sent in these states (RFC 9293, 3.10.2)
abbrev pub may_carry : State → Bool
may_carry states.Established = true
may_carry states.FinWait1 = true
may_carry states.CloseWait = true
may_carry states.Closing = true
may_carry states.LastAck = true
may_carry _ = false

-- a FIN may be sent in these (RFC 9293, 3.10.4)
abbrev pub may_finish : State → Bool
may_finish states.FinWait1 = true
may_finish states.Closing = true
may_finish states.LastAck = true
may_finish _ = false

-- an empty segment may be sent in all but these
abbrev pub may_not_send : State → Bool
may_not_send states.Closed = true
may_not_send states.Listen = true
may_not_send states.SynSent = true
may_not_send _ = false

-- a SYN: without acknowledgment in SYN-SENT, with one in SYN-RECEIVED, until it is acknowledged (RFC 9293, 3.5)
abbrev pub may_make_syn : Endpoint → SegmentPlan → Bool
may_make_syn e m =
    (if m.flags.ack then is_syn_received e.state else is_syn_sent e.state) && e.stream.snd_una == 0
    && not m.flags.fin && not m.flags.rst

-- a reset: one that is due (RFC 9293, 3.5.2 and 3.10.5), or by a closed socket whose peer is known (3.6.1; specific to
-- this profile)
abbrev pub may_make_reset : Endpoint → SegmentPlan → Bool
may_make_reset e m = (e.reset_due || e.closed && not (is_closed e.state) && nat_le 1 (rcv_nxt e)) && not m.flags.fin

abbrev pub may_make_other : Endpoint → SegmentPlan → Bool
may_make_other e m =
    not (may_not_send e.state) && (m.len == 0 || may_carry e.state) && (not m.flags.fin || may_finish e.state)

-- the state allows a segment of this kind
abbrev pub may_make : Endpoint → SegmentPlan → Bool
may_make e m = if m.flags.syn then may_make_syn e m else if m.flags.rst then may_make_reset e m else may_make_other e m

-- the endpoint sends nothing any more, except a reset that is due
abbrev pub makes_nothing : Endpoint → SegmentPlan → Bool
makes_nothing e m = is_closed e.state && not (m.flags.rst && e.reset_due)

-- an initial send sequence number is given again, or not by a SYN before anything else is sent (RFC 9293, 3.4.1)
abbrev pub is_bad_iss : Endpoint → SegmentPlan → Bool
is_bad_iss e m = if is_some e.iss then is_some m.iss else not (is_some m.iss && m.flags.syn)

-- the shift of the windows that it offers, which is given with the initial send sequence number (RFC 7323, 2.2)
abbrev pub given_shift : Endpoint → SegmentPlan → Option ℕ
given_shift e m = if is_some m.iss then m.shift else e.shift

abbrev pub word_zero : Word
word_zero = record { 0 = 0 }

-- the number of a position, if the number of position 0 is known
abbrev pub seq_of : Option Word → ℕ → Word
seq_of base pos = option_map_or (λ b. number_of b pos) base word_zero
