-- Fifth, the ACK field (RFC 9293, 3.10.7.4).
use Rattle.std.specs.Prelude.{ℕ, ◌-◌, ◌==◌, nat_le, nat_lt, max, Bool, not, ◌&&◌, ◌||◌, if◌then◌else◌}
use Rattle.case_forms.specs.States.{is_syn_received}
use Rattle.case_forms.specs.Versions.{says_slack}
use Rattle.case_forms.specs.declared.calls.State.{State}
use Rattle.case_forms.specs.declared.calls.State.TheVariants as states
use Rattle.case_forms.specs.declared.version.Version.{Version}
use Rattle.streams.specs.Transmissions.{retransmitted}
use Rattle.streams.specs.Sent.{end_of}
use Rattle.spec_tcp.specs.Endpoints.{Endpoint, Emission, snd_max, peer_window, segment_length}

-- it acknowledges nothing, or what was not sent; in SYN-RECEIVED it must acknowledge the SYN (RFC 9293, 3.10.7.4)
abbrev pub is_bad_ack_range : Endpoint → Emission → Bool
is_bad_ack_range e m =
    not m.flags.rst && (not m.flags.ack || nat_lt
    (snd_max e) m.ack || is_syn_received e.state && nat_le m.ack e.stream.snd_una)

-- the segment acknowledges what was not acknowledged before (RFC 5681, 2)
abbrev pub is_new_ack : Endpoint → Emission → Bool
is_new_ack e m = m.flags.ack && not m.flags.rst && nat_lt e.stream.snd_una m.ack

-- it acknowledges the endpoint's own SYN
abbrev pub acknowledges_syn : Endpoint → Emission → Bool
acknowledges_syn e m = is_new_ack e m && e.stream.snd_una == 0

-- how many positions it newly acknowledges, including the own SYN's; used only if that was acknowledged before
abbrev pub acked : Endpoint → Emission → ℕ
acked e m = m.ack - e.stream.snd_una

-- a duplicate acknowledgment (RFC 5681, 2)
abbrev pub is_duplicate : Endpoint → Emission → Bool
is_duplicate e m =
    nat_lt e.stream.snd_una (snd_max e) && segment_length m == 0 && not m.flags.rst && m.ack == e.stream.snd_una
    && peer_window e m == e.window.snd_wnd

-- the first position that must have been sent once for a sample: all that is newly acknowledged, but from version 5 on
-- the last of it alone, whose round trip is measured (RFC 6298, 3)
abbrev pub first_sampled : Version → Endpoint → Emission → ℕ
first_sampled version e m = if says_slack version then m.ack - 1 else e.stream.snd_una

-- a round trip is measured by a new acknowledgment of positions that were sent once (RFC 6298, 3)
abbrev pub may_sample : Version → Endpoint → Emission → Bool
may_sample version e m =
    is_new_ack e m && not (retransmitted e.transmissions (first_sampled version e m) m.ack)

-- the oldest unacknowledged position afterwards
abbrev pub snd_una_after_segment : Endpoint → Emission → ℕ
snd_una_after_segment e m = max e.stream.snd_una m.ack

-- the endpoint's own FIN is acknowledged
abbrev pub fin_acknowledged : Endpoint → Emission → Bool
fin_acknowledged e m = e.stream.ended && nat_lt (end_of e.stream.accepted) (snd_una_after_segment e m)

-- the state after the acknowledgment is processed (RFC 9293, 3.10.7.4, fifth)
abbrev pub acknowledged : State → Endpoint → Emission → State
acknowledged states.SynReceived e m =
    if acknowledges_syn e m then (if e.stream.ended then states.FinWait1 else states.Established)
    else states.SynReceived
acknowledged states.FinWait1 e m = if fin_acknowledged e m then states.FinWait2 else states.FinWait1
acknowledged states.Closing e m = if fin_acknowledged e m then states.TimeWait else states.Closing
acknowledged states.LastAck e m = if fin_acknowledged e m then states.Closed else states.LastAck
acknowledged state e m = state
