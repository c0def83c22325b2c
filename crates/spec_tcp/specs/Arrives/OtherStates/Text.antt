-- Seventh, the segment text, and the stream and the state afterwards (RFC 9293, 3.10.7.4).
use Rattle.std.specs.Prelude.{ℕ, ◌+◌, ◌-◌, ◌==◌, nat_lt, ◌&&◌, min, max, if◌then◌else◌, List, [], length, slice_range}
use Rattle.case_forms.specs.declared.calls.State.{State}
use Rattle.case_forms.specs.declared.steps.TakeChoice.{TakeChoice}
use Rattle.streams.specs.Received.{Receiving, body_kept, is_ended, kept, next}
use Rattle.spec_tcp.specs.Endpoints.{Stream, TextTaken, Endpoint, Emission, rcv_nxt}
use Rattle.spec_tcp.specs.Arrives.OtherStates.Ack.{snd_una_after_segment, acknowledged}
use Rattle.spec_tcp.specs.Arrives.OtherStates.Fin.{first_byte, fin_place, keeps_fin, finished}

-- the bytes that are kept: from the next position expected on, below the edge
abbrev pub kept_start : Endpoint → Emission → ℕ
kept_start e m = max (rcv_nxt e) (first_byte m)

abbrev pub kept_bytes : Endpoint → TakeChoice → Emission → List ℕ
kept_bytes e how m =
    if how.keep
    then slice_range m.payload (kept_start e m - first_byte m) (min (fin_place m) e.window.rcv_adv - first_byte m)
    else []

-- the position after those that are kept, with a FIN
abbrev pub kept_end : Endpoint → TakeChoice → Emission → ℕ
kept_end e how m =
    kept_start e m + length (body_kept e.stream.receive.taken (kept_start e m) (kept_bytes e how m) (keeps_fin e how m))

abbrev pub receive_after : Endpoint → TakeChoice → Emission → Receiving
receive_after e how m = kept e.stream.receive (kept_start e m) (kept_bytes e how m) (keeps_fin e how m)

-- the moment at which text, or a FIN, raises the next position expected, and that position before all text that did so
-- at this moment; what is built then may have been built before the text (RFC 9293, 3.10.7.4)
abbrev pub text_raised : Endpoint → ℕ → TextTaken
text_raised e moment =
    if e.text.moment == moment && nat_lt 0 e.text.before then e.text
    else record { moment = moment; before = rcv_nxt e }

abbrev pub text_after_segment : Endpoint → TakeChoice → Emission → ℕ → TextTaken
text_after_segment e how m moment =
    if nat_lt (rcv_nxt e) (next (receive_after e how m)) then text_raised e moment else e.text

abbrev pub stream_after_segment : Endpoint → TakeChoice → Emission → Stream
stream_after_segment e how m = record e.stream { receive = receive_after e how m; snd_una = snd_una_after_segment e m }

abbrev pub state_after_segment : Endpoint → TakeChoice → Emission → State
state_after_segment e how m = finished (acknowledged e.state e m) (is_ended (receive_after e how m))
