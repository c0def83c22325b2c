-- Duty acknowledge: what was received is acknowledged within half a second (RFC 9293, 3.8.6.3, MUST-40, and 3.10.7.4;
-- RFC 5681, 4.2).
use Rattle.std.specs.Prelude.{ℕ, ◌+◌, nat_le, nat_lt, Bool, true, false, not, ◌&&◌, ◌||◌, if◌then◌else◌}
use Rattle.std.specs.Prelude.{Option, None, Some}
use Rattle.std.specs.Option.{option_map_or, option_or}
use Rattle.case_forms.specs.declared.calls.State.{State}
use Rattle.case_forms.specs.declared.calls.State.TheVariants as states
use Rattle.spec_duties.specs.Deadlines.{due_within}
use Rattle.spec_duties.specs.Events.{Event, Processes, Drops, Sends}

-- the longest delay of an acknowledgment, in microseconds (RFC 9293, 3.8.6.3)
abbrev pub longest_delay : ℕ
longest_delay = 500000

-- the states in which an endpoint receives what a segment holds; a listener's child is in LISTEN before it exists (RFC
-- 9293, 3.10.7.2 to 3.10.7.4)
abbrev pub receives : State → Bool
receives states.Listen = true
receives states.SynSent = true
receives states.SynReceived = true
receives states.Established = true
receives states.FinWait1 = true
receives states.FinWait2 = true
receives _ = false

-- it sent a segment with ACK half a second ago or later
abbrev pub answered_lately : (moment : ℕ) → (acknowledged : Option ℕ) → Bool
answered_lately moment acknowledged = option_map_or (λ m. nat_le moment (m + longest_delay)) acknowledged false

-- the duty arises: a segment that holds positions is received, or one is dropped that asks for an acknowledgment.
-- Stacks limit the rate of answers to empty segments (RFC 5961, 7)
abbrev pub asks_ack : Event → State → (moment : ℕ) → (acknowledged : Option ℕ) → Bool
asks_ack (Processes length rst) state moment acknowledged = receives state && nat_lt 0 length && not rst
asks_ack (Drops asks unlimited) state moment acknowledged =
    asks && (unlimited || not (answered_lately moment acknowledged))
asks_ack event state moment acknowledged = false

-- it ends: the endpoint sends a segment with ACK, or a reset
abbrev pub is_answer : Event → Bool
is_answer (Sends s) = s.flags.ack || s.flags.rst
is_answer event = false

-- since when it is owed; if it is owed already, the earlier moment stays
abbrev pub acknowledge_after : Event → State → (moment : ℕ) → (acknowledged since : Option ℕ) → Option ℕ
acknowledge_after event state moment acknowledged since =
    if is_answer event then None
    else if asks_ack event state moment acknowledged then option_or since (Some moment)
    else since

abbrev pub acknowledge_due : (since : Option ℕ) → Option ℕ
acknowledge_due since = due_within longest_delay since

-- when the endpoint last sent a segment with ACK
abbrev pub acknowledged_after : Event → (moment : ℕ) → Option ℕ → Option ℕ
acknowledged_after (Sends s) moment acknowledged = if s.flags.ack then Some moment else acknowledged
acknowledged_after event moment acknowledged = acknowledged
