-- What a yes with a slack says of acknowledgments, retransmissions, probes and waiting data: by when they are sent (RFC
-- 9293, 3.8.6 and 3.10.7.4; RFC 5681, 4.2; RFC 6298, 5.4). Moments and slacks are in microseconds.
use Rattle.std.specs.Prelude.{◌≡◌, ◌⊎◌, ◌+◌, ◌<◌, ◌≤◌, ℕ, suc, Bool, true, false, ◌||◌}
use Rattle.case_forms.specs.States.{is_closed}
use Rattle.case_forms.specs.declared.calls.State.{State}
use Rattle.case_forms.specs.declared.calls.State.TheVariants as states
use Rattle.case_forms.specs.declared.steps.Witness.{Witness}
use Rattle.case_forms.specs.declared.timer.Timer.TheVariants.{Persist, Rto}
use Rattle.case_forms.specs.declared.trace.Trace.{Trace}
use Rattle.spec_tcp.specs.declared.endpoint.EndpointId.{EndpointId}
use Rattle.spec_duties.specs.declared.events.Event.{Event}
use Rattle.spec_duties.specs.declared.events.Event.TheVariants.{Expires, Processes, Sends}
use Rattle.spec_duties.specs.declared.views.View.{View}
use Rattle.kept_duties.specs.Happens.{Happens, seen_before}
use Rattle.kept_duties.specs.Segments.{EndsBy}

-- the longest delay of an acknowledgment (RFC 9293, 3.8.6.3), and the longest that data is held back (3.8.6.2.1)
abbrev pub half_a_second : ℕ
half_a_second = 500000

abbrev pub a_second : ℕ
a_second = 1000000

-- after this place and by this moment, something of this kind happens at the endpoint
pub record HappensBy (t : Trace) (w : Witness) (place by : ℕ) (me : EndpointId)
    (Kind : Event → (before after : View) → Type 0) : Type 0 where
  pub later : ℕ
  pub moment : ℕ
  pub event : Event
  pub behind : place < later
  pub happens : Happens t w later moment me event
  pub kind : Kind event (seen_before t w later me) (seen_before t w (suc later) me)
  pub soon : moment ≤ by

-- after the step at this place the endpoint is in such a state, or a later step brings it there. If that step does
-- something at the endpoint, it is by this moment; otherwise, as when its listener is closed, it may be later
pub record BecomesBy (t : Trace) (w : Witness) (place by : ℕ) (me : EndpointId) (Is : View → Bool) : Type 0 where
  pub later : ℕ
  pub behind : place ≤ later
  pub before : place < later → Is (seen_before t w later me) ≡ false
  pub after : Is (seen_before t w (suc later) me) ≡ true
  pub soon : (moment : ℕ) (event : Event) → Happens t w later moment me event → moment ≤ by

-- one of these: it happens, the endpoint comes into such a state, or the witness ends
abbrev pub IsDoneUnless : Trace → Witness → (place by : ℕ) → EndpointId → (Event → (before after : View) → Type 0)
    → (View → Bool) → Type 0
IsDoneUnless t w place by me Kind Is = HappensBy t w place by me Kind ⊎ BecomesBy t w place by me Is ⊎ EndsBy w by

-- it happens, the endpoint is CLOSED, or the witness ends
abbrev pub IsDoneBy : Trace → Witness → (place by : ℕ) → EndpointId → (Event → (before after : View) → Type 0) → Type 0
IsDoneBy t w place by me Kind = IsDoneUnless t w place by me Kind (λ v. is_closed v.state)

-- a segment with ACK or RST is sent
abbrev pub Answers : Event → (before after : View) → Type 0
Answers (Sends s) before after = (s.flags.ack || s.flags.rst) ≡ true
Answers event before after = ⊥

-- the states in which nothing more is received: CLOSED, and those after the peer's FIN (RFC 9293, 3.10.7.4). A
-- listener's child is in LISTEN before it exists
abbrev pub is_ended : State → Bool
is_ended states.CloseWait = true
is_ended states.Closing = true
is_ended states.LastAck = true
is_ended states.TimeWait = true
is_ended states.Closed = true
is_ended state = false

-- when an endpoint receives bytes, a SYN or a FIN, it sends a segment with ACK or RST within half a second and the
-- slack
abbrev pub ReceiptsAreAnswered : Trace → Witness → (slack : ℕ) → Type 0
ReceiptsAreAnswered t w slack =
    (place moment length : ℕ) (me : EndpointId) → Happens t w place moment me (Processes length false) → 0 < length
    → is_ended (seen_before t w place me).state ≡ false → IsDoneBy t w place (moment + half_a_second + slack) me Answers

-- more is acknowledged: the oldest unacknowledged position rises
abbrev pub AcknowledgesMore : (before after : View) → Type 0
AcknowledgesMore before after = before.snd_una < after.snd_una

-- the offered window opens
abbrev pub WindowOpens : (before after : View) → Type 0
WindowOpens before after = (before.snd_wnd ≡ 0) × (0 < after.snd_wnd)

-- the oldest unacknowledged position is sent again, or is acknowledged; into a closed window any segment will do
abbrev pub SendsOldest : Event → (before after : View) → Type 0
SendsOldest (Sends s) before after =
    ((s.pos ≤ before.snd_una) × (before.snd_una < s.pos + s.length)) ⊎ (before.snd_wnd ≡ 0)
    ⊎ AcknowledgesMore before after
SendsOldest event before after = AcknowledgesMore before after

-- after an expiry of the retransmission timer this happens within the slack
abbrev pub ExpiriesAreFollowed : Trace → Witness → (slack : ℕ) → Type 0
ExpiriesAreFollowed t w slack =
    (place moment : ℕ) (me : EndpointId) → Happens t w place moment me (Expires Rto)
    → IsDoneBy t w place (moment + slack) me SendsOldest

-- after one of the persist timer, any segment is sent, or more is acknowledged (RFC 9293, 3.8.6.1)
abbrev pub SendsAnything : Event → (before after : View) → Type 0
SendsAnything (Sends s) before after = Unit {0}
SendsAnything event before after = AcknowledgesMore before after

-- that happens within the slack
abbrev pub ProbesAreSent : Trace → Witness → (slack : ℕ) → Type 0
ProbesAreSent t w slack =
    (place moment : ℕ) (me : EndpointId) → Happens t w place moment me (Expires Persist)
    → IsDoneBy t w place (moment + slack) me SendsAnything

-- in version 6, what is sent has to probe the window: it holds the oldest unacknowledged position or, as a keep-alive
-- does, is empty and just below it. If the window opens, none is needed
abbrev pub SendsProbe : Event → (before after : View) → Type 0
SendsProbe (Sends s) before after =
    ((s.pos ≤ before.snd_una) × (before.snd_una < s.pos + s.length))
    ⊎ ((s.length ≡ 0) × (s.pos + 1 ≡ before.snd_una)) ⊎ AcknowledgesMore before after ⊎ WindowOpens before after
SendsProbe event before after = AcknowledgesMore before after ⊎ WindowOpens before after

-- that happens within the slack
abbrev pub ClosedWindowsAreProbed : Trace → Witness → (slack : ℕ) → Type 0
ClosedWindowsAreProbed t w slack =
    (place moment : ℕ) (me : EndpointId) → Happens t w place moment me (Expires Persist)
    → IsDoneBy t w place (moment + slack) me SendsProbe

-- something waits to be sent, nothing is outstanding, and no window holds it back
pub record IsIdle (v : View) : Type 0 where
  pub open_yet : is_closed v.state ≡ false
  pub acknowledged : v.snd_una ≡ v.snd_max
  -- a SYN or bytes, or a FIN
  pub waits : (v.snd_max < v.end) ⊎ ((v.ended ≡ true) × (v.snd_max ≤ v.end))
  -- it is the SYN, or the connection is up
  pub may_begin : (v.snd_max ≡ 0) ⊎ ((1 ≤ v.snd_una) × (1 ≤ v.rcv_nxt))
  -- the offered window is open, or only a SYN or a FIN is left
  pub window : (0 < v.snd_wnd) ⊎ (v.snd_max ≡ 0) ⊎ (v.snd_max ≡ v.end)

-- this isn't so any more: a part of it was built, or the window was closed
abbrev pub IsNotIdle : Event → (before after : View) → Type 0
IsNotIdle event before after = IsIdle after → ⊥

-- what waits so after a step is begun within a second and the slack (RFC 9293, 3.8.6.2.1, 3.10.2 and 3.10.4)
abbrev pub WorkIsBegun : Trace → Witness → (slack : ℕ) → Type 0
WorkIsBegun t w slack =
    (place moment : ℕ) (me : EndpointId) (event : Event) → Happens t w place moment me event
    → IsIdle (seen_before t w (suc place) me) → IsDoneBy t w place (moment + a_second + slack) me IsNotIdle
