-- How a step may change the state of an endpoint, and which of its positions never fall (RFC 9293, 3.3.1 and 3.3.2).
use Rattle.std.specs.Prelude.{◌≡◌, ◌≤◌, ◌⊎◌, ℕ, Bool, true, false, List, Option, None, Some}
use Rattle.case_forms.specs.declared.calls.Answer.{Answer}
use Rattle.case_forms.specs.declared.calls.Call.{Call}
use Rattle.case_forms.specs.declared.calls.Call.TheVariants as calls
use Rattle.case_forms.specs.declared.calls.Host.{Host}
use Rattle.case_forms.specs.declared.calls.State.{State}
use Rattle.case_forms.specs.declared.calls.State.TheVariants as states
use Rattle.case_forms.specs.declared.steps.SegmentPlan.{SegmentPlan}
use Rattle.case_forms.specs.declared.taken_line.Expired.{Expired}
use Rattle.case_forms.specs.declared.taken_line.Expired.TheVariants.{Giveup, Msl2}
use Rattle.case_forms.specs.declared.trace.Header.{Header}
use Rattle.spec_network.specs.Tables.{pick}
use Rattle.spec_network.specs.Hosts.{World, Step, Effect, At, Expires, Makes, Called, Stamped, turn_of}
use Rattle.spec_network.specs.HostSteps.{after}
use Rattle.spec_tcp.specs.declared.endpoint.EndpointId.{EndpointId}
use Rattle.spec_tcp.specs.declared.endpoint.Endpoint.{Endpoint}
use Rattle.spec_tcp.specs.declared.endpoint.Emission.{Emission}
use Rattle.spec_tcp.specs.declared.endpoint.SocketTarget.{SocketTarget}
use Rattle.spec_tcp.specs.declared.endpoint.SocketTarget.TheVariants.{ListenerAt, EndpointAt}
use Rattle.spec_tcp.specs.HostTcp.{place_of, socket_target}
use Rattle.spec_tcp.specs.Endpoints.{snd_max, rcv_nxt}
use Rattle.spec_tcp.specs.Machine.{Expiring, tcp, tcp_shape}
use Rattle.spec_tcp_laws.specs.Runs.{world_at_end}
use Rattle.spec_tcp_laws.specs.Consequences.{find}
use Rattle.spec_tcp_laws.specs.Bounds.{TakesThere}

-- the arrows of figure 5 at CLOSE, which is `shut` and `close` here (RFC 9293, 3.3.2 and 3.10.4)
abbrev pub close_leads : State → State → Bool
close_leads states.SynSent states.Closed = true
close_leads states.Established states.FinWait1 = true
close_leads states.CloseWait states.LastAck = true
close_leads state _ = false

-- those at a SYN and at an acknowledgment. In the figure, CLOSE leads from SYN-RECEIVED to FIN-WAIT-1: here CLOSE ends
-- the sending, and the state follows with the acknowledgment of the SYN (specific to this profile)
abbrev pub segment_leads : State → State → Bool
segment_leads states.SynSent states.SynReceived = true
segment_leads states.SynSent states.Established = true
segment_leads states.SynReceived states.Established = true
segment_leads states.SynReceived states.FinWait1 = true
segment_leads states.FinWait1 states.FinWait2 = true
segment_leads states.Closing states.TimeWait = true
segment_leads states.LastAck states.Closed = true
segment_leads state _ = false

-- those at a FIN
abbrev pub fin_leads : State → State → Bool
fin_leads states.Established states.CloseWait = true
fin_leads states.FinWait1 states.Closing = true
fin_leads states.FinWait2 states.TimeWait = true
fin_leads state _ = false

-- a state stays, or one of these arrows leaves it
abbrev pub StaysOr : (State → State → Bool) → State → State → Type 0
StaysOr leads s t = (t ≡ s) ⊎ (leads s t ≡ true)

-- the socket number that a call closes, that it aborts, and that it closes or aborts; `shut` closes a listener, too
abbrev pub closed_number : Call → Option ℕ
closed_number (calls.Shut n) = Some n
closed_number (calls.Close n) = Some n
closed_number _ = None

abbrev pub aborted_number : Call → Option ℕ
aborted_number (calls.Abort n) = Some n
aborted_number _ = None

abbrev pub left_number : Call → Option ℕ
left_number (calls.Shut n) = Some n
left_number (calls.Close n) = Some n
left_number (calls.Abort n) = Some n
left_number _ = None

-- the step is the effect of such a call, whose socket number names this at that host
abbrev pub CallsOn : (Call → Option ℕ) → World tcp_shape → Step tcp_shape → Host → SocketTarget → Type 0
CallsOn number w step host target =
    (thread : ℕ) × (answer : Answer) × (call : Call) × (n : ℕ) × (step ≡ Effect thread answer)
    × (turn_of thread w.threads ≡ Called call) × (number call ≡ Some n)
    × (socket_target (pick w.hosts host).body n ≡ Some target)

-- TIME-WAIT is over, or the endpoint gives up (RFC 9293, 3.6.1 and 3.8.3)
abbrev pub closes : Expired → Bool
closes Msl2 = true
closes Giveup = true
closes _ = false

abbrev pub TimerCloses : World tcp_shape → Step tcp_shape → EndpointId → Type 0
TimerCloses w step me = (line : ℕ) × (x : Expiring) × (step ≡ At me.host (Expires line x)) × (closes x.expired ≡ true)
    × (place_of (pick w.hosts me.host).body x.lport x.rport ≡ Some me.number)

-- the endpoint sends a reset
abbrev pub MakesReset : World tcp_shape → Step tcp_shape → EndpointId → Type 0
MakesReset w step me =
    (m : SegmentPlan) × (step ≡ At me.host (Makes m)) × (m.flags.rst ≡ true) ×
    (place_of (pick w.hosts me.host).body m.lport m.rport ≡ Some me.number)

-- a step may lead from the state of an endpoint to this one
pub data MayLead (w : World tcp_shape) (step : Step tcp_shape) (me : EndpointId) (e : Endpoint)
    (t : State) : Type 0 where
  Stays : t ≡ e.state → MayLead w step me e t
  ByClose : CallsOn closed_number w step me.host (EndpointAt me.number) → close_leads e.state t ≡ true
      → MayLead w step me e t
  ByAbort : CallsOn aborted_number w step me.host (EndpointAt me.number) → t ≡ states.Closed → MayLead w step me e t
  -- its listener is closed or aborted before the endpoint is accepted
  ByListener : (l : ℕ) → e.listener ≡ Some l → CallsOn left_number w step me.host (ListenerAt l) → t ≡ states.Closed
      → MayLead w step me e t
  -- the endpoint processes a segment without RST: its SYN or its acknowledgment may lead on, and from there its FIN
  -- (note 2 at figure 5)
  BySegment : (m : Emission) (between : State) → TakesThere w step me e m → m.flags.rst ≡ false →
      StaysOr segment_leads e.state between → StaysOr fin_leads between t → MayLead w step me e t
  -- it processes one with RST (note 3 there)
  ByReset : (m : Emission) → TakesThere w step me e m → m.flags.rst ≡ true → t ≡ states.Closed → MayLead w step me e t
  ByOwnReset : MakesReset w step me → t ≡ states.Closed → MayLead w step me e t
  ByTimer : TimerCloses w step me → t ≡ states.Closed → MayLead w step me e t

-- TIME-WAIT doesn't restart: it is over, or it continues since the same moment (RFC 9293, 3.6.1)
abbrev pub WaitsOn : Endpoint → Endpoint → Type 0
WaitsOn e f = (f.state ≡ states.Closed) ⊎ ((f.state ≡ states.TimeWait) × (f.timers.msl_armed ≡ e.timers.msl_armed))

-- a step leaves each endpoint in existence, in its state or in one to which the step may lead; and a new one begins in
-- SYN-SENT, or as a child in SYN-RECEIVED
pub record StatesFollow (h : Header) (moment : ℕ) (w : World tcp_shape) (step : Step tcp_shape) : Type 0 where
  pub leads : (me : EndpointId) (e : Endpoint) → find w.hosts me ≡ Some e → (f : Endpoint) ×
      (find (after (tcp h) moment w step).hosts me ≡ Some f) × MayLead w step me e f.state
  pub waits : (me : EndpointId) (e : Endpoint) → find w.hosts me ≡ Some e → e.state ≡ states.TimeWait → (f : Endpoint) ×
      (find (after (tcp h) moment w step).hosts me ≡ Some f) × WaitsOn e f
  pub begins : (me : EndpointId) (f : Endpoint) → find w.hosts me ≡ None
      → find (after (tcp h) moment w step).hosts me ≡ Some f →
      (f.state ≡ states.SynSent) ⊎ (f.state ≡ states.SynReceived)

-- none of these decreases (RFC 9293, 3.3.1): SND.UNA, SND.NXT at its greatest, RCV.NXT, and the greatest RCV.NXT +
-- RCV.WND that was offered
pub record NoneFalls (e f : Endpoint) : Type 0 where
  pub snd_una : e.stream.snd_una ≤ f.stream.snd_una
  pub made : snd_max e ≤ snd_max f
  pub rcv_nxt : rcv_nxt e ≤ rcv_nxt f
  pub rcv_adv : e.window.rcv_adv ≤ f.window.rcv_adv

-- this holds of each endpoint over a step after a run
abbrev pub PositionsNeverFall : Header → List (Stamped tcp_shape) → Stamped tcp_shape → Type 0
PositionsNeverFall h steps x = (me : EndpointId) (e : Endpoint) → find (world_at_end h steps).hosts me ≡ Some e
    → (f : Endpoint) × (find (after (tcp h) x.moment (world_at_end h steps) x.step).hosts me ≡ Some f) × NoneFalls e f
