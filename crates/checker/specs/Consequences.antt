-- What follows from a trace and a witness that explains it, for the bytes of streams, for windows and for states (RFC
-- 9293, 3.3, 3.4, 3.8 and 3.10; RFC 5681, 3.1 and 3.2).
use Rattle.std.specs.Prelude.{◌≡◌, ℕ, false, List, Some, slice_get, take}
use Rattle.case_forms.specs.Versions.{is_half}
use Rattle.case_forms.specs.declared.trace.Header.{Header}
use Rattle.case_forms.specs.declared.trace.Trace.{Trace}
use Rattle.case_forms.specs.declared.calls.Host.{Host}
use Rattle.case_forms.specs.declared.steps.Witness.{Witness}
use Rattle.spec_network.specs.Hosts.{At, Makes, Stamped}
use Rattle.case_forms.specs.declared.steps.SegmentPlan.{SegmentPlan}
use Rattle.spec_tcp.specs.Machine.{tcp_shape}
use Rattle.spec_tcp_laws.specs.Runs.{world_at_end}
use Rattle.spec_tcp_laws.specs.Consequences.{ReceivedIsAPrefix, EndIsWhole, AcknowledgedWasTaken}
use Rattle.spec_tcp_laws.specs.Carried.{ReadsWereCarried}
use Rattle.spec_tcp_laws.specs.Bounds.{NewDataFits, ProfilesAreNamed, WindowsFollow}
use Rattle.spec_tcp_laws.specs.Transitions.{StatesFollow, PositionsNeverFall}
use Rattle.checker.specs.Seen.{stamped}

-- the steps of a witness as the model sees them
abbrev pub steps_of : Trace → Witness → List (Stamped tcp_shape)
steps_of t w = stamped t.header t.lines w.steps

-- what holds of each step, with the steps before it
abbrev pub EachStep : List (Stamped tcp_shape) → (List (Stamped tcp_shape) → Stamped tcp_shape → Type 0) → Type 0
EachStep steps P = (place : ℕ) (x : Stamped tcp_shape) → slice_get steps place ≡ Some x → P (take place steps) x

-- both hosts are recorded
abbrev pub AreBothRecorded : Trace → Type 0
AreBothRecorded t = is_half t.header.version ≡ false

-- each byte that the reads on a socket number returned, and the end if they returned it, arrived in a segment that was
-- taken at its endpoint; also if only one host is recorded
abbrev pub AllReadsWereCarried : Trace → Witness → Type 0
AllReadsWereCarried t w = ReadsWereCarried t.header (steps_of t w)

-- what the reads on a socket number returned is a prefix of what the sends of its peer accepted
abbrev pub ReadsBeginWhatWasSent : Trace → Witness → Type 0
ReadsBeginWhatWasSent t w = ReceivedIsAPrefix t.header (steps_of t w)

-- reads that returned the end returned all that the sends of their peer ever accepted, and the peer ended sending
abbrev pub EndsAreWhole : Trace → Witness → Type 0
EndsAreWhole t w = EndIsWhole t.header (steps_of t w)

-- the peer took whatever a step acknowledges before that step, except a SYN
abbrev pub AllAcknowledgedWasTaken : Trace → Witness → Type 0
AllAcknowledgedWasTaken t w = EachStep (steps_of t w) (λ before x. AcknowledgedWasTaken t.header before x)

-- what a step does with windows, in the world that the steps before it left
pub record KeepsWindows (h : Header) (before : List (Stamped tcp_shape)) (x : Stamped tcp_shape) : Type 0 where
  -- the congestion window and the slow start threshold change only when a segment is taken, a retransmission timer
  -- expires or fast recovery begins, and stay at or below what these allow by the endpoint's profile
  pub follow : WindowsFollow h x.moment (world_at_end h before) x.step
  -- which is that of the RFC that the header names
  pub named : ProfilesAreNamed h (world_at_end h before)
  -- bytes that are made for the first time end within the window that the peer offers and within the congestion window
  pub fits : (host : Host) (m : SegmentPlan) → x.step ≡ At host (Makes m)
      → NewDataFits (world_at_end h before) host x.moment m

abbrev pub AllKeepWindows : Trace → Witness → Type 0
AllKeepWindows t w = EachStep (steps_of t w) (λ before x. KeepsWindows t.header before x)

-- each step leaves the states of endpoints as they are, or leads on from them by arrows of figure 5 (RFC 9293, 3.3.2)
abbrev pub AllStatesFollow : Trace → Witness → Type 0
AllStatesFollow t w =
    EachStep (steps_of t w) (λ before x. StatesFollow t.header x.moment (world_at_end t.header before) x.step)

-- no step leaves a position of an endpoint below what it was (RFC 9293, 3.3.1)
abbrev pub NoPositionFalls : Trace → Witness → Type 0
NoPositionFalls t w = EachStep (steps_of t w) (λ before x. PositionsNeverFall t.header before x)
