-- What a yes with a slack says in version 6 of segments that were built: each is sent (RFC 9293, 3.10.2 and 3.10.7).
-- Moments and slacks are in microseconds.
use Rattle.std.specs.Prelude.{◌≡◌, ◌⊎◌, ◌+◌, ◌<◌, ◌≤◌, ℕ, true}
use Rattle.case_forms.specs.declared.calls.Host.{Host}
use Rattle.case_forms.specs.declared.calls.State.TheVariants as states
use Rattle.case_forms.specs.declared.steps.SegmentPlan.{SegmentPlan}
use Rattle.case_forms.specs.declared.steps.Witness.{Witness}
use Rattle.case_forms.specs.declared.trace.Trace.{Trace}
use Rattle.spec_tcp.specs.declared.endpoint.EndpointId.{EndpointId}
use Rattle.spec_duties.specs.declared.events.Event.TheVariants.{Builds}
use Rattle.kept_duties.specs.Happens.{Happens, seen_before}
use Rattle.kept_duties.specs.Places.{BuildsAt, SendsAt}
use Rattle.kept_duties.specs.Segments.{EndsBy}

-- after this place and by this moment, the host sends the segment of that number
pub record IsSentBy (t : Trace) (w : Witness) (place by : ℕ) (host : Host) (number : ℕ) : Type 0 where
  pub later : ℕ
  pub moment : ℕ
  pub behind : place < later
  pub sends : SendsAt t w later moment host number
  pub soon : moment ≤ by

-- the step at this place is an `M` step by which an endpoint of the host builds a reset in TIME-WAIT. It need not be
-- sent, since a SYN may open the connection again (RFC 9293, 3.10.7.4)
pub record ResetsTimeWait (t : Trace) (w : Witness) (place moment : ℕ) (host : Host) : Type 0 where
  pub me : EndpointId
  pub segment : SegmentPlan
  pub of : me.host ≡ host
  pub builds : Happens t w place moment me (Builds segment)
  pub resets : segment.flags.rst ≡ true
  pub waits : (seen_before t w place me).state ≡ states.TimeWait

-- a segment that was built is sent within the slack, by the host that built it; unless it is such a reset, or the
-- witness ends within it
abbrev pub WhatIsBuiltIsSent : Trace → Witness → (slack : ℕ) → Type 0
WhatIsBuiltIsSent t w slack =
    (place moment number : ℕ) (host : Host) → BuildsAt w place moment host number
    → IsSentBy t w place (moment + slack) host number ⊎ ResetsTimeWait t w place moment host
    ⊎ EndsBy w (moment + slack)
