-- Second, the RST bit (RFC 9293, 3.10.7.3 and 3.10.7.4).
use Rattle.std.specs.Prelude.{ℕ, if◌then◌else◌, Option, Some, is_some}
use Rattle.case_forms.specs.declared.calls.State.{State}
use Rattle.case_forms.specs.declared.calls.State.TheVariants as states
use Rattle.case_forms.specs.declared.steps.TakeChoice.{TakeChoice}
use Rattle.spec_tcp.specs.Endpoints.{Fault, Refused, Reset, Endpoint}
use Rattle.spec_tcp.specs.Calls.Close.{shut_down}
use Rattle.window_rules.specs.Control.{after}
use Rattle.window_rules.specs.declared.control.Signal.TheVariants.{Other}
use Rattle.spec_tcp.specs.Signals.{at_moment}

-- the fault of a reset: refused before the connection is established, if the endpoint was opened; reset after it
abbrev pub reset_fault : State → Endpoint → Option Fault
reset_fault states.SynSent e = Some Refused
reset_fault states.SynReceived e = if is_some e.listener then e.fault else Some Refused
reset_fault states.Established e = Some Reset
reset_fault states.FinWait1 e = Some Reset
reset_fault states.FinWait2 e = Some Reset
reset_fault states.CloseWait e = Some Reset
reset_fault _ e = e.fault

-- a reset is processed
abbrev pub was_reset : Endpoint → TakeChoice → ℕ → Endpoint
was_reset e how moment = record (shut_down e) {
  fault = reset_fault e.state e;
  control = after e.control Other (at_moment e moment) how.cwnd e.control.values.ssthresh;
  unanswered_expiries = 0;
}
