-- Where threads are, as code keeps them, and the call that a thread waits for.
use Rattle.std.specs.Prelude.{Option, None, Some}
use Rattle.case_forms.specs.declared.calls.Answer.{Answer}
use Rattle.case_forms.specs.declared.calls.Call.{Call}
use Rattle.spec_network.specs.Hosts.{Turn, Idle, Called, Answered}
use Rattle.spec_tcp.specs.Machine.{tcp_shape}
use Rattle.endpoint_state.specs.declared.threads.Place.{Place}
use Rattle.endpoint_state.specs.declared.threads.Place.TheVariants as places

abbrev pub turn_shown : Place → Turn tcp_shape
turn_shown places.Idle = Idle
turn_shown (places.Called call) = Called call
turn_shown (places.Answered answer) = Answered answer

-- the call that is open and had no effect yet
abbrev pub pending_call : Turn tcp_shape → Option Call
pending_call Idle = None
pending_call (Called call) = Some call
pending_call (Answered answer) = None

-- the answer with which the open call had its effect
abbrev pub given_answer : Turn tcp_shape → Option Answer
given_answer Idle = None
given_answer (Called call) = None
given_answer (Answered answer) = Some answer
