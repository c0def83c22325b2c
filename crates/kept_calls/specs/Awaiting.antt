-- What a yes with a slack says in version 6 of calls that wait: once `recv`, `await` or `accept` can't be answered
-- `again` any more, the program gets its answer in time. Moments and slacks are in microseconds.
use Rattle.std.specs.Prelude.{◌≡◌, ◌⊎◌, ◌+◌, ◌<◌, ◌≤◌, ℕ, length, false, Option, None, Some}
use Rattle.case_forms.specs.Traces.{line_at}
use Rattle.case_forms.specs.declared.calls.Answer.{Answer}
use Rattle.case_forms.specs.declared.calls.Answer.TheVariants as answers
use Rattle.case_forms.specs.declared.calls.Call.{Call}
use Rattle.case_forms.specs.declared.calls.Call.TheVariants as calls
use Rattle.case_forms.specs.declared.calls.Host.{Host}
use Rattle.case_forms.specs.declared.named_line.Extras.TheVariants.{Bare}
use Rattle.case_forms.specs.declared.named_line.NamedLine.{NamedLine}
use Rattle.case_forms.specs.declared.steps.Label.{Label}
use Rattle.case_forms.specs.declared.steps.Label.TheVariants as labels
use Rattle.case_forms.specs.declared.steps.Witness.{Witness}
use Rattle.case_forms.specs.declared.trace.Event.TheVariants as lines
use Rattle.case_forms.specs.declared.trace.Header.{Header}
use Rattle.case_forms.specs.declared.trace.Line.{Line}
use Rattle.case_forms.specs.declared.trace.Trace.{Trace}
use Rattle.spec_network.specs.HostRules.{aim_of}
use Rattle.spec_network.specs.Hosts.{Answered, Called, ThatSocket, World, turn_of}
use Rattle.spec_network.specs.Tables.{pick}
use Rattle.spec_tcp.specs.Calls.{call_allows}
use Rattle.spec_tcp.specs.HostTcp.{socket_target}
use Rattle.spec_tcp.specs.Machine.{tcp, tcp_shape}
use Rattle.spec_tcp.specs.declared.endpoint.SocketTarget.{SocketTarget}
use Rattle.kept_duties.specs.Happens.{world_before}
use Rattle.kept_duties.specs.Places.{IsStep}
use Rattle.kept_duties.specs.Segments.{EndsBy}

-- how late a program that waits may be woken: this project's choice, since RFC 9293, 3.9.1, leaves the time open
abbrev pub longest_wait : ℕ
longest_wait = 500000

-- the socket number on which a call may have to wait, so that `again` may be its answer
abbrev pub waits_on : Call → Option ℕ
waits_on (calls.Recv n most) = Some n
waits_on (calls.Await n) = Some n
waits_on (calls.Accept n) = Some n
waits_on call = None

-- in a world, the socket number is live: the host that returned it has an endpoint or a listener for it
pub record IsLive (h : Header) (world : World tcp_shape) (socket : ℕ) : Type 0 where
  pub host : Host
  pub target : SocketTarget
  pub returned : aim_of (tcp h) world.hosts (ThatSocket socket) ≡ Some host
  pub names : socket_target (pick world.hosts host).body socket ≡ Some target

-- the thread's call on this socket number had no effect yet
pub record IsCalled (h : Header) (world : World tcp_shape) (thread socket : ℕ) : Type 0 where
  pub call : Call
  pub waits : waits_on call ≡ Some socket
  pub begun : turn_of thread world.threads ≡ Called call
  pub live : IsLive h world socket

-- nor can it be answered `again`: that would break rule `call-answer`
pub record IsReady (h : Header) (world : World tcp_shape) (thread socket : ℕ) : Type 0 where
  pub called : IsCalled h world thread socket
  pub ready : call_allows h.version (pick world.hosts called.live.host).body called.call answers.Again ≡ false

-- the call had its effect, with another answer than `again`, and its socket number is still live
pub record HasAnswer (h : Header) (world : World tcp_shape) (thread socket : ℕ) : Type 0 where
  pub answer : Answer
  pub given : turn_of thread world.threads ≡ Answered answer
  pub other : answer ≡ answers.Again → ⊥
  pub live : IsLive h world socket

-- the step at this place is the `D` step of the call, with another answer than `again`
pub record GetsAnswer (t : Trace) (w : Witness) (place moment thread socket : ℕ) : Type 0 where
  pub called : IsCalled t.header (world_before t w place) thread socket
  pub answer : Answer
  pub step : IsStep w place moment (labels.D thread answer)
  pub other : answer ≡ answers.Again → ⊥

-- from this step on, before another, the program waits for an answer that is there: at first the call can't be answered
-- `again` any more, or is answered otherwise by the step; and before each later step one of both is so
pub record Waits (t : Trace) (w : Witness) (from since to thread socket : ℕ) : Type 0 where
  pub behind : from < to
  pub begins : IsReady t.header (world_before t w from) thread socket ⊎ GetsAnswer t w from since thread socket
  pub stays : (place : ℕ) → from < place → place ≤ to
      → IsReady t.header (world_before t w place) thread socket
      ⊎ HasAnswer t.header (world_before t w place) thread socket

-- the step at this place uses an `E` line of the thread: its program gets the answer
pub record EndsAt (t : Trace) (w : Witness) (place moment thread : ℕ) : Type 0 where
  pub line : ℕ
  pub shown : Line
  pub answer : Answer
  pub step : IsStep w place moment (labels.L (record { number = line; extras = Bare }))
  pub is : line_at t.header t.lines line ≡ Some shown
  pub of : shown.thread ≡ thread
  pub ends : shown.event ≡ lines.CallEnd answer

-- the step at this place has this moment
pub record IsAt (w : Witness) (place moment : ℕ) : Type 0 where
  pub label : Label NamedLine
  pub step : IsStep w place moment label

-- the program gets such an answer in time; and if it doesn't get it, the witness ends in time
pub record CallsAreAnswered (t : Trace) (w : Witness) (slack : ℕ) : Type 0 where
  pub ended : (from since to moment thread socket : ℕ) → IsAt w from since → Waits t w from since to thread socket
      → EndsAt t w to moment thread → moment ≤ since + longest_wait + slack
  pub left : (from since thread socket : ℕ) → IsAt w from since → Waits t w from since (length w.steps) thread socket
      → EndsBy w (since + longest_wait + slack)
