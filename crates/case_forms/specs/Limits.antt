-- What a text requires of calls, answers and plans: the ranges of their types, and limits that no type expresses.
use Rattle.std.specs.Prelude.{◌≤◌, ℕ, List, length, Option, None, Some}
use Rattle.seqno.specs.declared.word.Word.{Word}
use Rattle.case_forms.specs.declared.calls.Answer.{Answer}
use Rattle.case_forms.specs.declared.calls.Answer.TheVariants as answers
use Rattle.case_forms.specs.declared.calls.Call.{Call}
use Rattle.case_forms.specs.declared.calls.Call.TheVariants as calls
use Rattle.case_forms.specs.declared.steps.SegmentPlan.{SegmentPlan}

-- a port, a byte count or a window has 16 bits; a socket number, a thread or a congestion window 32
abbrev pub Has16 : ℕ → Type 0
Has16 n = n ≤ 65535

abbrev pub Has32 : ℕ → Type 0
Has32 n = n ≤ 4294967295

-- 1 to 65,535 bytes
abbrev pub AreSome : List ℕ → Type 0
AreSome bytes = (1 ≤ length bytes) × (length bytes ≤ 65535)

-- the numbers of a call are in the ranges of their types
abbrev pub HasCallBits : Call → Type 0
HasCallBits (calls.Listen host port backlog) = Has16 port × Has16 backlog
HasCallBits (calls.Connect host local remote) = Has16 local × Has16 remote
HasCallBits (calls.Await socket) = Has32 socket
HasCallBits (calls.Accept socket) = Has32 socket
HasCallBits (calls.Send socket bytes) = Has32 socket
HasCallBits (calls.Recv socket max) = Has32 socket × Has16 max
HasCallBits (calls.Shut socket) = Has32 socket
HasCallBits (calls.Close socket) = Has32 socket
HasCallBits (calls.Abort socket) = Has32 socket
HasCallBits (calls.Status socket) = Has32 socket

-- no port is 0, a send has 1 to 65,535 bytes, and a read accepts at least one
abbrev pub IsTextCall : Call → Type 0
IsTextCall (calls.Listen host port backlog) = 1 ≤ port
IsTextCall (calls.Connect host local remote) = (1 ≤ local) × (1 ≤ remote)
IsTextCall (calls.Send socket bytes) = AreSome bytes
IsTextCall (calls.Recv socket max) = 1 ≤ max
IsTextCall call = Unit {0}

-- the number of an answer is in the range of its type
abbrev pub HasAnswerBits : Answer → Type 0
HasAnswerBits (answers.Given count) = Has32 count
HasAnswerBits answer = Unit {0}

-- an answer returns 1 to 65,535 bytes
abbrev pub IsTextAnswer : Answer → Type 0
IsTextAnswer (answers.Bytes bytes) = AreSome bytes
IsTextAnswer answer = Unit {0}

-- the initial number of a plan is in the range of its type
abbrev pub HasIssBits : Option Word → Type 0
HasIssBits None = Unit {0}
HasIssBits (Some iss) = Has32 iss.0

-- the numbers of a plan are in the ranges of their types
pub record HasPlanBits (plan : SegmentPlan) : Type 0 where
  pub lport : Has16 plan.lport
  pub rport : Has16 plan.rport
  pub window : Has16 plan.window
  pub iss : HasIssBits plan.iss
