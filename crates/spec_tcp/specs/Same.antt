-- When two truth values, names, numbers (RFC 9293, 3.4), lists of bytes, states or answers are the same.
use Rattle.std.specs.Prelude.{ℕ, ◌==◌, Bool, true, false, not, ◌&&◌, if◌then◌else◌, List, [], ◌∷◌}
use Rattle.seqno.specs.declared.word.Word.{Word}
use Rattle.case_forms.specs.declared.calls.Answer.{Answer}
use Rattle.case_forms.specs.declared.calls.Answer.TheVariants as answers
use Rattle.case_forms.specs.declared.calls.State.{State}
use Rattle.case_forms.specs.declared.calls.State.TheVariants as states
use Rattle.spec_network.specs.Tables.{host_is}
use Rattle.spec_tcp.specs.Endpoints.{EndpointId}

abbrev pub same_bool : Bool → Bool → Bool
same_bool a b = if a then b else not b

abbrev pub same_endpoint : EndpointId → EndpointId → Bool
same_endpoint a b = host_is a.host b.host && a.number == b.number

abbrev pub same_word : Word → Word → Bool
same_word a b = a.0 == b.0

abbrev pub same_bytes : List ℕ → List ℕ → Bool
same_bytes [] [] = true
same_bytes [] (y ∷ ys) = false
same_bytes (x ∷ xs) [] = false
same_bytes (x ∷ xs) (y ∷ ys) = x == y && same_bytes xs ys

-- a state's number, which distinguishes it from the others
abbrev pub state_place : State → ℕ
state_place states.Closed = 0
state_place states.Listen = 1
state_place states.SynSent = 2
state_place states.SynReceived = 3
state_place states.Established = 4
state_place states.FinWait1 = 5
state_place states.FinWait2 = 6
state_place states.CloseWait = 7
state_place states.Closing = 8
state_place states.LastAck = 9
state_place states.TimeWait = 10

abbrev pub same_state : State → State → Bool
same_state s t = state_place s == state_place t

abbrev pub same_answer : Answer → Answer → Bool
same_answer answers.Done answers.Done = true
same_answer (answers.Given m) (answers.Given n) = m == n
same_answer (answers.Bytes xs) (answers.Bytes ys) = same_bytes xs ys
same_answer answers.Again answers.Again = true
same_answer answers.Eof answers.Eof = true
same_answer answers.Closed answers.Closed = true
same_answer answers.NotConn answers.NotConn = true
same_answer answers.Refused answers.Refused = true
same_answer answers.Reset answers.Reset = true
same_answer answers.Timeout answers.Timeout = true
same_answer answers.InUse answers.InUse = true
same_answer answers.BadSocket answers.BadSocket = true
same_answer (answers.State s) (answers.State t) = same_state s t
same_answer _ _ = false
