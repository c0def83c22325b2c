-- SEND: the answers it may have, and the endpoint afterwards (RFC 9293, 3.10.2).
use Rattle.std.specs.Prelude.{ℕ, nat_le, Bool, true, false, ◌&&◌, ◌||◌, if◌then◌else◌, List, ◌++◌, length, take}
use Rattle.std.specs.Prelude.{is_some}
use Rattle.case_forms.specs.Versions.{says_sender}
use Rattle.case_forms.specs.declared.calls.Answer.{Answer}
use Rattle.case_forms.specs.declared.calls.Answer.TheVariants as answers
use Rattle.case_forms.specs.declared.calls.State.{State}
use Rattle.case_forms.specs.declared.calls.State.TheVariants as states
use Rattle.case_forms.specs.declared.version.Version.{Version}
use Rattle.spec_tcp.specs.Endpoints.{Endpoint}
use Rattle.spec_tcp.specs.Calls.Await.{tells_fault, is_not_connected, is_closed_answer}

-- a count of bytes accepted: at least one, at most all
abbrev pub sends_some : List ℕ → Answer → Bool
sends_some bytes (answers.Given n) = nat_le 1 n && nat_le n (length bytes)
sends_some bytes answers.Again = true
sends_some bytes _ = false

-- `send`, if nothing failed and sending was not ended (RFC 9293, 3.10.2)
abbrev pub open_send_allows : State → List ℕ → Answer → Bool
open_send_allows states.SynSent bytes answer = is_not_connected answer || sends_some bytes answer
open_send_allows states.SynReceived bytes answer = is_not_connected answer || sends_some bytes answer
open_send_allows states.Established bytes answer = sends_some bytes answer
open_send_allows states.CloseWait bytes answer = sends_some bytes answer
open_send_allows _ bytes answer = is_closed_answer answer

-- `send`: the fault comes first, then the end of sending; from version 6 on, a failed connection is one that sends no
-- more, too (RFC 9293, 3.10.2: "error: connection does not exist")
abbrev pub send_allows : Version → Endpoint → List ℕ → Answer → Bool
send_allows v e bytes answer =
    if is_some e.fault then tells_fault e answer || ((says_sender v || e.stream.ended) && is_closed_answer answer)
    else if e.stream.ended then is_closed_answer answer
    else open_send_allows e.state bytes answer

-- the first bytes of a `send` are accepted
abbrev pub after_send : List ℕ → ℕ → Endpoint → Endpoint
after_send bytes n e = record e { stream = record e.stream { accepted = e.stream.accepted ++ take n bytes } }
