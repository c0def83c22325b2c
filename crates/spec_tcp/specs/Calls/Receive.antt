-- RECEIVE: the answers it may have, and the endpoint afterwards (RFC 9293, 3.10.3).
use Rattle.std.specs.Prelude.{ℕ, ◌==◌, nat_le, Bool, not, ◌&&◌, if◌then◌else◌, List, length, is_some}
use Rattle.case_forms.specs.Versions.{says_sender}
use Rattle.case_forms.specs.declared.calls.Answer.{Answer}
use Rattle.case_forms.specs.declared.calls.Answer.TheVariants as answers
use Rattle.case_forms.specs.declared.version.Version.{Version}
use Rattle.streams.specs.Received.{is_ended, starts, told, waiting}
use Rattle.spec_tcp.specs.Endpoints.{Endpoint, is_up}
use Rattle.spec_tcp.specs.Calls.Await.{tells_fault}

-- all up to the peer's FIN was delivered
abbrev pub is_read_out : Endpoint → Bool
is_read_out e = is_ended e.stream.receive && length (waiting e.stream.receive) == 0

-- there is no connection: none yet, or from version 6 on, one that failed (RFC 9293, 3.10.3: "error: connection does
-- not exist")
abbrev pub is_unconnected : Version → Endpoint → Bool
is_unconnected v e = if is_some e.fault then says_sender v else not (is_up e)

-- `recv`: the next bytes in order; the end after the last; a fault; nothing yet (RFC 9293, 3.10.3)
abbrev pub recv_allows : Version → Endpoint → ℕ → Answer → Bool
recv_allows v e most (answers.Bytes bytes) =
    nat_le 1 (length bytes) && nat_le (length bytes) most && starts bytes (waiting e.stream.receive)
recv_allows v e most answers.Eof = is_read_out e
recv_allows v e most answers.Again =
    not (is_some e.fault) && length (waiting e.stream.receive) == 0 && not (is_read_out e)
recv_allows v e most answers.NotConn = is_unconnected v e
recv_allows v e most answer = tells_fault e answer

-- the bytes of a `recv` are delivered
abbrev pub after_recv : List ℕ → Endpoint → Endpoint
after_recv bytes e = record e { stream = record e.stream { receive = told e.stream.receive (length bytes) } }
