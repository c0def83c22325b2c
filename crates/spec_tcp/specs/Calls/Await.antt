-- `await`, and what an answer reports about an endpoint (RFC 9293, 3.9.1).
-- In code these are in `calls`; here they are in a file of their own, which the other calls use.
use Rattle.std.specs.Prelude.{Bool, true, false, not, ◌&&◌, is_some}
use Rattle.std.specs.Option.{option_map_or}
use Rattle.case_forms.specs.declared.calls.Answer.{Answer}
use Rattle.case_forms.specs.declared.calls.Answer.TheVariants as answers
use Rattle.spec_tcp.specs.Endpoints.{Fault, Refused, Reset, Timeout, Endpoint, is_up}

-- the answer reports this fault
abbrev pub tells : Fault → Answer → Bool
tells Refused answers.Refused = true
tells Reset answers.Reset = true
tells Timeout answers.Timeout = true
tells _ _ = false

-- the endpoint failed, and the answer reports how
abbrev pub tells_fault : Endpoint → Answer → Bool
tells_fault e answer = option_map_or (λ fault. tells fault answer) e.fault false

abbrev pub is_not_connected : Answer → Bool
is_not_connected answers.NotConn = true
is_not_connected _ = false

abbrev pub is_closed_answer : Answer → Bool
is_closed_answer answers.Closed = true
is_closed_answer _ = false

-- `await`: the fault, or that the connection is established, or neither yet
abbrev pub await_allows : Endpoint → Answer → Bool
await_allows e answers.Done = not (is_some e.fault) && is_up e
await_allows e answers.Again = not (is_some e.fault) && not (is_up e)
await_allows e answer = tells_fault e answer
