-- The answers of a listener, and an endpoint that is accepted (RFC 9293, 3.10.1, passive OPEN; `accept` is specific to
-- this profile).
use Rattle.std.specs.Prelude.{ℕ, Bool, true, false, ◌&&◌, if◌then◌else◌, List, [], ◌∷◌, None}
use Rattle.case_forms.specs.Versions.{says_sender}
use Rattle.case_forms.specs.declared.calls.Answer.{Answer}
use Rattle.case_forms.specs.declared.calls.Answer.TheVariants as answers
use Rattle.case_forms.specs.declared.calls.Call.{Call}
use Rattle.case_forms.specs.declared.calls.Call.TheVariants as calls
use Rattle.case_forms.specs.declared.calls.State.TheVariants as states
use Rattle.case_forms.specs.declared.version.Version.{Version}
use Rattle.streams.specs.Lists.{modify}
use Rattle.spec_tcp.specs.Endpoints.{SocketTarget, ListenerAt, EndpointAt}
use Rattle.spec_tcp.specs.HostTcp.{HostTcp, queue_of, with_socket}
use Rattle.spec_tcp.specs.Calls.Await.{is_not_connected}

-- `shut` of an open listener; from version 6 on, it may end the listener (RFC 9293, 3.10.4: CLOSE in LISTEN)
abbrev pub open_shut_allows : Version → Answer → Bool
open_shut_allows v answers.NotConn = true
open_shut_allows v answers.Done = says_sender v
open_shut_allows v _ = false

-- a call on a live socket number of an open listener with this queue
abbrev pub open_allows : Version → List ℕ → Call → Answer → Bool
open_allows v [] (calls.Accept n) answers.Again = true
open_allows v (child ∷ queue) (calls.Accept n) (answers.Given m) = true
open_allows v queue (calls.Await n) answers.NotConn = true
open_allows v queue (calls.Send n bytes) answers.NotConn = true
open_allows v queue (calls.Recv n most) answers.NotConn = true
open_allows v queue (calls.Shut n) answer = open_shut_allows v answer
open_allows v queue (calls.Close n) answers.Done = true
open_allows v queue (calls.Abort n) answers.Done = true
open_allows v queue (calls.Status n) (answers.State states.Listen) = true
open_allows v queue _ _ = false

-- a call on a live socket number of a listener that `shut` ended: it is CLOSED (RFC 9293, 3.10.2 to 3.10.6)
abbrev pub ended_allows : Call → Answer → Bool
ended_allows (calls.Accept n) answer = is_not_connected answer
ended_allows (calls.Await n) answer = is_not_connected answer
ended_allows (calls.Send n bytes) answer = is_not_connected answer
ended_allows (calls.Recv n most) answer = is_not_connected answer
ended_allows (calls.Shut n) answer = is_not_connected answer
ended_allows (calls.Close n) answers.Done = true
ended_allows (calls.Abort n) answers.Done = true
ended_allows (calls.Status n) (answers.State states.Closed) = true
ended_allows _ _ = false

-- a call on a live socket number of a listener, ended or not, with this queue
abbrev pub listener_allows : Version → Bool → List ℕ → Call → Answer → Bool
listener_allows v ended queue call answer =
    if says_sender v && ended then ended_allows call answer else open_allows v queue call answer

-- `accept`: the first child of the queue gets the socket number
abbrev pub accepted_from : HostTcp → ℕ → ℕ → List ℕ → HostTcp
accepted_from b l n [] = b
accepted_from b l n (child ∷ queue) = with_socket (record b {
  endpoints = modify b.endpoints child (λ e. record e { listener = None });
  listeners = modify b.listeners l (λ x. record x { queue = queue });
}) n (EndpointAt child)

abbrev pub after_accept : HostTcp → ℕ → SocketTarget → HostTcp
after_accept b n (ListenerAt l) = accepted_from b l n (queue_of b l)
after_accept b n (EndpointAt i) = b
