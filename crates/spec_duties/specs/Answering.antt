-- A call that waits is answered: once `recv`, `await` or `accept` can't be answered `again` any more, the program gets
-- the answer within half a second (RFC 9293, 3.9.1, which leaves the time open: half a second is this project's
-- choice).
use Rattle.std.specs.Prelude.{ℕ, max, Bool, true, false, ◌||◌, if◌then◌else◌, List, [], ◌∷◌, Option, None, Some}
use Rattle.std.specs.Prelude.{nat_eq, unwrap_or}
use Rattle.std.specs.Option.{option_map, option_map_or, option_or}
use Rattle.indexmap.specs.IndexMap.{insert_entry}
use Rattle.case_forms.specs.Versions.{says_sender}
use Rattle.case_forms.specs.declared.calls.Answer.{Answer}
use Rattle.case_forms.specs.declared.calls.Answer.TheVariants as answers
use Rattle.case_forms.specs.declared.calls.Call.{Call}
use Rattle.case_forms.specs.declared.calls.Call.TheVariants as calls
use Rattle.case_forms.specs.declared.calls.Host.{Host}
use Rattle.case_forms.specs.declared.trace.Header.{Header}
use Rattle.case_forms.specs.declared.version.Version.TheVariants.{Six}
use Rattle.spec_network.specs.HostRules.{aim_of}
use Rattle.spec_network.specs.Hosts.{ThatSocket, World}
use Rattle.spec_network.specs.Tables.{Both, on, pick, settled, waiting, with_host}
use Rattle.spec_tcp.specs.Calls.{target_allows}
use Rattle.spec_tcp.specs.HostTcp.{HostTcp, socket_target}
use Rattle.spec_tcp.specs.Machine.{aim, gives, tcp, tcp_shape}
use Rattle.spec_tcp.specs.declared.endpoint.SocketTarget.{SocketTarget}
use Rattle.spec_tcp.specs.declared.endpoint.SocketTarget.TheVariants.{ListenerAt, EndpointAt}
use Rattle.spec_duties.specs.Deadlines.{due_within, is_late}
use Rattle.spec_duties.specs.declared.answering.Awaited.TheVariants as awaits
use Rattle.spec_duties.specs.declared.answering.CallChange.TheVariants as call_change
use Rattle.spec_duties.specs.declared.answering.OpenCall.TheVariants as open_call
use Rattle.spec_duties.specs.declared.answering.SocketChange.TheVariants as socket_change
use Rattle.spec_duties.specs.declared.observations.TouchedEndpoint.{TouchedEndpoint}
pub use Rattle.spec_duties.specs.declared.answering.Awaited.{Awaited}
pub use Rattle.spec_duties.specs.declared.answering.CallChange.{CallChange}
pub use Rattle.spec_duties.specs.declared.answering.OpenCall.{OpenCall}
pub use Rattle.spec_duties.specs.declared.answering.Ready.{Ready}
pub use Rattle.spec_duties.specs.declared.answering.SocketChange.{SocketChange}
pub use Rattle.spec_duties.specs.declared.answering.Waitable.{Waitable}
pub use Rattle.spec_duties.specs.declared.answering.Waiting.{Waiting}

-- ---- what is kept

-- the open call of each thread that may have to wait; and for each live socket, by the place of the endpoint or
-- listener that it names, since when no call on it has to wait. What ended left None in its place
pub record Waits : Type 0 where
  pub threads : List (ℕ × Option OpenCall)
  pub endpoints : Both (List (ℕ × Option Ready))
  pub listeners : Both (List (ℕ × Option Ready))

abbrev pub none_wait : Waits
none_wait = record {
  threads = [];
  endpoints = record { zero = []; one = [] };
  listeners = record { zero = []; one = [] };
}

abbrev pub ready_at : Waits → Host → SocketTarget → Option Ready
ready_at a host (EndpointAt i) = waiting i (pick a.endpoints host)
ready_at a host (ListenerAt l) = waiting l (pick a.listeners host)

abbrev pub with_ready : Waits → Host → SocketTarget → Option Ready → Waits
with_ready a host (EndpointAt i) ready =
    record a { endpoints = with_host a.endpoints host (insert_entry nat_eq (pick a.endpoints host) i ready) }
with_ready a host (ListenerAt l) ready =
    record a { listeners = with_host a.listeners host (insert_entry nat_eq (pick a.listeners host) l ready) }

-- ---- since when no call on a socket has to wait

abbrev pub call_for : Awaited → Call
call_for awaits.Bytes = calls.Recv 0 0
call_for awaits.Connection = calls.Await 0
call_for awaits.Child = calls.Accept 0

-- such a call may be answered `again`, in texts that judge answers: from version 6 on
abbrev pub may_wait : HostTcp → SocketTarget → Awaited → Bool
may_wait b target awaited = target_allows Six b (call_for awaited) answers.Again target

abbrev pub waitable : HostTcp → SocketTarget → Waitable
waitable b target = record {
  bytes = may_wait b target awaits.Bytes;
  connection = may_wait b target awaits.Connection;
  child = may_wait b target awaits.Child;
}

-- if no call has to wait already, the earlier moment stays
abbrev pub ready_after : (may_wait : Bool) → (moment : ℕ) → (since : Option ℕ) → Option ℕ
ready_after may_wait moment since = if may_wait then None else option_or since (Some moment)

abbrev pub renewed : Waitable → (moment : ℕ) → Ready → Ready
renewed may moment r = record {
  bytes = ready_after may.bytes moment r.bytes;
  connection = ready_after may.connection moment r.connection;
  child = ready_after may.child moment r.child;
}

-- before the socket number is returned
abbrev pub not_ready : Ready
not_ready = record { bytes = None; connection = None; child = None }

abbrev pub ready_since : Ready → Awaited → Option ℕ
ready_since r awaits.Bytes = r.bytes
ready_since r awaits.Connection = r.connection
ready_since r awaits.Child = r.child

abbrev pub ready_for : Waits → Waiting → Option ℕ
ready_for a x = on (ready_at a x.host x.target) None (λ r. ready_since r x.awaited)

-- ---- the duty: since when an answer is owed, and by when

-- to a call without an answer: since it began, or since its socket lets no call wait, if that is later
abbrev pub unanswered_since : (ready : Option ℕ) → OpenCall → Option ℕ
unanswered_since ready (open_call.Waits since socket awaited) = option_map (max since) ready
unanswered_since ready (open_call.Answered since host target) = None

-- to a call with an answer, while its socket is live
abbrev pub answered_since : Waits → OpenCall → Option ℕ
answered_since a (open_call.Waits since socket awaited) = None
answered_since a (open_call.Answered since host target) = option_map (λ r. since) (ready_at a host target)

abbrev pub answer_due : (since : Option ℕ) → Option ℕ
answer_due since = due_within 500000 since

-- to the call that gets its answer now, or whose program does
abbrev pub owed_by_thread : Waits → (thread : ℕ) → (OpenCall → Option ℕ) → Option ℕ
owed_by_thread a thread owed = on (waiting thread a.threads) None owed

abbrev pub answer_since : Waits → CallChange → Option ℕ
answer_since a call_change.Nothing = None
answer_since a (call_change.Begins thread socket awaited) = None
answer_since a (call_change.Answers thread None) = None
answer_since a (call_change.Answers thread (Some x)) = owed_by_thread a thread (unanswered_since (ready_for a x))
answer_since a (call_change.Ends thread) = owed_by_thread a thread (answered_since a)

abbrev pub is_answer_late : (slack moment : ℕ) → Waits → CallChange → Bool
is_answer_late slack moment a change = is_late slack moment (answer_due (answer_since a change))

-- ---- what a step shows of a call

abbrev pub is_again : Answer → Bool
is_again answers.Again = true
is_again answer = false

-- a call waits on a socket number that is live
abbrev pub waiting_on : Header → World tcp_shape → Awaited → (socket : ℕ) → Option Waiting
waiting_on h w awaited n =
    on (aim_of (tcp h) w.hosts (ThatSocket n)) None
    (λ host. option_map (λ target. record { host = host; target = target; awaited = awaited })
    (socket_target (pick w.hosts host).body n))

abbrev pub beginning : (thread : ℕ) → Call → CallChange
beginning thread (calls.Recv n most) = call_change.Begins thread n awaits.Bytes
beginning thread (calls.Await n) = call_change.Begins thread n awaits.Connection
beginning thread (calls.Accept n) = call_change.Begins thread n awaits.Child
beginning thread call = call_change.Nothing

abbrev pub answering_on : Header → World tcp_shape → (thread : ℕ) → Answer → Awaited → (socket : ℕ) → CallChange
answering_on h w thread answer awaited n =
    call_change.Answers thread (if is_again answer then None else waiting_on h w awaited n)

abbrev pub answering : Header → World tcp_shape → (thread : ℕ) → Answer → Call → CallChange
answering h w thread answer (calls.Recv n most) = answering_on h w thread answer awaits.Bytes n
answering h w thread answer (calls.Await n) = answering_on h w thread answer awaits.Connection n
answering h w thread answer (calls.Accept n) = answering_on h w thread answer awaits.Child n
answering h w thread answer call = call_change.Nothing

abbrev pub closing_on : Host → HostTcp → (socket : ℕ) → SocketChange
closing_on host b n = option_map_or (socket_change.Closes host) (socket_target b n) socket_change.Nothing

abbrev pub shutting_on : Host → HostTcp → (socket : ℕ) → SocketChange
shutting_on host b n = option_map_or (socket_change.Shuts host) (socket_target b n) socket_change.Nothing

abbrev pub closing : Host → HostTcp → Answer → Call → SocketChange
closing host b answers.Done (calls.Shut n) = shutting_on host b n
closing host b answers.Done (calls.Close n) = closing_on host b n
closing host b answers.Done (calls.Abort n) = closing_on host b n
closing host b answer call = socket_change.Nothing

-- the effect of a call gives a socket number, ends one, or shuts what one names
abbrev pub socket_changing : Header → World tcp_shape → Answer → Call → SocketChange
socket_changing h w answer call =
    on (aim_of (tcp h) w.hosts (aim call)) socket_change.Nothing
    (λ host. on (gives call answer) (closing host (pick w.hosts host).body answer call) (socket_change.Gives host))

-- versions 1 to 5 judge no answers
abbrev pub judged_call : Header → CallChange → CallChange
judged_call h change = if says_sender h.version then change else call_change.Nothing

abbrev pub judged_socket : Header → SocketChange → SocketChange
judged_socket h change = if says_sender h.version then change else socket_change.Nothing

-- ---- what is kept after a step

-- a call that gets another answer than `again` owes it since then, unless it did before
abbrev pub answered : Waits → (moment thread : ℕ) → Waiting → OpenCall
answered a moment thread x =
    open_call.Answered (unwrap_or (owed_by_thread a thread (unanswered_since (ready_for a x))) moment) x.host x.target

abbrev pub threads_after : (moment : ℕ) → CallChange → Waits → List (ℕ × Option OpenCall)
threads_after moment call_change.Nothing a = a.threads
threads_after moment (call_change.Begins thread socket awaited) a =
    insert_entry nat_eq a.threads thread (Some (open_call.Waits moment socket awaited))
threads_after moment (call_change.Answers thread None) a = settled thread a.threads
threads_after moment (call_change.Answers thread (Some x)) a =
    insert_entry nat_eq a.threads thread (Some (answered a moment thread x))
threads_after moment (call_change.Ends thread) a = settled thread a.threads

abbrev pub call_noted : (moment : ℕ) → CallChange → Waits → Waits
call_noted moment change a = record a { threads = threads_after moment change a }

-- what an endpoint or listener has may have changed
abbrev pub renewed_at : Waitable → (moment : ℕ) → Host → SocketTarget → Waits → Waits
renewed_at may moment host target a =
    on (ready_at a host target) a (λ r. with_ready a host target (Some (renewed may moment r)))

abbrev pub seen_again : World tcp_shape → (moment : ℕ) → Host → SocketTarget → Waits → Waits
seen_again w moment host target a = renewed_at (waitable (pick w.hosts host).body target) moment host target a

-- that of an endpoint that a step touches, and of the listener whose child it is
abbrev pub listener_seen : World tcp_shape → (moment : ℕ) → Host → Option ℕ → Waits → Waits
listener_seen w moment host listener a = on listener a (λ l. seen_again w moment host (ListenerAt l) a)

abbrev pub touched_seen : World tcp_shape → (moment : ℕ) → Option TouchedEndpoint → Waits → Waits
touched_seen w moment touched a =
    on touched a
    (λ t. listener_seen w moment t.host t.before.listener (seen_again w moment t.host (EndpointAt t.place) a))

-- that of the socket on which a call gets its answer
abbrev pub answer_seen : World tcp_shape → (moment : ℕ) → CallChange → Waits → Waits
answer_seen w moment (call_change.Answers thread (Some x)) a = seen_again w moment x.host x.target a
answer_seen w moment change a = a

-- a socket number is returned, or isn't live any more; after `shut` it is, and no call on a listener waits then
abbrev pub socket_given : World tcp_shape → (moment : ℕ) → Host → Option SocketTarget → Waits → Waits
socket_given w moment host target a =
    on target a
    (λ t. with_ready a host t (Some (renewed (waitable (pick w.hosts host).body t) moment not_ready)))

abbrev pub socket_noted : World tcp_shape → (moment : ℕ) → SocketChange → Waits → Waits
socket_noted w moment socket_change.Nothing a = a
socket_noted w moment (socket_change.Gives host n) a =
    socket_given w moment host (socket_target (pick w.hosts host).body n) a
socket_noted w moment (socket_change.Shuts host target) a = seen_again w moment host target a
socket_noted w moment (socket_change.Closes host target) a = with_ready a host target None

-- all of it, if the step leads to this world
abbrev pub waits_after : World tcp_shape → (moment : ℕ) → Option TouchedEndpoint → CallChange → SocketChange → Waits
    → Waits
waits_after w moment touched call socket a =
    socket_noted w moment socket
    (answer_seen w moment call (touched_seen w moment touched (call_noted moment call a)))

-- ---- after the last step

abbrev pub owed_at_end : Header → World tcp_shape → Waits → OpenCall → Option ℕ
owed_at_end h w a (open_call.Waits since socket awaited) =
    on (waiting_on h w awaited socket) None
    (λ x. unanswered_since (ready_for a x) (open_call.Waits since socket awaited))
owed_at_end h w a (open_call.Answered since host target) =
    answered_since a (open_call.Answered since host target)

abbrev pub is_unanswered_late : Header → (slack moment : ℕ) → World tcp_shape → Waits → OpenCall → Bool
is_unanswered_late h slack moment w a call = is_late slack moment (answer_due (owed_at_end h w a call))

abbrev pub any_call : (OpenCall → Bool) → List (ℕ × Option OpenCall) → Bool
any_call late [] = false
any_call late (e ∷ entries) = option_map_or late e.1 false || any_call late entries
