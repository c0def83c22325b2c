-- What reads returned is a prefix of what the peer's sends accepted, in terms of the lines of a trace and the steps of
-- a witness only (RFC 9293, 3.4, 3.9.1 and 3.10).
use Rattle.std.specs.Prelude.{◌≡◌, ◌⊎◌, ℕ, ◌==◌, Bool, true, false, if◌then◌else◌, List, [], ◌∷◌, ◌++◌, take, slice_get}
use Rattle.std.specs.Prelude.{Option, None, Some}
use Rattle.std.specs.List.{flat_map, list_any}
use Rattle.std.specs.Option.{option_map_or, option_or}
use Rattle.case_forms.specs.declared.calls.Host.{Host}
use Rattle.case_forms.specs.declared.calls.Call.{Call}
use Rattle.case_forms.specs.declared.calls.Call.TheVariants as calls
use Rattle.case_forms.specs.declared.calls.Answer.{Answer}
use Rattle.case_forms.specs.declared.calls.Answer.TheVariants as answers
use Rattle.case_forms.specs.declared.named_line.Extras.{Extras}
use Rattle.case_forms.specs.declared.named_line.Extras.TheVariants.{Bare}
use Rattle.case_forms.specs.declared.named_line.NamedLine.{NamedLine}
use Rattle.case_forms.specs.declared.trace.Event.{Event}
use Rattle.case_forms.specs.declared.trace.Event.TheVariants as events
use Rattle.case_forms.specs.declared.trace.Trace.{Trace}
use Rattle.case_forms.specs.declared.steps.Label.{Label}
use Rattle.case_forms.specs.declared.steps.Label.TheVariants as labels
use Rattle.case_forms.specs.declared.steps.Step.{Step}
use Rattle.case_forms.specs.declared.steps.Witness.{Witness}
use Rattle.case_forms.specs.Traces.{line_at}
use Rattle.streams.specs.Lists.{IsPrefixOf}
use Rattle.spec_network.specs.Tables.{other}

-- a call that had its effect, with the answer of the effect
pub record CallDone : Type 0 where
  pub call : Call
  pub answer : Answer

-- the call that a B line begins; a step adds no number to it
abbrev pub begun : Event → Extras → Option Call
begun (events.CallBegin call) Bare = Some call
begun event extras = None

-- the call that a step begins in that thread: it takes a B line of the thread
abbrev pub begins : Trace → ℕ → Label NamedLine → Option Call
begins t thread (labels.L named) =
    option_map_or (λ line. if thread == line.thread then begun line.event named.extras else None)
    (line_at t.header t.lines named.number) None
begins t thread label = None

-- the last call that steps begin in that thread, with the latest step first
abbrev pub last_begun : Trace → ℕ → List Step → Option Call
last_begun t thread [] = None
last_begun t thread (s ∷ earlier) = option_or (begins t thread s.label) (last_begun t thread earlier)

-- what a D step does: the last call that its thread began, with the step's answer
abbrev pub does : Trace → List Step → Label NamedLine → List CallDone
does t earlier (labels.D thread answer) =
    option_map_or (λ call. record { call = call; answer = answer } ∷ []) (last_begun t thread earlier) []
does t earlier label = []

abbrev pub done_from : Trace → List Step → List Step → List CallDone
done_from t earlier [] = []
done_from t earlier (s ∷ steps) = does t earlier s.label ++ done_from t (s ∷ earlier) steps

-- the calls that had their effect in these steps, in their order
abbrev pub calls_done : Trace → List Step → List CallDone
calls_done t steps = done_from t [] steps

-- the bytes that a `recv` on this socket number returned
abbrev pub bytes_told : ℕ → Call → Answer → List ℕ
bytes_told socket (calls.Recv n most) (answers.Bytes bytes) = if n == socket then bytes else []
bytes_told socket _ _ = []

-- the first bytes of a `send` on it, as many as the answer accepts
abbrev pub bytes_accepted : ℕ → Call → Answer → List ℕ
bytes_accepted socket (calls.Send n bytes) (answers.Given count) = if n == socket then take count bytes else []
bytes_accepted socket _ _ = []

-- all that was returned, and all that was accepted, in these steps
abbrev pub told : Trace → List Step → ℕ → List ℕ
told t steps socket = flat_map (λ d. bytes_told socket d.call d.answer) (calls_done t steps)

abbrev pub accepted : Trace → List Step → ℕ → List ℕ
accepted t steps socket = flat_map (λ d. bytes_accepted socket d.call d.answer) (calls_done t steps)

-- a `recv` on this socket number returned the end of the stream
abbrev pub is_told_end : ℕ → Call → Answer → Bool
is_told_end socket (calls.Recv n most) answers.Eof = n == socket
is_told_end socket _ _ = false

-- a `shut` or a `close` of it was done, which ends the sending
abbrev pub is_ended : ℕ → Call → Answer → Bool
is_ended socket (calls.Shut n) answers.Done = n == socket
is_ended socket (calls.Close n) answers.Done = n == socket
is_ended socket _ _ = false

-- one of the calls in these steps returned the end, and one ended the sending
abbrev pub told_end : Trace → List Step → ℕ → Bool
told_end t steps socket = list_any (λ d. is_told_end socket d.call d.answer) (calls_done t steps)

abbrev pub ended : Trace → List Step → ℕ → Bool
ended t steps socket = list_any (λ d. is_ended socket d.call d.answer) (calls_done t steps)

-- what was returned on a socket number in these steps is a prefix of what was accepted on the peer's; if the end was
-- returned it is all of it, and the peer ended sending
pub record ReceivesFrom (t : Trace) (steps : List Step) (socket peer : ℕ) : Type 0 where
  pub prefix : IsPrefixOf (told t steps socket) (accepted t steps peer)
  pub whole : told_end t steps socket ≡ true → (told t steps socket ≡ accepted t steps peer)
      × (ended t steps peer ≡ true)

-- neither bytes nor the end were returned
pub record ReceivesNothing (t : Trace) (steps : List Step) (socket : ℕ) : Type 0 where
  pub told : told t steps socket ≡ []
  pub end : told_end t steps socket ≡ false

-- the call is one of those that had their effect, with that answer
abbrev pub Stands : List CallDone → Call → Answer → Type 0
Stands all call answer = (place : ℕ) × (slice_get all place ≡ Some (record { call = call; answer = answer }))

-- the socket number was given at that host to an endpoint of these ports, its own first: by an `open` of both; or by an
-- `accept` on a number that a `listen` on its own port was given there
pub data HasPorts (all : List CallDone) : Host → ℕ → ℕ → ℕ → Type 0 where
  Opened : (host : Host) (lport rport n : ℕ) → Stands all (calls.Connect host lport rport) (answers.Given n)
      → HasPorts all host lport rport n
  Accepted : (host : Host) (lport rport backlog listener n : ℕ) →
      Stands all (calls.Listen host lport backlog) (answers.Given listener) →
      Stands all (calls.Accept listener) (answers.Given n) → HasPorts all host lport rport n

-- two socket numbers of different hosts, each with the ports of the other, swapped
pub record AreOpposite (all : List CallDone) (socket peer : ℕ) : Type 0 where
  pub host : Host
  pub lport : ℕ
  pub rport : ℕ
  pub here : HasPorts all host lport rport socket
  pub there : HasPorts all (other host) rport lport peer

-- the headline: a socket number either receives nothing in the whole witness, or has a counterpart from which it
-- receives at each moment, that is, after the first `place` steps
abbrev pub ReceivesBeginSends : Trace → Witness → Type 0
ReceivesBeginSends t w = (socket : ℕ) → ReceivesNothing t w.steps socket
    ⊎ ((peer : ℕ) × AreOpposite (calls_done t w.steps) socket peer
    × ((place : ℕ) → ReceivesFrom t (take place w.steps) socket peer))
