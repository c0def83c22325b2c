-- When all rounds ended, in terms of both applications' answers.
use Rattle.std.specs.Prelude.{◌≡◌, ℕ, ◌*◌, ◌==◌, Bool, true, false, if◌then◌else◌, List, [], length, map, Option, None}
use Rattle.std.specs.Prelude.{Some}
use Rattle.std.specs.List.{concat, count_by, filter_map}
use Rattle.case_forms.specs.declared.calls.Answer.{Answer}
use Rattle.case_forms.specs.declared.calls.Answer.TheVariants as answers
use Rattle.case_forms.specs.declared.trace.Event.{Event}
use Rattle.case_forms.specs.declared.trace.Event.TheVariants as events
use Rattle.case_forms.specs.declared.trace.Line.{Line}

-- the answer with which an event ends a call
abbrev pub event_answer : Event → Option Answer
event_answer (events.CallEnd answer) = Some answer
event_answer _ = None

-- the answer that a line gives the thread
abbrev pub line_answer : ℕ → Line → Option Answer
line_answer thread line = if line.thread == thread then event_answer line.event else None

-- the answers of the thread's calls, in their order
abbrev pub answers_of : ℕ → List Line → List Answer
answers_of thread lines = filter_map (line_answer thread) lines

-- the bytes that an answer gives
abbrev pub bytes_in : Answer → List ℕ
bytes_in (answers.Bytes bytes) = bytes
bytes_in _ = []

-- the bytes that the thread received, one read after the other
abbrev pub received : ℕ → List Line → List ℕ
received thread lines = concat (map bytes_in (answers_of thread lines))

-- the answer is `ok`
abbrev pub is_done : Answer → Bool
is_done answers.Done = true
is_done _ = false

-- the answer is `eof`: all that the peer sent was read
abbrev pub is_eof : Answer → Bool
is_eof answers.Eof = true
is_eof _ = false

-- Host 1's application, thread 3, received 64 bytes for each round, read the end once, and one of its calls was
-- answered `ok`: its `close`. Three calls of host 0's application, thread 2, were answered `ok`: its `await`, its
-- `shut` and its `close`.
pub record HaveEnded (rounds : ℕ) (lines : List Line) : Type 0 where
  pub received : length (received 3 lines) ≡ 64 * rounds
  pub told_end : count_by is_eof (answers_of 3 lines) ≡ 1
  pub server_closed : count_by is_done (answers_of 3 lines) ≡ 1
  pub client_closed : count_by is_done (answers_of 2 lines) ≡ 3
