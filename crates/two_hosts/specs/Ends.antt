-- What a trace shows if all rounds ended: sums over the answers of a thread.
use Rattle.std.specs.Prelude.{ℕ, ◌+◌, ◌*◌, ◌==◌, ◌&&◌, Bool, if◌then◌else◌, List, [], ◌∷◌, length}
use Rattle.case_forms.specs.declared.calls.Answer.{Answer}
use Rattle.case_forms.specs.declared.calls.Answer.TheVariants as answers
use Rattle.case_forms.specs.declared.trace.Event.{Event}
use Rattle.case_forms.specs.declared.trace.Event.TheVariants as events
use Rattle.case_forms.specs.declared.trace.Line.{Line}
use Rattle.two_hosts.specs.declared.ends.Measure.{Measure}
use Rattle.two_hosts.specs.declared.ends.Measure.TheVariants.{Bytes, Dones, Eofs}

-- what an answer adds: the bytes that a read returned, or 1 for `ok`, or 1 for `eof`
abbrev pub amount : Measure → Answer → ℕ
amount Bytes (answers.Bytes bytes) = length bytes
amount Dones answers.Done = 1
amount Eofs answers.Eof = 1
amount _ _ = 0

-- what an event adds: only the end of a call does
abbrev pub event_amount : Measure → Event → ℕ
event_amount measure (events.CallEnd answer) = amount measure answer
event_amount measure _ = 0

-- what a line of the thread adds
abbrev pub line_amount : Measure → ℕ → Line → ℕ
line_amount measure thread line = if line.thread == thread then event_amount measure line.event else 0

-- what the answers of a thread add up to
abbrev pub told : Measure → ℕ → List Line → ℕ
told measure thread [] = 0
told measure thread (line ∷ lines) = line_amount measure thread line + told measure thread lines

-- host 1's thread read the 64 bytes of each round and then the end, and was answered `ok` once, when it closed; host
-- 0's thread was answered `ok` three times, when it awaited, ended sending and closed (`specs/Rounds` states it for the
-- answers themselves)
abbrev pub has_ended : ℕ → List Line → Bool
has_ended rounds lines =
    (told Bytes 3 lines == 64 * rounds) && (told Eofs 3 lines == 1) && (told Dones 3 lines == 1) &&
    (told Dones 2 lines == 3)
