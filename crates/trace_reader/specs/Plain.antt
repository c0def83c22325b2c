-- An event line whose bytes are still digits.
use Rattle.std.specs.Prelude.{◌≡◌, ◌++◌, List, ℕ, [], ◌∷◌, Result, Ok}
use Rattle.case_forms.specs.declared.calls.Answer.{Answer}
use Rattle.case_forms.specs.declared.calls.Call.{Call}
use Rattle.case_forms.specs.declared.trace.Event.{Event}
use Rattle.case_forms.specs.declared.trace.Event.TheVariants as events
use Rattle.case_forms.specs.declared.trace.Line.{Line}
use Rattle.case_lines.specs.declared.record.KeptEvent.{KeptEvent}
use Rattle.case_lines.specs.Records.{event_of}
use Rattle.case_lines.specs.Spelled.{IsSpelled}
use Rattle.case_forms.specs.declared.version.Version.{Version}
use Rattle.line_fields.specs.declared.fault.TextFault.{TextFault}
use Rattle.line_fields.specs.declared.answers.AnswerWord.{AnswerWord}
use Rattle.line_fields.specs.AnswerFields.{answer_behind}
use Rattle.line_fields.specs.Reading.{◌>>=◌}
use Rattle.line_fields.specs.Word.{Rest}
use Rattle.trace_reader.specs.declared.calls.CallWord.{CallWord}
use Rattle.trace_reader.specs.CallFields.{call_behind}

-- the event that begins a call, with the fields after it
abbrev pub begun : Call × Rest → Result (Event × Rest) TextFault
begun call = Ok (events.CallBegin call.0, call.1)

-- the same, read from what follows the call's first word
abbrev pub begun_behind : Version → CallWord → Rest → Result (Event × Rest) TextFault
begun_behind v word r = call_behind v word r >>= begun

-- the event that ends a call
abbrev pub ended : Answer × Rest → Result (Event × Rest) TextFault
ended answer = Ok (events.CallEnd answer.0, answer.1)

-- the same, read from what follows the answer's first word
abbrev pub ended_behind : AnswerWord → Rest → Result (Event × Rest) TextFault
ended_behind word r = answer_behind word r >>= ended

-- the event is read, and no field is left after it
pub record IsWhole (event : Event) (read : Result (Event × Rest) TextFault) : Type 0 where
  pub after : Rest
  pub is : read ≡ Ok (event, after)
  pub last : after.words ≡ []

-- once the digits of its bytes are read, this event is read, and no field is left after it
abbrev pub IsRead : Result (Event × Rest) TextFault → KeptEvent → List ℕ → Type 0
IsRead read event digits = (bytes : List ℕ) → IsSpelled event digits bytes → IsWhole (event_of event bytes) read

-- the line that is read was appended, and has this moment
pub record IsAppended (read : Result Line TextFault) (moment : ℕ) (old new : List Line) : Type 0 where
  pub line : Line
  pub is : read ≡ Ok line
  pub timed : line.moment ≡ moment
  pub lines : new ≡ old ++ line ∷ []
