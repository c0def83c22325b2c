-- Reading an event.
use Rattle.std.specs.Prelude.{Result, Ok}
use Rattle.case_forms.specs.declared.calls.Host.{Host}
use Rattle.case_forms.specs.declared.trace.Wire.{Wire}
use Rattle.case_forms.specs.declared.trace.Event.{Event}
use Rattle.case_forms.specs.declared.trace.Event.TheVariants as events
use Rattle.case_forms.specs.declared.version.Version.{Version}
use Rattle.line_fields.specs.declared.fault.TextFault.{TextFault}
use Rattle.line_fields.specs.Word.{Rest}
use Rattle.line_fields.specs.Reading.{◌>>=◌, number_field}
use Rattle.line_fields.specs.Hosts.{host_field}
use Rattle.line_fields.specs.Choice.{kind_field}
use Rattle.line_fields.specs.Timers.{timer_name, timers_of}
use Rattle.line_fields.specs.AnswerFields.{answer_field}
use Rattle.trace_reader.specs.declared.events.Letter.{Letter}
use Rattle.trace_reader.specs.declared.events.Letter.TheVariants as letters
use Rattle.trace_reader.specs.CallFields.{call_field}
use Rattle.trace_reader.specs.Wires.{wire_field}
use Rattle.trace_reader.specs.Events.{letter_name, all_letters}

-- a host and a segment
unfoldable pub host_wire : Version → Rest → Result ((Host × Wire) × Rest) TextFault
host_wire v r = do
  host ← host_field v r
  wire ← wire_field host.1
  Ok ((host.0, wire.0), wire.1)

-- host, local port, remote port and timer
unfoldable pub expired_fields : Version → Rest → Result (Event × Rest) TextFault
expired_fields v r = do
  host ← host_field v r
  local ← number_field 1 65535 host.1
  remote ← number_field 1 65535 local.1
  timer ← kind_field timer_name (timers_of v) remote.1
  Ok (events.Expired host.0 local.0 remote.0 timer.0, timer.1)

-- what follows the letter
abbrev pub event_behind : Version → Letter → Rest → Result (Event × Rest) TextFault
event_behind v letters.B r = call_field v r >>= λ call. Ok (events.CallBegin call.0, call.1)
event_behind v letters.E r = answer_field r >>= λ answer. Ok (events.CallEnd answer.0, answer.1)
event_behind v letters.O r = host_wire v r >>= λ seen. Ok (events.Sent seen.0.0 seen.0.1, seen.1)
event_behind v letters.I r = host_wire v r >>= λ seen. Ok (events.Came seen.0.0 seen.0.1, seen.1)
event_behind v letters.T r = expired_fields v r

-- an event
unfoldable pub event_field : Version → Rest → Result (Event × Rest) TextFault
event_field v r = kind_field letter_name all_letters r >>= λ letter. event_behind v letter.0 letter.1
