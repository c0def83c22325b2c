-- The form of an event line, and its first fault.
use Rattle.std.specs.Prelude.{ℕ, nat_lt, if◌then◌else◌, List, Option, None, Some, Result, Ok, Err}
use Rattle.std.specs.Str.Parse.{digits_value}
use Rattle.hex.specs.Hex.{decode_of}
use Rattle.hex.specs.declared.error.FromHexError.{FromHexError}
use Rattle.segment.specs.Reading.{segment_of}
use Rattle.segment.specs.declared.fault.SegFault.{SegFault}
use Rattle.segment.specs.declared.fields.Segment.{Segment}
use Rattle.case_forms.specs.declared.version.Version.{Version}
use Rattle.line_fields.specs.AnswerForms.{answer_last}
use Rattle.line_fields.specs.Forms.{Want, Form, End, unless_empty, numeric, named, digits, then_form, choice}
use Rattle.line_fields.specs.Hosts.{greatest_host}
use Rattle.line_fields.specs.LineFaults.{IsFaultOf, IsFaultAmong}
use Rattle.line_fields.specs.Reading.{is_number}
use Rattle.line_fields.specs.Timers.{timer_name, timers_of}
use Rattle.line_fields.specs.declared.fault.FaultKind.{FaultKind}
use Rattle.line_fields.specs.declared.fault.FaultKind.TheVariants as kinds
use Rattle.line_fields.specs.declared.fault.TextFault.{TextFault}
use Rattle.trace_reader.specs.declared.calls.CallWord.{CallWord}
use Rattle.trace_reader.specs.declared.calls.CallWord.TheVariants as words
use Rattle.trace_reader.specs.declared.events.Letter.{Letter}
use Rattle.trace_reader.specs.declared.events.Letter.TheVariants as letters
use Rattle.trace_reader.specs.Calls.{call_name, all_call_words}
use Rattle.trace_reader.specs.Events.{letter_name, all_letters}
use Rattle.trace_reader.specs.EventLines.{Place, behind, IsEventLine}

-- a moment that is not below the one before
abbrev pub rising : ℕ → Want
rising before w =
    unless_empty w (if is_number 0 1000000000000000000 w.text (digits_value 10 w.text)
    then (if nat_lt (digits_value 10 w.text) before then Some kinds.MomentFalls else None) else Some kinds.Number)

-- hex of a segment
abbrev pub segment_kind : Result Segment SegFault → Option FaultKind
segment_kind (Ok seg) = None
segment_kind (Err fault) = Some (kinds.Segment fault)

abbrev pub wire_kind : Result (List ℕ) FromHexError → Option FaultKind
wire_kind (Ok bytes) = segment_kind (segment_of bytes)
wire_kind (Err bad) = Some kinds.Hex

abbrev pub segment_digits : Want
segment_digits w = unless_empty w (wire_kind (decode_of w.text))

-- a host, a port, and a socket number or a thread
abbrev pub host : Version → Form → Form
host v form = then_form (numeric 0 (greatest_host v)) form

abbrev pub port : Form → Form
port form = then_form (numeric 1 65535) form

abbrev pub word32 : Form → Form
word32 form = then_form (numeric 0 4294967295) form

-- what follows the first word of a call
abbrev pub call_form : Version → CallWord → Form
call_form v words.Listen = host v (port (then_form (numeric 0 65535) End))
call_form v words.Open = host v (port (port End))
call_form v words.Send = word32 (then_form (digits 65535) End)
call_form v words.Recv = word32 (port End)
call_form v words.Await = word32 End
call_form v words.Accept = word32 End
call_form v words.Shut = word32 End
call_form v words.Close = word32 End
call_form v words.Abort = word32 End
call_form v words.Status = word32 End

-- what follows the letter
abbrev pub event_form : Version → Letter → Form
event_form v letters.B = choice call_name all_call_words (call_form v)
event_form v letters.E = answer_last
event_form v letters.O = host v (then_form segment_digits End)
event_form v letters.I = host v (then_form segment_digits End)
event_form v letters.T = host v (port (port (then_form (named timer_name (timers_of v)) End)))

-- an event line after one of that moment
abbrev pub line_form : Version → ℕ → Form
line_form v before = then_form (rising before) (word32 (choice letter_name all_letters (event_form v)))

-- the first fault of an event line
abbrev pub IsLineFault : Version → Place → List ℕ → TextFault → Type 0
IsLineFault v place raw e = IsFaultOf (line_form v place.0) place.1 raw e

-- the first fault of event lines from a place on
abbrev pub IsEventsFault : Version → Place → List (List ℕ) → TextFault → Type 0
IsEventsFault v place raws e = IsFaultAmong (IsEventLine v) (IsLineFault v) behind place raws e
