-- Which traces can be printed and read again: values within the limits of the text, wherever their spans are.
use Rattle.std.specs.Prelude.{◌≤◌, ◌+◌, length, map}
use Rattle.std.specs.List.{AllByRecursion}
use Rattle.segment.specs.Layout.{IsSegment}
use Rattle.case_forms.specs.declared.calls.Call.{Call}
use Rattle.case_forms.specs.declared.calls.Call.TheVariants as calls
use Rattle.case_forms.specs.declared.trace.Event.{Event}
use Rattle.case_forms.specs.declared.trace.Event.TheVariants as events
use Rattle.case_forms.specs.declared.trace.Line.{Line}
use Rattle.case_forms.specs.declared.trace.Trace.{Trace}
use Rattle.case_forms.specs.declared.version.Version.{Version}
use Rattle.case_forms.specs.Traces.{first_event_line, IsTrace}
use Rattle.case_forms.specs.Limits.{Has16, Has32, HasAnswerBits, HasCallBits, IsTextAnswer, IsTextCall}
use Rattle.line_fields.specs.Hosts.{IsHost}
use Rattle.line_fields.specs.Lines.{whole_line}
use Rattle.line_fields.specs.Spelling.{IsBytePiece, joined, piece_texts}
use Rattle.line_fields.specs.Timers.{IsTimer}
use Rattle.trace_reader.specs.Headers.{IsHeader}
use Rattle.trace_reader.specs.Events.{event_pieces, IsEvent}
use Rattle.trace_reader.specs.EventLines.{line_pieces}

-- the bytes of a line are bytes, as those of each line in memory are
abbrev pub HasBytes : Line → Type 0
HasBytes l = AllByRecursion IsBytePiece (event_pieces l.event)

-- the numbers and the event of a line are within the limits of this version (only host 0 in a half case, the timer
-- `pto` from version 6 on), and its bytes are bytes
pub record IsPrintableLine (v : Version) (l : Line) : Type 0 where
  pub moment : l.moment ≤ 1000000000000000000
  pub thread : l.thread ≤ 4294967295
  pub event : IsEvent v l.event
  pub bytes : HasBytes l

-- header and lines are within their limits, the lines are numbered consecutively, no moment falls, and the last line
-- has a number that a text may have
pub record IsPrintableTrace (t : Trace) : Type 0 where
  pub header : IsHeader t.header
  pub recorded : IsTrace t
  pub few : first_event_line t.header + length t.lines ≤ 10000001
  pub lines : AllByRecursion (IsPrintableLine t.header.version) t.lines

-- what the types of an event's values ensure: numbers are in their ranges, and the bytes of a segment encode it
abbrev pub HasEventBits : Event → Type 0
HasEventBits (events.CallBegin call) = HasCallBits call
HasEventBits (events.CallEnd answer) = HasAnswerBits answer
HasEventBits (events.Sent host wire) = IsSegment wire.bytes wire.seg
HasEventBits (events.Came host wire) = IsSegment wire.bytes wire.seg
HasEventBits (events.Expired host local remote timer) = Has16 local × Has16 remote

-- what they ensure of a line
pub record IsInMemory (l : Line) : Type 0 where
  pub thread : Has32 l.thread
  pub event : HasEventBits l.event
  pub bytes : HasBytes l

-- the limits of an event that no type ensures: hosts and timers of this version, ports from 1 on, and how many bytes
abbrev pub IsCallOf : Version → Call → Type 0
IsCallOf v (calls.Listen host port backlog) = IsHost v host
IsCallOf v (calls.Connect host local remote) = IsHost v host
IsCallOf v call = Unit {0}

abbrev pub IsWithinEvent : Version → Event → Type 0
IsWithinEvent v (events.CallBegin call) = IsCallOf v call × IsTextCall call
IsWithinEvent v (events.CallEnd answer) = IsTextAnswer answer
IsWithinEvent v (events.Sent host wire) = IsHost v host
IsWithinEvent v (events.Came host wire) = IsHost v host
IsWithinEvent v (events.Expired host local remote timer) = IsHost v host × (1 ≤ local) × (1 ≤ remote) × IsTimer v timer

-- and of a line, and of a trace
pub record IsWithinLine (v : Version) (l : Line) : Type 0 where
  pub moment : l.moment ≤ 1000000000000000000
  pub event : IsWithinEvent v l.event

pub record IsWithinTrace (t : Trace) : Type 0 where
  pub header : IsHeader t.header
  pub recorded : IsTrace t
  pub few : first_event_line t.header + length t.lines ≤ 10000001
  pub lines : AllByRecursion (IsWithinLine t.header.version) t.lines

-- a line with the span that it has in the printed text
abbrev pub at_columns : Line → Line
at_columns l = record l { span = whole_line l.number (joined (piece_texts (line_pieces l))) }

-- a trace with the spans that its lines have in the printed text
abbrev pub with_columns : Trace → Trace
with_columns t = record t { lines = map at_columns t.lines }
