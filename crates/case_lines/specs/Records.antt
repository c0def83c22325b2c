-- The lines that records stand for, together with the bytes of all of them, one after another, and how many these are.
use Rattle.std.specs.Prelude.{◌≡◌, ◌≤◌, ℕ, ◌+◌, Bool, true, false, if◌then◌else◌, List, [], ◌∷◌}
use Rattle.std.specs.Prelude.{length, take, drop, sum, Result, Ok, Err}
use Rattle.segment.specs.declared.fault.SegFault.{SegFault}
use Rattle.segment.specs.declared.fields.Segment.{Segment}
use Rattle.segment.specs.Layout.{fields_of}
use Rattle.segment.specs.Reading.{segment_of}
use Rattle.case_forms.specs.declared.calls.Answer.{Answer}
use Rattle.case_forms.specs.declared.calls.Answer.TheVariants as answers
use Rattle.case_forms.specs.declared.calls.Call.{Call}
use Rattle.case_forms.specs.declared.calls.Call.TheVariants as calls
use Rattle.case_forms.specs.declared.trace.Event.{Event}
use Rattle.case_forms.specs.declared.trace.Event.TheVariants as events
use Rattle.case_forms.specs.declared.trace.Line.{Line}
use Rattle.case_forms.specs.Wires.{Seen}
use Rattle.case_lines.specs.declared.record.KeptEvent.{KeptEvent}
use Rattle.case_lines.specs.declared.record.KeptEvent.TheVariants as kept
use Rattle.case_lines.specs.declared.record.Record.{Record}

-- the segment that was read; if none was, any
abbrev pub read_segment : List ℕ → Result Segment SegFault → Segment
read_segment bytes (Ok segment) = segment
read_segment bytes (Err fault) = fields_of bytes []

-- the bytes with the segment that they encode
unfoldable pub seen_of : List ℕ → Seen
seen_of bytes = record { bytes = bytes; seg = read_segment bytes (segment_of bytes) }

-- the event that is kept, with its bytes
unfoldable pub event_of : KeptEvent → List ℕ → Event
event_of (kept.Listen host port backlog) bytes = events.CallBegin (calls.Listen host port backlog)
event_of (kept.Connect host local remote) bytes = events.CallBegin (calls.Connect host local remote)
event_of (kept.Await socket) bytes = events.CallBegin (calls.Await socket)
event_of (kept.Accept socket) bytes = events.CallBegin (calls.Accept socket)
event_of (kept.Send socket) bytes = events.CallBegin (calls.Send socket bytes)
event_of (kept.Recv most socket) bytes = events.CallBegin (calls.Recv socket most)
event_of (kept.Shut socket) bytes = events.CallBegin (calls.Shut socket)
event_of (kept.Close socket) bytes = events.CallBegin (calls.Close socket)
event_of (kept.Abort socket) bytes = events.CallBegin (calls.Abort socket)
event_of (kept.Status socket) bytes = events.CallBegin (calls.Status socket)
event_of kept.Done bytes = events.CallEnd answers.Done
event_of (kept.Given number) bytes = events.CallEnd (answers.Given number)
event_of kept.Bytes bytes = events.CallEnd (answers.Bytes bytes)
event_of kept.Again bytes = events.CallEnd answers.Again
event_of kept.Eof bytes = events.CallEnd answers.Eof
event_of kept.Closed bytes = events.CallEnd answers.Closed
event_of kept.NotConn bytes = events.CallEnd answers.NotConn
event_of kept.Refused bytes = events.CallEnd answers.Refused
event_of kept.Reset bytes = events.CallEnd answers.Reset
event_of kept.Timeout bytes = events.CallEnd answers.Timeout
event_of kept.InUse bytes = events.CallEnd answers.InUse
event_of kept.BadSocket bytes = events.CallEnd answers.BadSocket
event_of (kept.State state) bytes = events.CallEnd (answers.State state)
event_of (kept.Sent host) bytes = events.Sent host (seen_of bytes)
event_of (kept.Came host) bytes = events.Came host (seen_of bytes)
event_of (kept.Expired host local remote timer) bytes = events.Expired host local remote timer

-- whether an event of this kind has bytes, of which there may be none
abbrev pub has_bytes : KeptEvent → Bool
has_bytes (kept.Send socket) = true
has_bytes kept.Bytes = true
has_bytes (kept.Sent host) = true
has_bytes (kept.Came host) = true
has_bytes event = false

-- the bytes of a call
abbrev pub call_bytes : Call → List ℕ
call_bytes (calls.Send socket bytes) = bytes
call_bytes _ = []

-- the bytes of an answer
abbrev pub answer_bytes : Answer → List ℕ
answer_bytes (answers.Bytes bytes) = bytes
answer_bytes _ = []

-- the bytes of an event
abbrev pub bytes_of : Event → List ℕ
bytes_of (events.CallBegin call) = call_bytes call
bytes_of (events.CallEnd answer) = answer_bytes answer
bytes_of (events.Sent host wire) = wire.bytes
bytes_of (events.Came host wire) = wire.bytes
bytes_of (events.Expired host local remote timer) = []

-- the line of a record, with its number and its bytes
unfoldable pub line_of : ℕ → Record → List ℕ → Line
line_of n r bytes = record {
  number = n;
  moment = r.moment;
  thread = r.thread;
  event = event_of r.event bytes;
  span = record { line = n; start = 0; stop = r.stop };
}

-- how many lengths are kept for an event: one, if it has bytes
abbrev pub len_count : KeptEvent → ℕ
len_count event = if has_bytes event then 1 else 0

-- these lengths, for one with so many bytes
abbrev pub lens_of : KeptEvent → ℕ → List ℕ
lens_of event len = if has_bytes event then len ∷ [] else []

-- how many bytes the first of some lines has, if this is its event, and these are the lengths kept for all of them
abbrev pub first_len : KeptEvent → List ℕ → ℕ
first_len event lens = sum (take (len_count event) lens)

-- the lines of records, numbered from n on, with the lengths that are kept for them and their bytes, in order
unfoldable pub lines_of : ℕ → List Record → List ℕ → List ℕ → List Line
lines_of n [] lens bytes = []
lines_of n (r ∷ rs) lens bytes = line_of n r (take (first_len r.event lens) bytes)
    ∷ lines_of (n + 1) rs (drop (len_count r.event) lens) (drop (first_len r.event lens) bytes)

-- how many lengths are kept for records
unfoldable pub lens_count : List Record → ℕ
lens_count [] = 0
lens_count (r ∷ rs) = len_count r.event + lens_count rs

-- these are the lengths kept for the records, and as many bytes as they say; numbered from n on, no line has a number
-- above what texts can have
pub record AreWhole (n : ℕ) (records : List Record) (lens bytes : List ℕ) : Type 0 where
  pub all_lens : lens_count records ≡ length lens
  pub all_bytes : sum lens ≡ length bytes
  pub numbers : n + length records ≤ 10000001

-- so many records, lengths and bytes were taken, and the others belong together
pub record IsCounted (n : ℕ) (records : List Record) (lens bytes : List ℕ) (taken measured read : ℕ) : Type 0 where
  pub taken_within : taken ≤ length records
  pub measured_within : measured ≤ length lens
  pub read_within : read ≤ length bytes
  pub others : AreWhole n (drop taken records) (drop measured lens) (drop read bytes)

-- the lines that are left, of which the first has the number n, once so many records, lengths and bytes were taken
unfoldable pub lines_left : ℕ → List Record → List ℕ → List ℕ → ℕ → ℕ → ℕ → List Line
lines_left n records lens bytes taken measured read =
    lines_of n (drop taken records) (drop measured lens) (drop read bytes)
