-- Event lines: a moment, a thread and an event.
use Rattle.std.specs.Prelude.{◌≡◌, ◌≤◌, ℕ, ◌+◌, nat_lt, if◌then◌else◌, List, ◌∷◌, Result, Ok, Err}
use Rattle.case_forms.specs.declared.trace.Event.{Event}
use Rattle.case_forms.specs.declared.trace.Line.{Line}
use Rattle.case_forms.specs.declared.version.Version.{Version}
use Rattle.line_fields.specs.declared.fault.FaultKind.TheVariants.{MomentFalls}
use Rattle.line_fields.specs.declared.fault.TextFault.{TextFault}
use Rattle.line_fields.specs.Word.{Word, Rest}
use Rattle.line_fields.specs.Reading.{◌>>=◌, fault_at, next_field, number_value, number_field, no_more}
use Rattle.line_fields.specs.Lines.{IsLine, whole_line, line_rest}
use Rattle.line_fields.specs.Spelling.{Piece, number, AreWritten, joined}
use Rattle.trace_reader.specs.Events.{event_pieces, IsEvent}
use Rattle.trace_reader.specs.EventFields.{event_field}

-- the parameters of a line: the moment of the line before, and the line's own number
abbrev pub Place : Type 0
Place = ℕ × ℕ

-- the place after a line
abbrev pub behind : Place → Line → Place
behind place line = (line.moment, place.1 + 1)

-- the fields of an event line
abbrev pub line_pieces : Line → List Piece
line_pieces line = number line.moment ∷ number line.thread ∷ event_pieces line.event

-- the bytes spell the line of a text of this version, at its place
pub record IsEventLine (v : Version) (place : Place) (line : Line) (raw : List ℕ) : Type 0 where
  pub texts : List (List ℕ)
  pub written : AreWritten (line_pieces line) texts
  pub text : IsLine place.1 (joined texts) raw
  pub rises : place.0 ≤ line.moment
  pub moment : line.moment ≤ 1000000000000000000
  pub thread : line.thread ≤ 4294967295
  pub event : IsEvent v line.event
  pub number : line.number ≡ place.1
  pub span : line.span ≡ whole_line place.1 (joined texts)

-- a moment that is not below the one before
abbrev pub moment_value : ℕ → Word → Result ℕ TextFault
moment_value before w =
    number_value 0 1000000000000000000 w >>= λ m. if nat_lt m before then Err (fault_at MomentFalls w) else Ok m

-- the next field, which is such a moment
abbrev pub moment_field : ℕ → Rest → Result (ℕ × Rest) TextFault
moment_field before r = do
  w ← next_field r
  m ← moment_value before w.0
  Ok (m, w.1)

-- moment, thread and event, and no more fields
abbrev pub event_fields : Version → ℕ → Rest → Result (ℕ × ℕ × Event) TextFault
event_fields v before r = do
  moment ← moment_field before r
  thread ← number_field 0 4294967295 moment.1
  event ← event_field v thread.1
  end ← no_more event.1
  Ok (moment.0, thread.0, event.0)

-- an event line of a text of this version, given with its end
unfoldable pub line_of : Version → Place → List ℕ → Result Line TextFault
line_of v place raw = do
  r ← line_rest place.1 raw
  f ← event_fields v place.0 r
  Ok (record {
    number = place.1;
    moment = f.0;
    thread = f.1;
    event = f.2;
    span = record { line = place.1; start = 0; stop = r.stop };
  })
