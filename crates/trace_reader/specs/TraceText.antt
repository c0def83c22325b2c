-- Which text is the text of which trace.
use Rattle.std.specs.Prelude.{◌≡◌, ℕ, List, ◌++◌, Result, Ok}
use Rattle.std.specs.List.{concat}
use Rattle.bstr.specs.Text.{lines_of}
use Rattle.case_forms.specs.declared.trace.Header.{Header}
use Rattle.case_forms.specs.declared.trace.Line.{Line}
use Rattle.case_forms.specs.declared.trace.Trace.{Trace}
use Rattle.case_forms.specs.Traces.{first_event_line}
use Rattle.line_fields.specs.declared.fault.TextFault.{TextFault}
use Rattle.line_fields.specs.Reading.{◌>>=◌}
use Rattle.line_fields.specs.Folding.{read_lines, AreSpelled}
use Rattle.trace_reader.specs.Headers.{IsHeader, AreLines, header_words, header_of}
use Rattle.trace_reader.specs.EventLines.{Place, behind, IsEventLine, line_of}

-- the place of the first event line
abbrev pub first_place : Header → Place
first_place h = (0, first_event_line h)

-- the text consists of the spellings of the header's lines and of the event lines
pub record IsTraceText (t : Trace) (text : List ℕ) : Type 0 where
  pub headers : List (List ℕ)
  pub events : List (List ℕ)
  pub limits : IsHeader t.header
  pub are_headers : AreLines 1 (header_words t.header) headers
  pub are_events : AreSpelled (IsEventLine t.header.version) behind (first_place t.header) t.lines events
  pub joined : text ≡ concat (headers ++ events)

-- the event lines after a header
abbrev pub events_of : Header → List (List ℕ) → Result (List Line) TextFault
events_of h raws = read_lines (line_of h.version) behind (first_place h) raws

-- the trace of these lines, or their first fault
abbrev pub trace_in : List (List ℕ) → Result Trace TextFault
trace_in raws = do
  header ← header_of raws
  lines ← events_of header.0 header.1
  Ok (record { header = header.0; lines = lines })

-- the trace that a text is read as, or its first fault
unfoldable pub trace_of : List ℕ → Result Trace TextFault
trace_of text = trace_in (lines_of text)
