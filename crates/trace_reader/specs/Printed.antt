-- The text that is printed for a trace.
use Rattle.std.specs.Prelude.{ℕ, List, ◌++◌, map}
use Rattle.std.specs.List.{concat}
use Rattle.case_forms.specs.declared.trace.Line.{Line}
use Rattle.case_forms.specs.declared.trace.Header.{Header}
use Rattle.case_forms.specs.declared.trace.Trace.{Trace}
use Rattle.line_fields.specs.Spelling.{printed, printed_line}
use Rattle.trace_reader.specs.Headers.{header_words}
use Rattle.trace_reader.specs.EventLines.{line_pieces}

-- the header's lines, each ended with LF
abbrev pub header_text : Header → List ℕ
header_text h = concat (map printed (header_words h))

-- the event lines, each ended with LF
abbrev pub lines_text : List Line → List ℕ
lines_text lines = concat (map (λ line. printed_line (line_pieces line)) lines)

-- the whole text
abbrev pub trace_text : Trace → List ℕ
trace_text t = header_text t.header ++ lines_text t.lines
