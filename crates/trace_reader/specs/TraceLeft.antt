-- What a reader of a trace has left.
use Rattle.std.specs.Prelude.{◌≡◌, ◌≤◌, ◌<◌, ℕ, List, [], ◌∷◌, ◌++◌, Option, None, Some, Result, Ok}
use Rattle.std.specs.Option.{option_map}
use Rattle.case_forms.specs.declared.trace.Header.{Header}
use Rattle.case_forms.specs.declared.trace.Line.{Line}
use Rattle.case_forms.specs.declared.trace.Trace.{Trace}
use Rattle.case_forms.specs.declared.version.Version.{Version}
use Rattle.counted.specs.declared.ends.Counted.{Counted}
use Rattle.counted.specs.Counting.{failures_of}
use Rattle.line_fields.specs.declared.fault.TextFault.{TextFault}
use Rattle.line_fields.specs.declared.fault.SourceFault.{SourceFault}
use Rattle.line_fields.specs.Reading.{◌>>=◌}
use Rattle.line_fields.specs.Folding.{read_lines}
use Rattle.line_fields.specs.Left.{in_front, Yields}
use Rattle.case_lines.specs.Lines.{IsPlain}
use Rattle.trace_reader.specs.EventLines.{Place, behind, line_of}
use Rattle.trace_reader.specs.TraceText.{trace_in}
use Rattle.case_lines.specs.CaseLines.{IsAtEnd}
use Rattle.case_lines.specs.TextLeft.{lines_source, end_of, rows_left, witness_left}
use Rattle.case_lines.specs.declared.text_lines.TextEnd.{TextEnd}
use Rattle.trace_reader.specs.declared.stream.TraceReader.{TraceReader}

-- where it reads
abbrev pub source_of : {A : Type 0} → TraceReader A → Counted A
source_of r = lines_source r.text

-- how many reads failed
abbrev pub reader_failures : {A : Type 0} → TraceReader A → ℕ
reader_failures r = failures_of (source_of r)

-- the moment of the line before, and the number of the next line
abbrev pub place_of : {A : Type 0} → TraceReader A → Place
place_of r = (r.before, r.number)

-- the version of the text, once the header was read
abbrev pub version_of : {A : Type 0} → TraceReader A → Version
version_of r = r.version

-- the fault that was met, if any
abbrev pub fault_of : {A : Type 0} → TraceReader A → Option SourceFault
fault_of r = r.fault

-- where the text of the trace ends
abbrev pub end_of_text : {A : Type 0} → TraceReader A → TextEnd
end_of_text r = end_of r.text

-- the lines that were read before
abbrev pub kept_of : {A : Type 0} → TraceReader A → List Line
kept_of r = r.kept

-- nothing was read, or a fault was met
abbrev pub IsFresh : {A : Type 0} → TraceReader A → Type 0
IsFresh r = fault_of r ≡ None → (place_of r ≡ (0, 1)) × (kept_of r ≡ [])

-- a line at a place
pub record StandsAt (place : Place) (line : Line) : Type 0 where
  pub number : line.number ≡ place.1
  pub rises : place.0 ≤ line.moment
  pub few : place.1 ≤ 10000000
  pub plain : IsPlain line

-- lines from a place on
abbrev pub AreAt : Place → List Line → Type 0
AreAt place [] = Unit {0}
AreAt place (line ∷ lines) = StandsAt place line × AreAt (behind place line) lines

-- the place after them
abbrev pub place_behind : Place → List Line → Place
place_behind place [] = place
place_behind place (line ∷ lines) = place_behind (behind place line) lines

-- the header was read, or a fault was met
abbrev pub IsBegun : {A : Type 0} → TraceReader A → Type 0
IsBegun r = fault_of r ≡ None → (1 < r.number) × AreAt (place_of r) (kept_of r)

-- the text was read to its end
abbrev pub IsReadThrough : {A : Type 0} → TraceReader A → Type 0
IsReadThrough r = IsAtEnd (end_of_text r)

-- what the text of a new reader gives, if its bytes are known
abbrev pub trace_left : {A : Type 0} → (A → Option (List ℕ)) → TraceReader A → Option (Result Trace TextFault)
trace_left known r = option_map trace_in (rows_left known r.text)

-- the event lines of the text that are left, from a place on
abbrev pub text_left : {A : Type 0} → (A → Option (List ℕ)) → TraceReader A → Place
    → Option (Result (List Line) TextFault)
text_left known r place = option_map (read_lines (line_of (version_of r)) behind place) (rows_left known r.text)

-- the event lines that are left, or the first fault among them, if the bytes are known
abbrev pub lines_after : {A : Type 0} → (A → Option (List ℕ)) → TraceReader A → Place → List Line
    → Option (Result (List Line) TextFault)
lines_after known r place [] = text_left known r place
lines_after known r place (line ∷ lines) = option_map (in_front line) (lines_after known r (behind place line) lines)

abbrev pub lines_left : {A : Type 0} → (A → Option (List ℕ)) → TraceReader A → Option (Result (List Line) TextFault)
lines_left known r = lines_after known r (place_of r) (kept_of r)

-- the lines after the first line of the case's witness, if the bytes are known
abbrev pub rows_behind : {A : Type 0} → (A → Option (List ℕ)) → TraceReader A → Option (Option (List (List ℕ)))
rows_behind known r = witness_left known r.text

-- the trace of this header and of these lines, or their first fault
abbrev pub with_header : Header → Result (List Line) TextFault → Result Trace TextFault
with_header h lines = lines >>= λ ls. Ok (record { header = h; lines = ls })

-- the whole trace begins with this header, followed by these lines
abbrev pub Begins : Option (Result Trace TextFault) → Option (Result (List Line) TextFault) → Header → Type 0
Begins None lines h = Unit {0}
Begins (Some whole) None h = ⊥
Begins (Some whole) (Some lines) h = whole ≡ with_header h lines

-- the next line was appended to those that are kept
pub record KeepsLine (left rest : Option (Result (List Line) TextFault)) (place after : Place) (old new : List Line)
    : Type 0 where
  pub line : Line
  pub next : Yields left rest (Some line)
  pub stands : StandsAt place line
  pub moves : after ≡ behind place line
  pub kept : new ≡ old ++ line ∷ []
