-- A reader of lines one by one, against the reading of all of them.
use Rattle.std.proofs.Common.{◌≡◌, ℕ, List, [], ◌∷◌, Option, None, Some, Result, Ok, Err, refl, sym, ap, subst, ◌∙◌, ◌++◌, Bor}
use Rattle.std.specs.Option.{option_map}
use Rattle.case_forms.specs.declared.trace.Header.{Header}
use Rattle.case_forms.specs.declared.trace.Span.{Span}
use Rattle.case_forms.specs.declared.trace.Line.{Line}
use Rattle.case_forms.specs.declared.trace.Trace.{Trace}
use Rattle.case_forms.specs.declared.version.Version.{Version}
use Rattle.line_fields.specs.declared.fault.TextFault.{TextFault}
use Rattle.line_fields.specs.declared.fault.SourceFault.TheVariants as reads
use Rattle.line_fields.specs.Word.{Rest}
use Rattle.line_fields.specs.Reading.{Fails}
use Rattle.line_fields.specs.Lines.{line_text, line_rest}
use Rattle.line_fields.specs.Rows.{rows_of, with_rest, TakesRow, HasNoRow, next_text, FailsAt, Reads}
use Rattle.line_fields.specs.Folding.{read_lines}
use Rattle.line_fields.specs.Left.{Yields, FailsLeft}
use Rattle.line_fields.proofs.Loop.{Fails-map, with_front, regroup}
use Rattle.line_fields.proofs.LeftLemmas.{left_in, yields_item, yields_none, fails_line, fails_text}
use Rattle.trace_reader.specs.Headers.{named_rest, value_line, first_version, header_of}
use Rattle.trace_reader.specs.EventLines.{Place, behind, line_of}
use Rattle.trace_reader.specs.TraceText.{events_of, trace_in, trace_of}
use Rattle.counted.specs.declared.ends.Counted.{Counted}
use Rattle.counted.specs.Counting.{left_of, inner_of, unread_of}
use Rattle.bstr.specs.Text.{lines_of}
use Rattle.case_lines.specs.CaseLines.{trace_rows}
use Rattle.case_lines.specs.declared.text_lines.TextEnd.{TextEnd}
use Rattle.case_lines.specs.declared.text_lines.TextEnd.TheVariants.{Source, Over}
use Rattle.case_lines.specs.TextLeft.{rows_left}
use Rattle.trace_reader.specs.TraceLeft.{with_header, Begins, StandsAt, lines_after, lines_left, text_left, place_of, kept_of, source_of, end_of_text}
use Rattle.trace_reader.specs.declared.stream.TraceReader.{TraceReader}
use Rattle.trace_reader.proofs.EventLineLaw.{reads_line}

module _ (version : Version) where
  begins : (place : Place) (raw : List ℕ) (e : TextFault) → line_text place.1 raw ≡ Err e → line_of version place raw ≡ Err e
  unfolding line_of line_rest
  begins place raw e is = rw is refl

  pub next_fails : (place : Place) (a : Option (List (List ℕ))) (e : TextFault) → FailsAt (next_text place.1) e a
      → FailsLeft e (left_in (line_of version) behind place a)
  next_fails place a e fails = fails_text (line_of version) behind place.1 place (begins place) a e fails

  pub line_fails : (place : Place) (a b : Option (List (List ℕ))) (raw : List ℕ) (e : TextFault) → TakesRow a b raw
      → Fails e.kind e (line_of version place raw) → FailsLeft e (left_in (line_of version) behind place a)
  line_fails place a b raw e took fails = fails_line (line_of version) behind place a b raw e took fails

  pub line_read : (place : Place) (a b : Option (List (List ℕ))) (raw : List ℕ) (line : Line) → TakesRow a b raw
      → line_of version place raw ≡ Ok line
      → Yields (left_in (line_of version) behind place a) (left_in (line_of version) behind (behind place line) b)
      (Some line)
  line_read place a b raw line took is = yields_item (line_of version) behind place a b raw line took is

  pub all_read : (place : Place) (a b : Option (List (List ℕ))) → HasNoRow a b
      → Yields (left_in (line_of version) behind place a) (left_in (line_of version) behind place b) None
  all_read place a b none = yields_none (line_of version) behind place a b none

  pub stands : (place : Place) (raw : List ℕ) (line : Line) → line_of version place raw ≡ Ok line → StandsAt place line
  stands place raw line is =
      let l = (reads_line version).takes place raw line is in
      let few = l.text.count in
      let short = l.text.short in
      record {
        number = l.number;
        rises = l.rises;
        few = few;
        plain = record {
          number = rw l.number few;
          at = ap (λ (s : Span). s.line) l.span ∙ sym l.number;
          start = ap (λ (s : Span). s.start) l.span;
          stop = rw l.span short;
        };
      }

-- ---- the header

pub version_begins : (raw : List ℕ) (e : TextFault) → line_text 1 raw ≡ Err e → first_version raw ≡ Err e
unfolding first_version
version_begins raw e is = rw is refl

pub value_begins : {A : Type 0} (number : ℕ) (name : List ℕ) (read : Rest → Result (A × Rest) TextFault) (raw : List ℕ)
    (e : TextFault) → line_text number raw ≡ Err e → value_line number name read raw ≡ Err e
unfolding value_line named_rest line_rest
value_begins number name read raw e is = rw is refl

pub header_begins : (a b : Option (List (List ℕ))) (h : Header) → Reads with_rest header_of a b (Ok h)
    → Begins (option_map trace_in a) (option_map (events_of h) b) h
header_begins None b h read = tt
header_begins (Some xs) None h read = absurd read
header_begins (Some xs) (Some ys) h read = rw read refl

pub header_fails : (a b : Option (List (List ℕ))) (e : TextFault)
    → Reads with_rest header_of a b (Err (reads.Text e)) → FailsLeft e (option_map trace_in a)
header_fails None b e read = tt
header_fails (Some xs) b e read = Fails-map e.kind e (header_of xs) (trace_in xs) (λ is. rw is refl) read

-- ---- a line that is left has a fault

pub whole_fails : (h : Header) (front : List Line) (left : Result (List Line) TextFault)
    (total : Result Trace TextFault) (e : TextFault) → total ≡ with_header h (with_front front left)
    → Fails e.kind e left → Fails e.kind e total
whole_fails h front left total e so_far fails =
    Fails-map e.kind e left total (λ is.
    so_far ∙ ap (λ (l : Result (List Line) TextFault). with_header h (with_front front l)) is) fails

-- ---- lines that were kept

-- if there is none, the text's lines are all that is left
pub none_kept : {A : Type 0} (known : A → Option (List ℕ)) (r : TraceReader A) → kept_of r ≡ []
    → lines_left known r ≡ text_left known r (place_of r)
none_kept known r is = ap (lines_after known r (place_of r)) is

-- so the text's next line is the next line
pub text_yields : {A : Type 0} (known : A → Option (List ℕ)) (a b : TraceReader A) (item : Option Line) → kept_of a ≡ [] → kept_of b ≡ []
    → Yields (text_left known a (place_of a)) (text_left known b (place_of b)) item → Yields (lines_left known a) (lines_left known b) item
text_yields known a b item none none_then yields =
    subst (λ (left : Option (Result (List Line) TextFault)). Yields left (lines_left known b) item) (sym (none_kept known a none))
    (subst (λ (left : Option (Result (List Line) TextFault)). Yields (text_left known a (place_of a)) left item)
    (sym (none_kept known b none_then)) yields)

-- and its first fault the first
pub text_fails_left : {A : Type 0} (known : A → Option (List ℕ)) (r : TraceReader A) (e : TextFault) → kept_of r ≡ []
    → FailsLeft e (text_left known r (place_of r)) → FailsLeft e (lines_left known r)
text_fails_left known r e none fails =
    subst (λ (left : Option (Result (List Line) TextFault)). FailsLeft e left) (sym (none_kept known r none)) fails

none_in : (a : Option (List (List ℕ))) (end : TextEnd) (raws : List (List ℕ)) → a ≡ Some raws → end ≡ Over
    → option_map (trace_rows end) a ≡ Some []
none_in a end raws known over = rw (known, over) refl

all_kept : {A : Type 0} (known : A → Option (List ℕ)) (r : TraceReader A) → rows_left known r.text ≡ Some []
    → (place : Place) (lines : List Line) → lines_after known r place lines ≡ Some (Ok lines)
unfolding read_lines
all_kept known r none place [] = rw none refl
all_kept known r none place (line ∷ lines) = rw (all_kept known r none (behind place line) lines) refl

-- if the text is at its end, they are all that is left
pub kept_alone : {A : Type 0} (known : A → Option (List ℕ)) (r : TraceReader A) (xs : List ℕ)
    → left_of known (source_of r) ≡ Some xs → end_of_text r ≡ Over → (place : Place) (lines : List Line)
    → lines_after known r place lines ≡ Some (Ok lines)
kept_alone known r xs left over place lines =
    all_kept known r (none_in (rows_of (left_of known (source_of r))) (end_of_text r) (lines_of xs) (ap rows_of left) over) place lines

-- ---- a whole text in memory

pub begun_in : (total : Result Trace TextFault) (lines : Option (Result (List Line) TextFault)) (h : Header)
    → Begins (Some total) lines h
    → (left : Result (List Line) TextFault) × (lines ≡ Some left) × (total ≡ with_header h (with_front [] left))
begun_in total None h begins = absurd begins
begun_in total (Some left) h begins = (left, refl, begins ∙ ap (with_header h) (alone left))
  where
    alone : (read : Result (List Line) TextFault) → read ≡ with_front [] read
    alone (Ok lines) = refl
    alone (Err e) = refl

pub more_in : (h : Header) (front : List Line) (line : Line) (a b : Option (Result (List Line) TextFault))
    (left : Result (List Line) TextFault) (total : Result Trace TextFault) → a ≡ Some left → Yields a b (Some line)
    → total ≡ with_header h (with_front front left)
    → (rest : Result (List Line) TextFault) × (b ≡ Some rest) × (total ≡ with_header h (with_front (front ++ line ∷ []) rest))
more_in h front line a b left total is yields so_far = by b (subst (λ (x : Option (Result (List Line) TextFault)). Yields x b (Some line)) is yields)
  where
    by : (b : Option (Result (List Line) TextFault)) → Yields (Some left) b (Some line)
        → (rest : Result (List Line) TextFault) × (b ≡ Some rest) × (total ≡ with_header h (with_front (front ++ line ∷ []) rest))
    by None yields = absurd yields
    by (Some rest) yields = (
      rest,
      refl,
      so_far ∙ ap (λ (l : Result (List Line) TextFault). with_header h (with_front front l)) yields
          ∙ ap (with_header h) (regroup front line rest),
    )

-- what is left of a text in memory
abbrev pub memory_left : Counted (Bor (List ℕ)) → List ℕ
memory_left s = unread_of s ++ (inner_of s).now

pub new_in_memory : (s : Counted (Bor (List ℕ))) (text : Bor (List ℕ)) → inner_of s ≡ text → unread_of s ≡ []
    → memory_left s ≡ text.now
new_in_memory s text inner unread = rw (unread, inner) refl

-- what a reader of a text in memory has left
pub left_in_memory : (r : TraceReader (Bor (List ℕ))) (xs : List ℕ) → memory_left (source_of r) ≡ xs
    → end_of_text r ≡ Source → trace_in (trace_rows (end_of_text r) (lines_of (memory_left (source_of r)))) ≡ trace_of xs
unfolding trace_of
left_in_memory r xs source end = rw (source, end) refl
