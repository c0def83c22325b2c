-- A trace is printed as a text that stands for it, with its spans, exactly where it is within the limits.
use Rattle.std.proofs.Common.{◌≡◌, ◌≤◌, ◌<◌, ◌+◌, ◌^◌, ℕ, Bool, true, false, Option, None, Some, List, [], ◌∷◌, ◌++◌}
use Rattle.std.proofs.Common.{length, take, get_or, suc, refl, sym, ap, subst, ◌∙◌, inl, arith}
use Rattle.std.specs.Prelude.{map, codes, IfSome, if◌then◌else◌}
use Rattle.std.specs.Fmt.{decimal}
use Rattle.std.specs.List.{AllByRecursion}
use Rattle.std.proofs.Math.Seq.{take-suc}
use Rattle.std.proofs.lemmas.List.Folds.{concat-append}
use Rattle.case_forms.specs.Limits.{HasAnswerBits, HasCallBits, IsTextAnswer, IsTextCall}
use Rattle.case_forms.specs.declared.calls.Answer.{Answer}
use Rattle.case_forms.specs.declared.calls.Answer.TheVariants as answers
use Rattle.case_forms.specs.declared.calls.Call.{Call}
use Rattle.case_forms.specs.declared.calls.Call.TheVariants as calls
use Rattle.case_forms.specs.declared.trace.Event.{Event}
use Rattle.case_forms.specs.declared.trace.Event.TheVariants as events
use Rattle.case_forms.specs.declared.trace.Header.{Header}
use Rattle.case_forms.specs.declared.trace.Line.{Line}
use Rattle.case_forms.specs.declared.trace.Trace.{Trace}
use Rattle.case_forms.specs.Traces.{IsRecorded}
use Rattle.line_fields.specs.Answers.{IsAnswer}
use Rattle.line_fields.specs.Lines.{IsLine}
use Rattle.line_fields.specs.Folding.{AreSpelled}
use Rattle.line_fields.specs.Spelling.{printed, printed_line, joined, piece_texts}
use Rattle.line_fields.proofs.Printable.{pieces_written, written_bytes, short_decimal}
use Rattle.case_forms.specs.declared.version.Version.{Version}
use Rattle.case_forms.specs.declared.version.Version.TheVariants as versions
use Rattle.case_forms.specs.declared.version.Initial.{Initial}
use Rattle.case_forms.specs.declared.version.Initial.TheVariants.{Rfc5681, Rfc6928}
use Rattle.case_forms.specs.declared.version.Judged.{Judged}
use Rattle.case_forms.specs.declared.version.Judged.TheVariants.{Full, Recovery, NoControl}
use Rattle.case_forms.specs.declared.version.Growth.{Growth}
use Rattle.case_forms.specs.declared.version.Growth.TheVariants.{OneSegment, TwoSegments, Any}
use Rattle.case_forms.specs.declared.version.Sender.{Sender}
use Rattle.case_forms.specs.declared.version.Sender.TheVariants.{Reno, Cubic}
use Rattle.case_forms.specs.Versions.{first_line_of, says_sender, says_slack}
use Rattle.case_lines.specs.FirstLine.{first_words}
use Rattle.trace_reader.specs.Headers.{IsHeader, AreLines, header_words, initial_words, initial_number, hosts_words, congestion_words}
use Rattle.trace_reader.specs.Headers.{slack_words, sender_words, growth_words, late, judged_words, late_words}
use Rattle.trace_reader.specs.declared.late_lines.LateLines.{LateLines}
use Rattle.trace_reader.specs.Calls.{IsCall}
use Rattle.trace_reader.specs.Events.{event_pieces, IsEvent}
use Rattle.trace_reader.specs.EventLines.{Place, behind, line_pieces, IsEventLine}
use Rattle.trace_reader.specs.TraceText.{first_place, IsTraceText}
use Rattle.trace_reader.specs.Printed.{trace_text}
use Rattle.trace_reader.specs.Printable.{HasEventBits, IsCallOf, IsInMemory, IsWithinEvent, IsWithinLine, IsWithinTrace}
use Rattle.trace_reader.specs.Printable.{IsPrintableLine, IsPrintableTrace, at_columns, with_columns}
use Rattle.trace_reader.proofs.ShortLines.{line_short}

-- ---- the header

fed : (number : ℕ) (ws : List (List ℕ)) → length (joined ws) ≤ 140000 → number ≤ 10000000 → IsLine number (joined ws) (printed ws)
fed number ws short count = record { ends = (10 ∷ [], inl refl, refl); short = short; count = count }

number_fed : (number : ℕ) (name : List ℕ) (n : ℕ)
    → length (joined (name ∷ decimal n ∷ [])) ≤ length name + 1 + length (decimal n) → length name ≤ 20 → n < 2 ^ 64
    → number ≤ 10000000
    → IsLine number (joined (name ∷ decimal n ∷ [])) (printed (name ∷ decimal n ∷ []))
number_fed number name n len short lt count = fed number (name ∷ decimal n ∷ []) (let own = short_decimal n lt in omega (arith, len, own)) count

first_printed : (v : Version) → IsLine 1 (joined (first_words v)) (printed (first_words v))
first_printed versions.One = fed 1 (first_words versions.One) (omega arith) (omega arith)
first_printed versions.Two = fed 1 (first_words versions.Two) (omega arith) (omega arith)
first_printed versions.Three = fed 1 (first_words versions.Three) (omega arith) (omega arith)
first_printed versions.Four = fed 1 (first_words versions.Four) (omega arith) (omega arith)
first_printed versions.FourHalf = fed 1 (first_words versions.FourHalf) (omega arith) (omega arith)
first_printed versions.Five = fed 1 (first_words versions.Five) (omega arith) (omega arith)
first_printed versions.FiveHalf = fed 1 (first_words versions.FiveHalf) (omega arith) (omega arith)
first_printed versions.Six = fed 1 (first_words versions.Six) (omega arith) (omega arith)
first_printed versions.SixHalf = fed 1 (first_words versions.SixHalf) (omega arith) (omega arith)

initial_small : (i : Initial) → initial_number i < 2 ^ 64
initial_small Rfc5681 = omega arith
initial_small Rfc6928 = omega arith

initial_printed : (i : Initial) → IsLine 7 (joined (initial_words i)) (printed (initial_words i))
initial_printed i = number_fed 7 (codes "initial") (initial_number i) (omega arith) (omega arith) (initial_small i) (omega arith)

congestion_printed : (j : Judged) → IsLine 9 (joined (congestion_words j)) (printed (congestion_words j))
congestion_printed Full = fed 9 (congestion_words Full) (omega arith) (omega arith)
congestion_printed Recovery = fed 9 (congestion_words Recovery) (omega arith) (omega arith)
congestion_printed NoControl = fed 9 (congestion_words NoControl) (omega arith) (omega arith)

hosts_printed : (n : ℕ) → n ≤ 2 → IsLine 8 (joined (hosts_words n)) (printed (hosts_words n))
hosts_printed n few = number_fed 8 (codes "hosts") n (omega arith) (omega arith) (omega arith) (omega arith)

slack_printed : (slack : Option ℕ) → IfSome slack (λ n. n ≤ 1000000000000000000) → IsLine 10 (joined (slack_words slack)) (printed (slack_words slack))
slack_printed None most = fed 10 (slack_words None) (omega arith) (omega arith)
slack_printed (Some n) most = number_fed 10 (codes "slack") n (omega arith) (omega arith) (omega arith) (omega arith)

sender_printed : (s : Sender) → IsLine 11 (joined (sender_words s)) (printed (sender_words s))
sender_printed Reno = fed 11 (sender_words Reno) (omega arith) (omega arith)
sender_printed Cubic = fed 11 (sender_words Cubic) (omega arith) (omega arith)

growth_printed : (g : Growth) → IsLine 12 (joined (growth_words g)) (printed (growth_words g))
growth_printed OneSegment = fed 12 (growth_words OneSegment) (omega arith) (omega arith)
growth_printed TwoSegments = fed 12 (growth_words TwoSegments) (omega arith) (omega arith)
growth_printed Any = fed 12 (growth_words Any) (omega arith) (omega arith)

abbrev control_of : Bool → Sender → Growth → List (List (List ℕ))
control_of says s g = if says then sender_words s ∷ growth_words g ∷ [] else []

control_printed : (says : Bool) (s : Sender) (g : Growth) → AreLines 11 (control_of says s g) (map printed (control_of says s g))
control_printed true s g = (sender_printed s, (growth_printed g, tt))
control_printed false s g = tt

abbrev last_of : Bool → Bool → Option ℕ → Sender → Growth → List (List (List ℕ))
last_of slack sender o s g = if slack then slack_words o ∷ control_of sender s g else []

last_printed : (slack sender : Bool) (o : Option ℕ) (s : Sender) (g : Growth) → IfSome o (λ n. n ≤ 1000000000000000000)
    → AreLines 10 (last_of slack sender o s g) (map printed (last_of slack sender o s g))
last_printed true sender o s g most = (slack_printed o most, control_printed sender s g)
last_printed false sender o s g most = tt

judged_printed : (n : ℕ) (l : LateLines) → n ≤ 2 → IfSome l.slack (λ n. n ≤ 1000000000000000000)
    → AreLines 7 (judged_words n l) (map printed (judged_words n l))
judged_printed n l few most = (
  initial_printed l.initial,
  (
    hosts_printed n few,
    (congestion_printed l.congestion, last_printed (says_slack l.version) (says_sender l.version) l.slack l.sender l.growth most),
  ),
)

late_printed : (v : Version) (i : Initial) (j : Judged) (o : Option ℕ) (s : Sender) (g : Growth) → IfSome o (λ n. n ≤ 1000000000000000000)
    → AreLines 7 (late_words (late v i j o s g)) (map printed (late_words (late v i j o s g)))
late_printed versions.One i j o s g most = tt
late_printed versions.Two i j o s g most = (initial_printed i, tt)
late_printed versions.Three i j o s g most =
    (initial_printed i, (number_fed 8 (codes "half") 0 (omega arith) (omega arith) (omega arith) (omega arith), tt))
late_printed versions.Four i j o s g most = judged_printed 2 (late versions.Four i j o s g) (omega arith) most
late_printed versions.FourHalf i j o s g most = judged_printed 1 (late versions.FourHalf i j o s g) (omega arith) most
late_printed versions.Five i j o s g most = judged_printed 2 (late versions.Five i j o s g) (omega arith) most
late_printed versions.FiveHalf i j o s g most = judged_printed 1 (late versions.FiveHalf i j o s g) (omega arith) most
late_printed versions.Six i j o s g most = judged_printed 2 (late versions.Six i j o s g) (omega arith) most
late_printed versions.SixHalf i j o s g most = judged_printed 1 (late versions.SixHalf i j o s g) (omega arith) most

header_printed : (h : Header) → IsHeader h → AreLines 1 (header_words h) (map printed (header_words h))
header_printed h limits =
    let skew = limits.skew in let msl = limits.msl in let grain = limits.grain in let minrto = limits.minrto in let extra = limits.extra in (
      first_printed h.version,
      (
        number_fed 2 (codes "skew") h.skew (omega arith) (omega arith) (omega arith) (omega arith),
        (
          number_fed 3 (codes "msl") h.msl (omega arith) (omega arith) (omega arith) (omega arith),
          (
            number_fed 4 (codes "grain") h.grain (omega arith) (omega arith) (omega arith) (omega arith),
            (
              number_fed 5 (codes "minrto") h.minrto (omega arith) (omega arith) (omega arith) (omega arith),
              (
                number_fed 6 (codes "extra") h.extra (omega arith) (omega arith) (omega arith) (omega arith),
                late_printed h.version h.initial h.congestion h.slack h.sender h.growth limits.slack,
              ),
            ),
          ),
        ),
      ),
    )

-- ---- the event lines

line_printed : (v : Version) (place : Place) (l : Line) → l.number ≡ place.1 → place.0 ≤ l.moment → place.1 ≤ 10000000
    → IsPrintableLine v l → IsEventLine v place (at_columns l) (printed_line (line_pieces l))
line_printed v place l number rises count p = record {
  texts = piece_texts (line_pieces l);
  written = (refl, (refl, pieces_written (event_pieces l.event) p.bytes));
  text = fed place.1 (piece_texts (line_pieces l)) (line_short v l p.moment p.thread p.event) count;
  rises = rises;
  moment = p.moment;
  thread = p.thread;
  event = p.event;
  number = number;
  span = ap (λ (n : ℕ). record { line = n; start = 0; stop = length (joined (piece_texts (line_pieces l))) }) number;
}

lines_printed : (v : Version) (place : Place) (lines : List Line) → IsRecorded place.1 place.0 lines
    → place.1 + length lines ≤ 10000001 → AllByRecursion (IsPrintableLine v) lines
    → AreSpelled (IsEventLine v) behind place (map at_columns lines) (map (λ l. printed_line (line_pieces l)) lines)
lines_printed v place [] recorded few all = tt
lines_printed v place (l ∷ ls) recorded few all =
    (line_printed v place l recorded.0 recorded.1 (omega arith) all.0, lines_printed v (l.moment, place.1 + 1) ls recorded.2 (omega arith) all.1)

-- ---- the whole text

again_same : (lines : List Line) → map (λ l. printed_line (line_pieces l)) (map at_columns lines) ≡ map (λ l. printed_line (line_pieces l)) lines
again_same [] = refl
again_same (l ∷ ls) = ap (λ (xs : List (List ℕ)). printed_line (line_pieces l) ∷ xs) (again_same ls)

pub is_printed : (t : Trace) → IsPrintableTrace t → IsTraceText (with_columns t) (trace_text t)
is_printed t p = record {
  headers = map printed (header_words t.header);
  events = map (λ l. printed_line (line_pieces l)) t.lines;
  limits = p.header;
  are_headers = header_printed t.header p.header;
  are_events = lines_printed t.header.version (first_place t.header) t.lines p.recorded p.few p.lines;
  joined = sym (concat-append (map printed (header_words t.header)) (map (λ l. printed_line (line_pieces l)) t.lines));
}

-- ---- and nothing else is

record AreWithin (v : Version) (place : Place) (ls : List Line) : Type 0 where
  recorded : IsRecorded place.1 place.0 ls
  few : place.1 + length ls ≤ 10000001
  lines : AllByRecursion (IsPrintableLine v) ls

within : (v : Version) (place : Place) (lines : List Line) (raws : List (List ℕ)) → place.1 ≤ 10000001
    → AreSpelled (IsEventLine v) behind place (map at_columns lines) raws → AreWithin v place lines
within v place [] raws le h = record { recorded = tt; few = omega arith; lines = tt }
within v place (l ∷ ls) [] le h = absurd h
within v place (l ∷ ls) (raw ∷ raws) le h =
    let own = h.0 in
    let count = own.text.count in
    let others = within v (l.moment, place.1 + 1) ls raws (omega arith) h.1 in
    let few = others.few in record {
      recorded = (own.number, own.rises, others.recorded);
      few = omega arith;
      lines = (
        record {
          moment = own.moment;
          thread = own.thread;
          event = own.event;
          bytes = (written_bytes (line_pieces l) own.texts own.written).1.1;
        },
        others.lines,
      );
    }

first_small : (v : Version) → first_line_of v ≤ 10000001
first_small versions.One = omega arith
first_small versions.Two = omega arith
first_small versions.Three = omega arith
first_small versions.Four = omega arith
first_small versions.FourHalf = omega arith
first_small versions.Five = omega arith
first_small versions.FiveHalf = omega arith
first_small versions.Six = omega arith
first_small versions.SixHalf = omega arith

pub is_printable : (t : Trace) (text : List ℕ) → IsTraceText (with_columns t) text → IsPrintableTrace t
is_printable t text s =
    let own = within t.header.version (first_place t.header) t.lines s.events (first_small t.header.version) s.are_events in
    record { header = s.limits; recorded = own.recorded; few = own.few; lines = own.lines }

-- ---- what holds of the elements so far, and of one more

both : {X : Type 0} (P : X → Type 0) (xs ys : List X) → AllByRecursion P xs → AllByRecursion P ys → AllByRecursion P (xs ++ ys)
both P [] ys p q = q
both P (x ∷ xs) ys p q = (p.0, both P xs ys p.1 q)

pub all_more : {X : Type 0} (P : X → Type 0) (xs : List X) (i : ℕ) (d : X) → i < length xs
    → AllByRecursion P (take i xs) → P (get_or xs i d) → AllByRecursion P (take (i + 1) xs)
all_more {X = X} P xs i d lt before here =
    let one : suc i ≡ i + 1 = omega arith in
    subst (λ (ys : List X). AllByRecursion P ys) (sym (take-suc xs i d lt) ∙ ap (λ (n : ℕ). take n xs) one)
    (both P (take i xs) (get_or xs i d ∷ []) before (here, tt))

-- ---- values in memory

call_within : (v : Version) (call : Call) → IsCallOf v call → IsTextCall call → HasCallBits call → IsCall v call
call_within v (calls.Listen host port backlog) host_is text bits = (host_is, text, bits.0, bits.1)
call_within v (calls.Connect host local remote) host_is text bits = (host_is, text.0, bits.0, text.1, bits.1)
call_within v (calls.Await socket) host_is text bits = bits
call_within v (calls.Accept socket) host_is text bits = bits
call_within v (calls.Send socket bytes) host_is text bits = (bits, text.0, text.1)
call_within v (calls.Recv socket max) host_is text bits = (bits.0, text, bits.1)
call_within v (calls.Shut socket) host_is text bits = bits
call_within v (calls.Close socket) host_is text bits = bits
call_within v (calls.Abort socket) host_is text bits = bits
call_within v (calls.Status socket) host_is text bits = bits

answer_within : (answer : Answer) → IsTextAnswer answer → HasAnswerBits answer → IsAnswer answer
answer_within (answers.Given count) text bits = bits
answer_within (answers.Bytes bytes) text bits = text
answer_within (answers.State state) text bits = tt
answer_within answers.Done text bits = tt
answer_within answers.Again text bits = tt
answer_within answers.Eof text bits = tt
answer_within answers.Closed text bits = tt
answer_within answers.NotConn text bits = tt
answer_within answers.Refused text bits = tt
answer_within answers.Reset text bits = tt
answer_within answers.Timeout text bits = tt
answer_within answers.InUse text bits = tt
answer_within answers.BadSocket text bits = tt

event_within : (v : Version) (event : Event) → IsWithinEvent v event → HasEventBits event → IsEvent v event
event_within v (events.CallBegin call) p b = call_within v call p.0 p.1 b
event_within v (events.CallEnd answer) p b = answer_within answer p b
event_within v (events.Sent host wire) p b = (p, b)
event_within v (events.Came host wire) p b = (p, b)
event_within v (events.Expired host local remote timer) p b = (p.0, p.1, b.0, p.2, b.1, p.3)

lines_print : (v : Version) (lines : List Line) → AllByRecursion (IsWithinLine v) lines
    → AllByRecursion IsInMemory lines → AllByRecursion (IsPrintableLine v) lines
lines_print v [] p b = tt
lines_print v (l ∷ ls) p b =
    let own = p.0 in
    let memory = b.0 in (
      record {
        moment = own.moment;
        thread = memory.thread;
        event = event_within v l.event own.event memory.event;
        bytes = memory.bytes;
      },
      lines_print v ls p.1 b.1,
    )

pub within_prints : (t : Trace) → IsWithinTrace t → AllByRecursion IsInMemory t.lines → IsPrintableTrace t
within_prints t p b = record { header = p.header; recorded = p.recorded; few = p.few; lines = lines_print t.header.version t.lines p.lines b }
