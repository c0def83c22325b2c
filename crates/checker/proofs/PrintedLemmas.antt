-- Texts that stand for a trace and for a witness of its version, one behind the other, are a case whose verdict is theirs; so are the texts that are printed of
-- them.
use Rattle.std.proofs.Common.{◌≡◌, ◌≤◌, ◌<◌, ◌+◌, ◌^◌, ℕ, true, false, Bool, ◌&&◌, List, [], ◌∷◌, ◌++◌, map, length}
use Rattle.std.proofs.Common.{get_or, refl, sym, ap, subst, ◌∙◌, arith, Option, Result, Ok}
use Rattle.std.specs.Fmt.{decimal}
use Rattle.std.specs.Str.{bytes_eq}
use Rattle.std.specs.Str.Parse.{digits_value}
use Rattle.std.specs.Int.{IsInRange}
use Rattle.std.specs.List.{AllByRecursion, concat}
use Rattle.std.proofs.lemmas.Bool.{and_parts, false_from_ne_true}
use Rattle.std.proofs.lemmas.Fmt.{decimal_nonempty, digits_decimal}
use Rattle.std.proofs.lemmas.Str.Parse.{IsNumeralModel, numerals_by_value, tells_by_index}
use Rattle.std.proofs.lemmas.Slice.Eq.{bytes_eq-Decides}
use Rattle.std.proofs.lemmas.List.{get_or_append_left}
use Rattle.bstr.specs.Text.{lines_of, without_terminator}
use Rattle.case_forms.specs.declared.trace.Header.{Header}
use Rattle.case_forms.specs.declared.trace.Line.{Line}
use Rattle.case_forms.specs.declared.trace.Trace.{Trace}
use Rattle.case_forms.specs.declared.named_line.NamedLine.{NamedLine}
use Rattle.case_forms.specs.declared.steps.Label.{Label}
use Rattle.case_forms.specs.declared.steps.Step.{Step}
use Rattle.case_forms.specs.declared.steps.Witness.{Witness}
use Rattle.case_forms.specs.declared.version.Version.{Version}
use Rattle.case_forms.specs.declared.version.Version.TheVariants as versions
use Rattle.case_forms.specs.declared.version.Initial.{Initial}
use Rattle.case_forms.specs.declared.version.Judged.{Judged}
use Rattle.case_forms.specs.declared.version.Growth.{Growth}
use Rattle.case_forms.specs.declared.version.Sender.{Sender}
use Rattle.case_forms.specs.Versions.{named_as}
use Rattle.line_fields.specs.Lines.{IsRaw, IsLine}
use Rattle.line_fields.specs.Folding.{AreSpelled}
use Rattle.line_fields.specs.Spelling.{IsClean, joined, spaced, number}
use Rattle.line_fields.proofs.Clean.{joined_no_return, joined_spaced}
use Rattle.line_fields.proofs.Endings.{ending_again}
use Rattle.line_fields.proofs.Loop.{spelled_raws}
use Rattle.line_fields.proofs.Texts.{lines_of-concat}
use Rattle.line_fields.proofs.Written.{first_plain, written_clean}
use Rattle.case_lines.specs.FirstLine.{first_words}
use Rattle.trace_reader.specs.Headers.{AreLines, slack_words, sender_words, growth_words, late, late_words, header_words}
use Rattle.trace_reader.specs.Events.{event_pieces}
use Rattle.trace_reader.specs.EventLines.{Place, behind, line_pieces, IsEventLine}
use Rattle.trace_reader.specs.TraceText.{first_place, IsTraceText}
use Rattle.trace_reader.specs.Printed.{trace_text}
use Rattle.trace_reader.specs.Printable as traces
use Rattle.trace_reader.proofs.EventLineLaw.{line_is_raw, line_clean}
use Rattle.trace_reader.proofs.HeaderLaw.{header_raw, header_clean}
use Rattle.trace_reader.proofs.TraceLaw.{trace_again, trace_named}
use Rattle.trace_reader.proofs.PrintableLaw as trace_law
use Rattle.witness.specs.FirstLine.{first_text, begins_witness}
use Rattle.witness.specs.WitnessText.{IsWitnessText, witness_for}
use Rattle.witness.specs.Printed.{witness_text, without_span}
use Rattle.witness.specs.Printable as witnesses
use Rattle.witness.proofs.TextLaw.{first_ends, text_raws, text_again}
use Rattle.witness.proofs.PrintableLaw as witness_law
use Rattle.verdict.specs.declared.report.Verdict.{Verdict}
use Rattle.verdict.specs.declared.report.Verdict.TheVariants.{Yes}
use Rattle.checker.specs.declared.case.CaseFault.{CaseFault}
use Rattle.checker.specs.Cases.{trace_part, witness_part, texts_result, case_of, case_result}
use Rattle.checker.specs.Verdicts.{verdict}
use Rattle.case_forms.specs.declared.calls.Answer.TheVariants.{Given}
use Rattle.case_forms.specs.declared.named_line.Extras.TheVariants.{Bare}
use Rattle.case_forms.specs.declared.steps.Label.TheVariants.{L, D}
use Rattle.checker.specs.Again.{nowhere, placeless, two_listen, effects_in_order, gives_five, gives_six}
use Rattle.checker.specs.Explains.{Explains, IsYes}
use Rattle.checker.proofs.CaseLemmas.{AreTraceLines, place_found, parts_at, concat_both}
use Rattle.checker.proofs.SpanLemmas.{spans_apart}
use Rattle.checker.proofs.StepSpans.{steps_apart}
use Rattle.checker.proofs.YesLemmas.{explains_yes}

-- ---- no line of a trace begins a witness

digits : IsNumeralModel (λ ds. (i : ℕ) → i < length ds → IsInRange 48 57 (get_or ds i 0)) (digits_value 10)
digits = numerals_by_value (λ ds. (i : ℕ) → i < length ds → IsInRange 48 57 (get_or ds i 0)) tells_by_index

-- the first field has a first letter, which is not that of the word `witness`
abbrev IsOther : List (List ℕ) → Type 0
IsOther [] = ⊥
IsOther (w ∷ ws) = (0 < length w) × (get_or w 0 0 ≡ 119 → ⊥)

first_letter : (v : Version) → get_or (first_text v) 0 0 ≡ 119
first_letter versions.One = refl
first_letter versions.Two = refl
first_letter versions.Three = refl
first_letter versions.Four = refl
first_letter versions.FourHalf = refl
first_letter versions.Five = refl
first_letter versions.FiveHalf = refl
first_letter versions.Six = refl
first_letter versions.SixHalf = refl

not_first : (v : Version) (n : ℕ) (ws : List (List ℕ)) (raw : List ℕ) → AllByRecursion IsClean ws → IsOther ws
    → IsLine n (joined ws) raw → begins_witness v raw ≡ false
not_first v n [] raw clean other line = absurd other
not_first v n (w ∷ ws) raw clean other line =
    let end = ending_again raw (joined (w ∷ ws)) (joined_no_return (w ∷ ws) clean) line.ends in
    false_from_ne_true (begins_witness v raw) (λ h.
    let same : joined (w ∷ ws) ≡ first_text v = sym end.0 ∙ (bytes_eq-Decides (without_terminator raw) (first_text v)).0 (and_parts _ _ h).1 in
    other.1 (sym (get_or_append_left w (spaced ws) 0 0 other.0) ∙ ap (λ (x : List ℕ). get_or x 0 0) (sym (joined_spaced w ws) ∙ same) ∙ first_letter v))

other_number : (n : ℕ) (ws : List (List ℕ)) → n < 2 ^ 64 → IsOther (decimal n ∷ ws)
other_number n ws lt = let some = decimal_nonempty n lt in (some, λ e. let range = digits_decimal digits n lt 0 some in omega arith)

version_other : (v : Version) → IsOther (first_words v)
version_other versions.One = (omega arith, λ e. omega arith)
version_other versions.Two = (omega arith, λ e. omega arith)
version_other versions.Three = (omega arith, λ e. omega arith)
version_other versions.Four = (omega arith, λ e. omega arith)
version_other versions.FourHalf = (omega arith, λ e. omega arith)
version_other versions.Five = (omega arith, λ e. omega arith)
version_other versions.FiveHalf = (omega arith, λ e. omega arith)
version_other versions.Six = (omega arith, λ e. omega arith)
version_other versions.SixHalf = (omega arith, λ e. omega arith)

slack_other : (slack : Option ℕ) → IsOther (slack_words slack)
slack_other slack = (omega arith, λ e. omega arith)

sender_other : (s : Sender) → IsOther (sender_words s)
sender_other s = (omega arith, λ e. omega arith)

growth_other : (g : Growth) → IsOther (growth_words g)
growth_other g = (omega arith, λ e. omega arith)

late_others : (v : Version) (i : Initial) (j : Judged) (o : Option ℕ) (s : Sender) (g : Growth) → AllByRecursion IsOther (late_words (late v i j o s g))
late_others versions.One i j o s g = tt
late_others versions.Two i j o s g = ((omega arith, λ e. omega arith), tt)
late_others versions.Three i j o s g = ((omega arith, λ e. omega arith), ((omega arith, λ e. omega arith), tt))
late_others versions.Four i j o s g = ((omega arith, λ e. omega arith), ((omega arith, λ e. omega arith), ((omega arith, λ e. omega arith), tt)))
late_others versions.FourHalf i j o s g = ((omega arith, λ e. omega arith), ((omega arith, λ e. omega arith), ((omega arith, λ e. omega arith), tt)))
late_others versions.Five i j o s g =
    ((omega arith, λ e. omega arith), ((omega arith, λ e. omega arith), ((omega arith, λ e. omega arith), (slack_other o, tt))))
late_others versions.FiveHalf i j o s g =
    ((omega arith, λ e. omega arith), ((omega arith, λ e. omega arith), ((omega arith, λ e. omega arith), (slack_other o, tt))))
late_others versions.Six i j o s g = (
  (omega arith, λ e. omega arith),
  (
    (omega arith, λ e. omega arith),
    ((omega arith, λ e. omega arith), (slack_other o, (sender_other s, (growth_other g, tt)))),
  ),
)
late_others versions.SixHalf i j o s g = (
  (omega arith, λ e. omega arith),
  (
    (omega arith, λ e. omega arith),
    ((omega arith, λ e. omega arith), (slack_other o, (sender_other s, (growth_other g, tt)))),
  ),
)

header_others : (h : Header) → AllByRecursion IsOther (header_words h)
header_others h = (
  version_other h.version,
  (
    (omega arith, λ e. omega arith),
    (
      (omega arith, λ e. omega arith),
      (
        (omega arith, λ e. omega arith),
        (
          (omega arith, λ e. omega arith),
          ((omega arith, λ e. omega arith), late_others h.version h.initial h.congestion h.slack h.sender h.growth),
        ),
      ),
    ),
  ),
)

words_not : (v : Version) (number : ℕ) (lines : List (List (List ℕ))) (raws : List (List ℕ))
    → AllByRecursion (AllByRecursion IsClean) lines → AllByRecursion IsOther lines → AreLines number lines raws
    → AreTraceLines v raws
words_not v number [] [] clean other h = tt
words_not v number [] (raw ∷ raws) clean other h = absurd h
words_not v number (ws ∷ lines) [] clean other h = absurd h
words_not v number (ws ∷ lines) (raw ∷ raws) clean other h =
    (not_first v number ws raw clean.0 other.0 h.0, words_not v (number + 1) lines raws clean.1 other.1 h.1)

event_not : (u v : Version) (place : Place) (l : Line) (raw : List ℕ) → IsEventLine u place l raw → begins_witness v raw ≡ false
event_not u v place l raw t =
    let w = first_plain (decimal l.moment) (number l.thread ∷ event_pieces l.event) t.texts t.written in
    let moment = t.moment in
    not_first v place.1 t.texts raw
    (written_clean (line_pieces l) t.texts (line_clean u l t.moment t.thread t.event) t.written)
    (subst IsOther (sym w.1) (other_number l.moment w.0 (omega arith))) t.text

events_not : (u v : Version) (place : Place) (lines : List Line) (raws : List (List ℕ))
    → AreSpelled (IsEventLine u) behind place lines raws → AreTraceLines v raws
events_not u v place [] [] h = tt
events_not u v place [] (raw ∷ raws) h = absurd h
events_not u v place (l ∷ ls) [] h = absurd h
events_not u v place (l ∷ ls) (raw ∷ raws) h = (event_not u v place l raw h.0, events_not u v (l.moment, place.1 + 1) ls raws h.1)

both : {X : Type 0} (P : X → Type 0) (xs ys : List X) → AllByRecursion P xs → AllByRecursion P ys → AllByRecursion P (xs ++ ys)
both P [] ys p q = q
both P (x ∷ xs) ys p q = (p.0, both P xs ys p.1 q)

-- ---- a case of two texts

begins : (v : Version) (raw : List ℕ) → IsLine 1 (first_text v) raw → begins_witness v raw ≡ true
begins v raw line =
    let end = ending_again raw (first_text v) (first_ends v) line.ends in
    ap (λ (b : Bool). b && bytes_eq (without_terminator raw) (first_text v)) end.1
    ∙ ap (λ (x : List ℕ). bytes_eq x (first_text v)) end.0 ∙ (bytes_eq-Decides (first_text v) (first_text v)).1 refl

abbrev answered : Verdict → Result Verdict CaseFault
answered v = Ok v

-- the lines of a trace's text, of which none begins a witness
trace_lines : (v : Version) (t : Trace) (a : List ℕ) (s : IsTraceText t a) → AreTraceLines v (s.headers ++ s.events)
trace_lines v t a s =
    both (λ raw. begins_witness v raw ≡ false) s.headers s.events
    (words_not v 1 (header_words t.header) s.headers (header_clean t.header s.limits)
    (header_others t.header) s.are_headers)
    (events_not t.header.version v (first_place t.header) t.lines s.events s.are_events)

trace_raws : (t : Trace) (a : List ℕ) (s : IsTraceText t a) → AllByRecursion IsRaw (s.headers ++ s.events)
trace_raws t a s =
    both IsRaw s.headers s.events (header_raw t.header s.headers s.limits s.are_headers)
    (spelled_raws behind (IsEventLine t.header.version) (line_is_raw t.header.version)
    (first_place t.header) t.lines s.events s.are_events)

-- a case is cut between the two texts
case_parts : (t : Trace) (w : Witness) (a b : List ℕ) → IsTraceText t a → IsWitnessText w b
    → (trace_part w.version (a ++ b) ≡ a) × (witness_part w.version (a ++ b) ≡ b)
case_parts t w a b s q =
    let front : List (List ℕ) = s.headers ++ s.events in
    let raws = both IsRaw (s.headers ++ s.events) (q.first ∷ q.raws) (trace_raws t a s) (text_raws w b q) in
    let whole : a ++ b ≡ concat ((s.headers ++ s.events) ++ q.first ∷ q.raws) =
    ap (λ (x : List ℕ). x ++ b) s.joined ∙ ap (λ (x : List ℕ). concat (s.headers ++ s.events) ++ x) q.parts
    ∙ sym (concat_both (s.headers ++ s.events) (q.first ∷ q.raws)) in
    let lines : lines_of (a ++ b) ≡ (s.headers ++ s.events) ++ q.first ∷ q.raws =
    ap lines_of whole ∙ lines_of-concat ((s.headers ++ s.events) ++ q.first ∷ q.raws) raws in
    let place = place_found w.version (s.headers ++ s.events) q.first q.raws (trace_lines w.version t a s) (begins w.version q.first q.begins) in
    let parts = parts_at w.version (a ++ b) (s.headers ++ s.events) (q.first ∷ q.raws) (sym lines) place in
    (parts.0 ∙ sym s.joined, parts.1 ∙ sym q.parts)

-- both of version 4 are cut alike, as are both of version 5 and of version 6
cut_named : (v : Version) (text : List ℕ) → (trace_part (named_as v) text ≡ trace_part v text) × (witness_part (named_as v) text ≡ witness_part v text)
cut_named versions.One text = (refl, refl)
cut_named versions.Two text = (refl, refl)
cut_named versions.Three text = (refl, refl)
cut_named versions.Four text = (refl, refl)
cut_named versions.FourHalf text = (refl, refl)
cut_named versions.Five text = (refl, refl)
cut_named versions.FiveHalf text = (refl, refl)
cut_named versions.Six text = (refl, refl)
cut_named versions.SixHalf text = (refl, refl)

pub case_is : (t : Trace) (w : Witness) (a b : List ℕ) → t.header.version ≡ w.version → IsTraceText t a
    → IsWitnessText w b → case_result (a ++ b) ≡ Ok (verdict t w)
unfolding case_result
case_is t w a b version s q =
    let parts = case_parts t w a b s q in
    let cut = cut_named w.version (a ++ b) in
    let steps : witness_for t.header.version b ≡ Ok w = ap (λ (v : Version). witness_for v b) version ∙ text_again w b q in
    ap (λ (v : Version). case_of v (a ++ b)) (trace_named t a b s ∙ ap named_as version)
    ∙ ap (λ (x : List ℕ). texts_result x (witness_part (named_as w.version) (a ++ b))) (cut.0 ∙ parts.0)
    ∙ ap (λ (x : List ℕ). texts_result a x) (cut.1 ∙ parts.1)
    ∙ rw (trace_again a t s, steps) refl

-- ---- a case that is printed

lines_apart : (lines : List Line) → map placeless (map traces.at_columns lines) ≡ map placeless lines
lines_apart [] = refl
lines_apart (l ∷ ls) = ap (λ (xs : List Line). placeless l ∷ xs) (lines_apart ls)

said_same : (number : ℕ) (steps : List Step) → map without_span (witnesses.steps_at number steps) ≡ map without_span steps
said_same number [] = refl
said_same number (s ∷ steps) = ap (λ (said : List (ℕ × Label NamedLine)). without_span s ∷ said) (said_same (number + 1) steps)

same_verdict : (t : Trace) (w : Witness) → verdict (traces.with_columns t) (witnesses.with_columns w) ≡ verdict t w
same_verdict t w =
    spans_apart (traces.with_columns t) t (witnesses.with_columns w) (ap (λ (ls : List Line). record { header = t.header; lines = ls }) (lines_apart t.lines))
    ∙ steps_apart t (witnesses.with_columns w) w (said_same 2 w.steps)

pub printed_case_is : (t : Trace) (w : Witness) → t.header.version ≡ w.version → traces.IsPrintableTrace t
    → witnesses.IsPrintableWitness w → case_result (trace_text t ++ witness_text w) ≡ Ok (verdict t w)
printed_case_is t w version p q =
    case_is (traces.with_columns t) (witnesses.with_columns w) (trace_text t) (witness_text w) version (trace_law.is_printed t p) (witness_law.is_printed w q)
    ∙ ap answered (same_verdict t w)

pub printed_case_yes : (t : Trace) (w : Witness) → t.header.version ≡ w.version → traces.IsPrintableTrace t
    → witnesses.IsPrintableWitness w → Explains t w
    → (v : Verdict) × (case_result (trace_text t ++ witness_text w) ≡ Ok v) × IsYes v
printed_case_yes t w version p q e = (verdict t w, printed_case_is t w version p q, explains_yes t w e)

-- the same of values in memory, which are as their types say
pub case_in_memory : (t : Trace) (w : Witness) (text : List ℕ) → text ≡ trace_text t ++ witness_text w
    → AllByRecursion traces.IsInMemory t.lines → AllByRecursion witnesses.IsInMemory w.steps
    → t.header.version ≡ w.version → traces.IsWithinTrace t → witnesses.IsWithinWitness w
    → witnesses.TellShifts w.version w.steps → case_result text ≡ Ok (verdict t w)
case_in_memory t w text is b d version p q s =
    ap case_result is ∙ printed_case_is t w version (trace_law.within_prints t p b) (witness_law.within_prints w q s d)

pub yes_in_memory : (t : Trace) (w : Witness) (text : List ℕ) → text ≡ trace_text t ++ witness_text w
    → AllByRecursion traces.IsInMemory t.lines → AllByRecursion witnesses.IsInMemory w.steps
    → t.header.version ≡ w.version → traces.IsWithinTrace t → witnesses.IsWithinWitness w
    → witnesses.TellShifts w.version w.steps → Explains t w → (v : Verdict) × (case_result text ≡ Ok v) × IsYes v
yes_in_memory t w text is b d version p q s e = (verdict t w, case_in_memory t w text is b d version p q s, explains_yes t w e)

-- ---- a case that is printed, computed

two_listen_prints : traces.IsPrintableTrace two_listen
two_listen_prints = record {
  header =
      record {
        skew = omega arith;
        msl_least = omega arith;
        msl = omega arith;
        grain = omega arith;
        minrto = omega arith;
        extra = omega arith;
        initial = λ e. refl;
        congestion = λ e. refl;
        judged = refl;
        slack = tt;
        no_slack = λ e. refl;
        no_sender = λ e. refl;
        no_growth = λ e. refl;
      };
  recorded = (refl, omega arith, (refl, omega arith, (refl, omega arith, (refl, omega arith, tt))));
  few = omega arith;
  lines = (
    record {
      moment = omega arith;
      thread = omega arith;
      event = (omega arith, omega arith, omega arith, omega arith);
      bytes = (tt, (tt, (tt, (tt, (tt, tt)))));
    },
    (
      record {
        moment = omega arith;
        thread = omega arith;
        event = (omega arith, omega arith, omega arith, omega arith);
        bytes = (tt, (tt, (tt, (tt, (tt, tt)))));
      },
      (
        record { moment = omega arith; thread = omega arith; event = omega arith; bytes = (tt, (tt, (tt, tt))) },
        (record { moment = omega arith; thread = omega arith; event = omega arith; bytes = (tt, (tt, (tt, tt))) }, tt),
      ),
    ),
  );
}

taken : (moment n : ℕ) → moment ≤ 1000 → n ≤ 1000
    → witnesses.IsPrintableStep versions.One
    (record { moment = moment; label = L (record { number = n; extras = Bare }); span = nowhere })
taken moment n low small = record { moment = omega arith; label = (omega arith, tt); bytes = (tt, (tt, tt)) }

given : (thread socket : ℕ) → thread ≤ 1000 → socket ≤ 1000
    → witnesses.IsPrintableStep versions.One (record { moment = 15; label = D thread (Given socket); span = nowhere })
given thread socket low small = record { moment = omega arith; label = (omega arith, omega arith); bytes = (tt, (tt, (tt, (tt, tt)))) }

two_orders_print : witnesses.IsPrintableWitness (effects_in_order gives_five gives_six)
two_orders_print = record {
  few = omega arith;
  steps = (
    taken 10 7 (omega arith) (omega arith),
    (
      taken 10 8 (omega arith) (omega arith),
      (
        given 1 5 (omega arith) (omega arith),
        (
          given 2 6 (omega arith) (omega arith),
          (taken 20 9 (omega arith) (omega arith), (taken 20 10 (omega arith) (omega arith), tt)),
        ),
      ),
    ),
  );
}

two_listen_is_yes : case_result (trace_text two_listen ++ witness_text (effects_in_order gives_five gives_six)) ≡ Ok (Yes 4 2)
two_listen_is_yes = printed_case_is two_listen (effects_in_order gives_five gives_six) refl two_listen_prints two_orders_print
