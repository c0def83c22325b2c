-- No rule asks where a line stands in its text.
use Rattle.std.proofs.Common.{◌≡◌, ℕ, ◌+◌, Bool, true, false, not, ◌&&◌, ◌||◌, List, [], ◌∷◌, ◌++◌, map, refl, sym, ap, ◌∙◌, Option, Some, None}
use Rattle.std.specs.Prelude.{nat_eq, nat_lt, ◌==◌, filter, is_none}
use Rattle.std.specs.List.{list_any, enumerate_from}
use Rattle.std.specs.Option.{option_map, option_map_or}
use Rattle.std.specs.Map.{lookup}
use Rattle.std.proofs.lemmas.Map.Made.{lookup-map_values}
use Rattle.std.proofs.lemmas.List.{length-map}
use Rattle.case_forms.specs.declared.trace.Header.{Header}
use Rattle.case_forms.specs.declared.trace.Line.{Line}
use Rattle.case_forms.specs.declared.trace.Span.{Span}
use Rattle.case_forms.specs.declared.trace.Trace.{Trace}
use Rattle.case_forms.specs.declared.named_line.NamedLine.{NamedLine}
use Rattle.case_forms.specs.declared.steps.Label.{Label}
use Rattle.case_forms.specs.declared.steps.Label.TheVariants.{L, D, M, T, K, R, F}
use Rattle.case_forms.specs.declared.steps.Step.{Step}
use Rattle.case_forms.specs.declared.steps.Witness.{Witness}
use Rattle.case_forms.specs.Traces.{first_event_line, numbered, line_at}
use Rattle.verdict.specs.declared.rule.Rule.{Rule}
use Rattle.verdict.specs.declared.rule.Rule.TheVariants.{LineRange, LineAgain, ThreadOrder, MomentFalls, MomentOff, Overdue}
use Rattle.verdict.specs.declared.report.Verdict.{Verdict}
use Rattle.verdict.specs.Rules.{first_broken}
use Rattle.interval_order.specs.Orders.{Take, Move, Order, order_of, is_placed, unplaced, last_moment, held_line, is_offered}
use Rattle.interval_order.specs.OrderRules.{extras_of, order_rules, has_earlier, is_overdue, has_overdue}
use Rattle.spec_network.specs.Hosts.{Stamped}
use Rattle.spec_tcp.specs.Machine.{tcp_shape}
use Rattle.spec_tcp.specs.Steps.{label_step}
use Rattle.spec_cases.specs.Cases.{Known, first_known}
use Rattle.checker.specs.Seen.{move_of, moves, act_of}
use Rattle.checker.specs.Verdicts.{act_rules, act_after, broken, next_world, late_after, verdict, verdict_from, verdict_left, refused_or}
use Rattle.checker.specs.Again.{placeless, without_spans}

-- a line under its number, without its place
abbrev bare : ℕ × Line → ℕ × Line
bare e = (e.0, placeless e.1)

numbered_bare : (n : ℕ) (lines : List Line) → enumerate_from n (map placeless lines) ≡ map bare (enumerate_from n lines)
numbered_bare n [] = refl
numbered_bare n (line ∷ lines) = ap (λ (es : List (ℕ × Line)). (n, placeless line) ∷ es) (numbered_bare (n + 1) lines)

filter_bare : (test : ℕ → Bool) (es : List (ℕ × Line)) → filter (λ e. test e.0) (map bare es) ≡ map bare (filter (λ e. test e.0) es)
filter_bare test [] = refl
filter_bare test (e ∷ es) = by_test (test e.0) refl (filter_bare test es)
  where
    by_test : (b : Bool) → test e.0 ≡ b → filter (λ x. test x.0) (map bare es) ≡ map bare (filter (λ x. test x.0) es)
        → filter (λ x. test x.0) (map bare (e ∷ es)) ≡ map bare (filter (λ x. test x.0) (e ∷ es))
    by_test true is rest = rw is (ap (λ (xs : List (ℕ × Line)). bare e ∷ xs) rest)
    by_test false is rest = rw is rest

any_bare : (test : ℕ × Line → Bool) → ((e : ℕ × Line) → test (bare e) ≡ test e) → (es : List (ℕ × Line)) → list_any test (map bare es) ≡ list_any test es
any_bare test same [] = refl
any_bare test same (e ∷ es) = rw (same e, any_bare test same es) refl

unplaced_bare : (header : Header) (lines : List Line) (done : List Move) → unplaced header (map placeless lines) done ≡ map bare (unplaced header lines done)
unplaced_bare header lines done =
    ap (λ (es : List (ℕ × Line)). filter (λ e. not (is_placed done e.0)) es) (numbered_bare (first_event_line header) lines)
    ∙ filter_bare (λ n. not (is_placed done n)) (numbered header lines)

abbrev bare_order : Order → Order
bare_order o = record o { held = map bare o.held }

order_bare : (header : Header) (lines : List Line) (done : List Move) → order_of header (map placeless lines) done ≡ bare_order (order_of header lines done)
order_bare header lines done = λ i. record {
  header = header;
  next = ap (λ (n : ℕ). first_event_line header + n) (length-map lines placeless) i;
  held = unplaced_bare header lines done i;
  last = last_moment done;
}

overdue_bare : (o : Order) (moment : ℕ) → has_overdue (bare_order o) moment ≡ has_overdue o moment
overdue_bare o moment = any_bare (is_overdue o moment) (λ e. refl) o.held

earlier_bare : (o : Order) (n thread : ℕ) → has_earlier (bare_order o) n thread ≡ has_earlier o n thread
earlier_bare o n thread = any_bare (λ e. nat_lt e.0 n && e.1.thread == thread) (λ e. refl) o.held

-- the rules of order, where the line that is taken was looked up
abbrev rules_with : Order → ℕ → Take → Option Line → List (Rule × Bool)
rules_with o moment t found =
    (LineRange, not (is_offered o t.number) || option_map_or (λ line. not (t.extras == extras_of o.header.version line.event)) found false)
    ∷ (LineAgain, is_offered o t.number && is_none found)
    ∷ (ThreadOrder, option_map_or (λ line. has_earlier o t.number line.thread) found false)
    ∷ (MomentFalls, nat_lt moment o.last)
    ∷ (MomentOff, option_map_or (λ line. nat_lt moment line.moment || nat_lt (line.moment + o.header.skew) moment) found false)
    ∷ (Overdue, has_overdue o moment)
    ∷ []

rules_bare : (o : Order) (moment : ℕ) (what : Option Take)
    → order_rules (bare_order o) (record { moment = moment; take = what })
    ≡ order_rules o (record { moment = moment; take = what })
rules_bare o moment None = rw (overdue_bare o moment) refl
rules_bare o moment (Some t) = ap (rules_with (bare_order o) moment t) (lookup-map_values placeless (nat_eq t.number) o.held) ∙ by_line (held_line o t.number)
  where
    by_line : (found : Option Line) → rules_with (bare_order o) moment t (option_map placeless found) ≡ rules_with o moment t found
    by_line None = rw (overdue_bare o moment) refl
    by_line (Some line) = rw (overdue_bare o moment, earlier_bare o t.number line.thread) refl

line_bare : (header : Header) (lines : List Line) (n : ℕ) → line_at header (map placeless lines) n ≡ option_map placeless (line_at header lines n)
line_bare header lines n =
    ap (λ (es : List (ℕ × Line)). lookup (nat_eq n) es) (numbered_bare (first_event_line header) lines)
    ∙ lookup-map_values placeless (nat_eq n) (numbered header lines)

-- what a step does in the machine
act_bare : (header : Header) (lines : List Line) (moment : ℕ) (label : Label NamedLine) (span : Span)
    → act_of header (map placeless lines) (record { moment = moment; label = label; span = span })
    ≡ act_of header lines (record { moment = moment; label = label; span = span })
act_bare header lines moment (L named) span = ap (line_act) (line_bare header lines named.number) ∙ by_line (line_at header lines named.number)
  where
    line_act : Option Line → Option (Stamped tcp_shape)
    line_act found = option_map (λ step. record { moment = moment; step = step }) (label_step (λ n. found) (L named))

    by_line : (found : Option Line) → line_act (option_map placeless found) ≡ line_act found
    by_line None = refl
    by_line (Some line) = refl
act_bare header lines moment (D t answer) span = refl
act_bare header lines moment (M host plan) span = refl
act_bare header lines moment (T host line choice) span = refl
act_bare header lines moment (K host line) span = refl
act_bare header lines moment (R host line) span = refl
act_bare header lines moment (F host recovery) span = refl

broken_bare : (header : Header) (lines : List Line) (earlier : List Step) (w : Known) (s : Step)
    → broken header (map placeless lines) earlier w s ≡ broken header lines earlier w s
broken_bare header lines earlier w s =
    ap (λ (o : Order). first_broken
    (order_rules o (move_of s) ++ option_map_or (act_rules header w) (act_of header (map placeless lines) s)
    [])) (order_bare header lines (moves earlier))
    ∙ ap (λ (rs : List (Rule × Bool)).
    first_broken (rs ++ option_map_or (act_rules header w) (act_of header (map placeless lines) s) []))
    (rules_bare (order_of header lines (moves earlier)) s.moment (move_of s).take)
    ∙ ap (λ (act : Option (Stamped tcp_shape)).
    first_broken (order_rules (order_of header lines (moves earlier)) (move_of s)
    ++ option_map_or (act_rules header w) act [])) (act_bare header lines s.moment s.label s.span)

left_bare : (left : List (ℕ × Line)) (late : Option (ℕ × Rule)) (steps : List Step)
    → verdict_left (map bare left) late steps ≡ verdict_left left late steps
left_bare [] late steps = refl
left_bare (e ∷ left) late steps = refl

verdict_bare : (header : Header) (lines : List Line) (earlier : List Step) (w : Known) (steps : List Step)
    → verdict_from header (map placeless lines) earlier w steps ≡ verdict_from header lines earlier w steps
verdict_bare header lines earlier w [] =
    ap (λ (left : List (ℕ × Line)). verdict_left left (late_after header earlier w) earlier) (unplaced_bare header lines (moves earlier))
    ∙ left_bare (unplaced header lines (moves earlier)) (late_after header earlier w) earlier
verdict_bare header lines earlier w (s ∷ steps) =
    ap (λ (r : Option Rule). refused_or r earlier s
    (verdict_from header (map placeless lines) (earlier ++ s ∷ [])
    (next_world header (map placeless lines) w s) steps)) (broken_bare header lines earlier w s)
    ∙ ap (λ (act : Option (Stamped tcp_shape)).
    refused_or (broken header lines earlier w s) earlier s
    (verdict_from header (map placeless lines) (earlier ++ s ∷ [])
    (option_map_or (act_after header w) act w) steps)) (act_bare header lines s.moment s.label s.span)
    ∙ ap (λ (v : Verdict). refused_or (broken header lines earlier w s) earlier s v)
    (verdict_bare header lines (earlier ++ s ∷ []) (next_world header lines w s) steps)

-- traces that are the same but for the places of their lines have one verdict
pub spans_apart : (t u : Trace) (w : Witness) → without_spans t ≡ without_spans u → verdict t w ≡ verdict u w
spans_apart t u w same =
    sym (verdict_bare t.header t.lines [] (first_known t.header) w.steps)
    ∙ ap (λ (v : Trace). verdict v w) same
    ∙ verdict_bare u.header u.lines [] (first_known u.header) w.steps
