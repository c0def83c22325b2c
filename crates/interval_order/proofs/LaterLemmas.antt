-- Lines that come behind those that were offered: they matter to no step before their moment that doesn't take them.
use Rattle.std.proofs.Common.{◌≡◌, ℕ, ◌+◌, ◌<◌, ◌≤◌, suc, if◌then◌else◌, Bool, true, false, cond, not, ◌&&◌, ◌||◌, ◌==◌}
use Rattle.std.proofs.Common.{nat_lt, nat_le, List, [], ◌∷◌, ◌++◌, length, refl, ap, sym, ◌∙◌, arith, Option, Some}
use Rattle.std.proofs.Common.{None, length-append}
use Rattle.std.proofs.lemmas.Bool.Decides.{nat_tests}
use Rattle.std.proofs.lemmas.List.Folds.{list_any-append}
use Rattle.std.proofs.lemmas.List.Elements.{filter-append}
use Rattle.std.specs.Prelude.{nat_eq, filter, is_none, is_some, count_by, All}
use Rattle.std.specs.Option.{option_and_then}
use Rattle.std.specs.Map.{keys_of}
use Rattle.std.proofs.lemmas.List.Sums.{sum_by-cons}
use Rattle.std.proofs.lemmas.List.Elements.{recursion_from_All, All-from_recursion}
use Rattle.interval_order.specs.declared.pending_lines.Waiting.{Waiting}
use Rattle.interval_order.specs.Waits.{lines_of, waiting_at, IsSound}
use Rattle.interval_order.proofs.EarlierLemmas.{earlier_is}
use Rattle.interval_order.proofs.EntryLemmas.{any_is_found}
use Rattle.std.specs.Map.{lookup}
use Rattle.std.specs.Option.{option_map_or}
use Rattle.std.specs.List.{AllByRecursion, enumerate_from, list_any}
use Rattle.case_forms.specs.declared.trace.Header.{Header}
use Rattle.case_forms.specs.declared.trace.Line.{Line}
use Rattle.case_forms.specs.Traces.{first_event_line, numbered, line_at}
use Rattle.verdict.specs.declared.rule.Rule.{Rule}
use Rattle.verdict.specs.declared.rule.Rule.TheVariants as rules
use Rattle.verdict.specs.Rules.{first_broken}
use Rattle.interval_order.specs.Orders.{Move, Order, taking, passing, is_placed, unplaced, last_moment, order_of, held_line, is_offered}
use Rattle.interval_order.specs.OrderRules.{order_rules, moment_falls, has_earlier, is_overdue, has_overdue, first_overdue, extras_of}
use Rattle.interval_order.specs.Later.{TakesBelow, AreLater, with_lines, waits, is_among, late_rule, is_current, IsTimed}

-- ---- the entries of lines behind others

pub enumerate_append : {X : Type 0} (n : ℕ) (xs ys : List X) → enumerate_from n (xs ++ ys) ≡ enumerate_from n xs ++ enumerate_from (n + length xs) ys
enumerate_append {X} n [] ys = ap (λ (m : ℕ). enumerate_from m ys) (plus_none n)
  where
    plus_none : (n : ℕ) → n ≡ n + 0
    plus_none n = omega arith
enumerate_append {X} n (x ∷ xs) ys =
    ap (λ (zs : List (ℕ × X)). (n, x) ∷ zs) (enumerate_append (n + 1) xs ys ∙ ap (λ (m : ℕ). enumerate_from (n + 1) xs ++ enumerate_from m ys) (one_on n xs))
  where
    one_on : (n : ℕ) (xs : List X) → n + 1 + length xs ≡ n + suc (length xs)
    one_on n xs = omega arith

lookup_append : {X : Type 0} (test : ℕ → Bool) (es fs : List (ℕ × X)) → lookup test fs ≡ None → lookup test (es ++ fs) ≡ lookup test es
lookup_append test [] fs none = none
lookup_append {X} test (e ∷ es) fs none = ap (λ (r : Option X). cond (test e.0) (Some e.1) r) (lookup_append test es fs none)

lookup_past : {X : Type 0} (test : ℕ → Bool) (es fs : List (ℕ × X)) → lookup test es ≡ None → lookup test (es ++ fs) ≡ lookup test fs
lookup_past test [] fs none = refl
lookup_past {X} test (e ∷ es) fs none = by_test (test e.0) refl (lookup_past test es fs)
  where
    by_test : (b : Bool) → test e.0 ≡ b → (lookup test es ≡ None → lookup test (es ++ fs) ≡ lookup test fs) → lookup test ((e ∷ es) ++ fs) ≡ lookup test fs
    by_test true is rest = let h : Some e.1 ≡ None = rw is at none in absurd cc
    by_test false is rest = rw is (rest (rw is at none))

-- no entry from a number on has a number below it
lookup_below : {X : Type 0} (n next : ℕ) (ys : List X) → n < next → lookup (nat_eq n) (enumerate_from next ys) ≡ None
lookup_below n next [] lt = refl
lookup_below n next (y ∷ ys) lt =
    let apart : nat_eq n next ≡ false = grind (arith, nat_tests, lt) in
    rw apart (lookup_below n (next + 1) ys (omega arith))

-- nor one past the last
lookup_beyond : {X : Type 0} (n next : ℕ) (ys : List X) → next + length ys ≤ n → lookup (nat_eq n) (enumerate_from next ys) ≡ None
lookup_beyond n next [] le = refl
lookup_beyond n next (y ∷ ys) le =
    let apart : nat_eq n next ≡ false = grind (arith, nat_tests, le) in
    rw apart (lookup_beyond n (next + 1) ys (omega arith))

lookup_here : {X : Type 0} (next : ℕ) (before : List X) (y : X) (after : List X)
    → lookup (nat_eq (next + length before)) (enumerate_from next (before ++ y ∷ after)) ≡ Some y
lookup_here next [] y after = let same : nat_eq (next + 0) next ≡ true = grind (arith, nat_tests) in rw same refl
lookup_here next (x ∷ before) y after =
    let apart : nat_eq (next + suc (length before)) next ≡ false = grind (arith, nat_tests) in
    let on : next + suc (length before) ≡ next + 1 + length before = omega arith in
    rw apart (ap (λ (n : ℕ). lookup (nat_eq n) (enumerate_from (next + 1) (before ++ y ∷ after))) on ∙ lookup_here (next + 1) before y after)

-- a line that was offered is where it was
pub line_at-front : (header : Header) (lines more : List Line) (n : ℕ) → n < first_event_line header + length lines
    → line_at header (lines ++ more) n ≡ line_at header lines n
line_at-front header lines more n lt =
    ap (λ (es : List (ℕ × Line)). lookup (nat_eq n) es) (enumerate_append (first_event_line header) lines more)
    ∙ lookup_append (nat_eq n) (numbered header lines) (enumerate_from (first_event_line header + length lines) more)
    (lookup_below n (first_event_line header + length lines) more lt)

pub line_at-beyond : (header : Header) (lines : List Line) (n : ℕ) → first_event_line header + length lines ≤ n → line_at header lines n ≡ None
line_at-beyond header lines n le = lookup_beyond n (first_event_line header) lines le

-- ---- the order with more lines

kept : (next : ℕ) (earlier : List Move) (more : List Line) → TakesBelow next earlier
    → filter (λ e. not (is_placed earlier e.0)) (enumerate_from next more) ≡ enumerate_from next more
kept next earlier [] below = refl
kept next earlier (line ∷ more) below =
    let here : is_placed earlier next ≡ false = below next (omega arith) in
    rw here (ap (λ (es : List (ℕ × Line)). (next, line) ∷ es) (kept (next + 1) earlier more (λ n le. below n (omega arith))))

unplaced_append : (header : Header) (lines more : List Line) (earlier : List Move) → TakesBelow (first_event_line header + length lines) earlier
    → unplaced header (lines ++ more) earlier ≡ unplaced header lines earlier ++ enumerate_from (first_event_line header + length lines) more
unplaced_append header lines more earlier below =
    ap (filter (λ e. not (is_placed earlier e.0))) (enumerate_append (first_event_line header) lines more)
    ∙ filter-append (λ e. not (is_placed earlier e.0)) (numbered header lines) (enumerate_from (first_event_line header + length lines) more)
    ∙ ap (λ (es : List (ℕ × Line)). unplaced header lines earlier ++ es) (kept (first_event_line header + length lines) earlier more below)

-- the order of more lines, after steps that take none of them
pub order_with : (header : Header) (lines more : List Line) (earlier : List Move) → TakesBelow (first_event_line header + length lines) earlier
    → order_of header (lines ++ more) earlier ≡ with_lines (order_of header lines earlier) more
order_with header lines more earlier below = λ i. record {
  header = header;
  next = further i;
  held = unplaced_append header lines more earlier below i;
  last = last_moment earlier;
}
  where
    further : first_event_line header + length (lines ++ more) ≡ first_event_line header + length lines + length more
    further = omega (arith, length-append lines more)

-- ---- the rules

none_overdue : (o : Order) (moment next : ℕ) (more : List Line) → AreLater moment more → list_any (is_overdue o moment) (enumerate_from next more) ≡ false
none_overdue o moment next [] later = refl
none_overdue o moment next (line ∷ more) later =
    let since : moment < line.moment = later.0 in
    let on_time : nat_lt (line.moment + o.header.skew) moment ≡ false = grind (arith, nat_tests, since) in
    rw on_time (none_overdue o moment (next + 1) more later.1)

or_false : (a b : Bool) → b ≡ false → (a || b) ≡ a
or_false true b is = refl
or_false false b is = is

overdue_same : (o : Order) (moment : ℕ) (more : List Line) → AreLater moment more → has_overdue (with_lines o more) moment ≡ has_overdue o moment
overdue_same o moment more later =
    list_any-append (is_overdue o moment) o.held (enumerate_from o.next more)
    ∙ or_false (has_overdue o moment) _ (none_overdue o moment o.next more later)

none_earlier : (n thread next : ℕ) (more : List Line) → n ≤ next → list_any (λ e. nat_lt e.0 n && e.1.thread == thread) (enumerate_from next more) ≡ false
none_earlier n thread next [] le = refl
none_earlier n thread next (line ∷ more) le =
    let past : nat_lt next n ≡ false = grind (arith, nat_tests, le) in
    rw past (none_earlier n thread (next + 1) more (omega arith))

earlier_same : (o : Order) (more : List Line) (n thread : ℕ) → n ≤ o.next → has_earlier (with_lines o more) n thread ≡ has_earlier o n thread
earlier_same o more n thread le =
    list_any-append (λ e. nat_lt e.0 n && e.1.thread == thread) o.held (enumerate_from o.next more)
    ∙ or_false (has_earlier o n thread) _ (none_earlier n thread o.next more le)

held_same : (o : Order) (more : List Line) (n : ℕ) → n < o.next → held_line (with_lines o more) n ≡ held_line o n
held_same o more n lt = lookup_append (nat_eq n) o.held (enumerate_from o.next more) (lookup_below n o.next more lt)

offered_same : (o : Order) (more : List Line) (n : ℕ) → n < o.next → is_offered (with_lines o more) n ≡ is_offered o n
offered_same o more n lt =
    let one : nat_lt n (o.next + length more) ≡ true = grind (arith, nat_tests, lt) in
    let two : nat_lt n o.next ≡ true = grind (arith, nat_tests, lt) in
    rw (one, two) refl

-- what comes later matters to no hidden step
pub passing_same : (o : Order) (more : List Line) (moment : ℕ) → AreLater moment more
    → order_rules (with_lines o more) (passing moment) ≡ order_rules o (passing moment)
passing_same o more moment later = rw (overdue_same o moment more later) refl

-- nor to a step that takes a line which was offered
pub taking_same : (o : Order) (more : List Line) (moment n extras : ℕ) → AreLater moment more → n < o.next
    → order_rules (with_lines o more) (taking moment n extras) ≡ order_rules o (taking moment n extras)
taking_same o more moment n extras later lt =
    let le : n ≤ o.next = omega arith in
    λ i. (
      rules.LineRange,
      not (offered_same o more n lt i)
          || option_map_or (λ line. not (extras == extras_of o.header.version line.event))
          (held_same o more n lt i) false,
    )
    ∷ (rules.LineAgain, offered_same o more n lt i && is_none (held_same o more n lt i))
    ∷ (rules.ThreadOrder, option_map_or (λ line. earlier_same o more n line.thread le i) (held_same o more n lt i) false)
    ∷ (rules.MomentFalls, moment_falls o moment)
    ∷ (rules.MomentOff, option_map_or (λ line. nat_lt moment line.moment || nat_lt (line.moment + o.header.skew) moment) (held_same o more n lt i) false)
    ∷ (rules.Overdue, overdue_same o moment more later i)
    ∷ []

-- ---- a step that takes a line whose moment is not reached

-- each entry has a number below
abbrev pub KeysBelow : ℕ → List (ℕ × Line) → Type 0
KeysBelow next es = AllByRecursion (λ e. e.0 < next) es

not_held : (n next : ℕ) (es : List (ℕ × Line)) → KeysBelow next es → next ≤ n → lookup (nat_eq n) es ≡ None
not_held n next [] below le = refl
not_held n next (e ∷ es) below le =
    let lt : e.0 < next = below.0 in
    let apart : nat_eq n e.0 ≡ false = grind (arith, nat_tests, lt, le) in
    rw apart (not_held n next es below.1 le)

all_earlier : (n next thread : ℕ) (es : List (ℕ × Line)) → KeysBelow next es → next ≤ n
    → list_any (λ e. nat_lt e.0 n && e.1.thread == thread) es ≡ list_any (λ e. e.1.thread == thread) es
all_earlier n next thread [] below le = refl
all_earlier n next thread (e ∷ es) below le =
    let lt : e.0 < next = below.0 in
    let before : nat_lt e.0 n ≡ true = grind (arith, nat_tests, lt, le) in
    rw before (ap (λ (b : Bool). e.1.thread == thread || b) (all_earlier n next thread es below.1 le))

among_entries : (next thread n : ℕ) (lines : List Line) → next + length lines ≤ n
    → list_any (λ e. nat_lt e.0 n && e.1.thread == thread) (enumerate_from next lines) ≡ is_among thread lines
among_entries next thread n [] le = refl
among_entries next thread n (line ∷ lines) le =
    let before : nat_lt next n ≡ true = grind (arith, nat_tests, le) in
    rw before (ap (λ (b : Bool). line.thread == thread || b) (among_entries (next + 1) thread n lines (omega arith)))

earlier_late : (o : Order) (between after : List Line) (line : Line) (thread : ℕ) → KeysBelow o.next o.held
    → has_earlier (with_lines o (between ++ line ∷ after)) (o.next + length between) thread ≡ (waits o thread || is_among thread between)
earlier_late o between after line thread below =
    list_any-append (λ e. nat_lt e.0 (o.next + length between) && e.1.thread == thread) o.held (enumerate_from o.next (between ++ line ∷ after))
    ∙ (λ i. all_earlier (o.next + length between) o.next thread o.held below (omega arith) i || further i)
  where
    further : list_any (λ e. nat_lt e.0 (o.next + length between) && e.1.thread == thread)
        (enumerate_from o.next (between ++ line ∷ after)) ≡ is_among thread between
    further =
        ap (list_any (λ (e : ℕ × Line). nat_lt e.0 (o.next + length between) && e.1.thread == thread)) (enumerate_append o.next between (line ∷ after))
        ∙ list_any-append (λ (e : ℕ × Line). nat_lt e.0 (o.next + length between) && e.1.thread == thread)
        (enumerate_from o.next between) (enumerate_from (o.next + length between) (line ∷ after))
        ∙ or_false _ _ (none_earlier (o.next + length between) thread (o.next + length between) (line ∷ after) (omega arith))
        ∙ among_entries o.next thread (o.next + length between) between (omega arith)

least : (a b c d : Bool)
    → first_broken ((rules.LineRange, a) ∷ (rules.LineAgain, false) ∷ (rules.ThreadOrder, b) ∷ (rules.MomentFalls, c)
    ∷ (rules.MomentOff, true) ∷ (rules.Overdue, d) ∷ [])
    ≡ Some (if a then rules.LineRange else if b then rules.ThreadOrder else if c then rules.MomentFalls else rules.MomentOff)
least true b c d = refl
least false true c d = refl
least false false true d = refl
least false false false d = refl

-- it breaks one of four rules, since its line's moment is not reached
pub late_is : (o : Order) (between after : List Line) (line : Line) (moment extras : ℕ) → KeysBelow o.next o.held
    → first_event_line o.header ≤ o.next → moment < line.moment
    → first_broken (order_rules (with_lines o (between ++ line ∷ after))
    (taking moment (o.next + length between) extras)) ≡ Some (late_rule o between line extras moment)
late_is o between after line moment extras below first late =
    (λ i. first_broken ((rules.LineRange, not (offered i) || option_map_or (λ line. not (extras == extras_of o.header.version line.event)) (held i) false)
    ∷ (rules.LineAgain, offered i && is_none (held i))
    ∷ (rules.ThreadOrder, option_map_or (λ line. earlier_late o between after (line_here) line.thread below i) (held i) false)
    ∷ (rules.MomentFalls, moment_falls o moment)
    ∷ (rules.MomentOff, option_map_or (λ line. nat_lt moment line.moment || nat_lt (line.moment + o.header.skew) moment) (held i) false)
    ∷ (rules.Overdue, has_overdue (with_lines o (between ++ line_here ∷ after)) moment)
    ∷ []))
    ∙ (λ i. first_broken ((rules.LineRange, not (extras == extras_of o.header.version line.event))
    ∷ (rules.LineAgain, false)
    ∷ (rules.ThreadOrder, waits o line.thread || is_among line.thread between)
    ∷ (rules.MomentFalls, moment_falls o moment)
    ∷ (rules.MomentOff, not_reached i || nat_lt (line.moment + o.header.skew) moment)
    ∷ (rules.Overdue, has_overdue (with_lines o (between ++ line_here ∷ after)) moment)
    ∷ []))
    ∙ least (not (extras == extras_of o.header.version line.event))
    (waits o line.thread || is_among line.thread between) (moment_falls o moment)
    (has_overdue (with_lines o (between ++ line_here ∷ after)) moment)
  where
    line_here : Line
    line_here = line

    not_reached : nat_lt moment line.moment ≡ true
    not_reached = grind (arith, nat_tests, late)

    long : length (between ++ line ∷ after) ≡ length between + suc (length after)
    long = length-append between (line ∷ after)

    offered : is_offered (with_lines o (between ++ line ∷ after)) (o.next + length between) ≡ true
    offered =
        let one : nat_le (first_event_line o.header) (o.next + length between) ≡ true = grind (arith, nat_tests, first) in
        let two : nat_lt (o.next + length between) (o.next + length (between ++ line ∷ after)) ≡ true = grind (arith, nat_tests, long) in
        rw (one, two) refl

    held : held_line (with_lines o (between ++ line ∷ after)) (o.next + length between) ≡ Some line
    held =
        lookup_past (nat_eq (o.next + length between)) o.held (enumerate_from o.next (between ++ line ∷ after))
        (not_held (o.next + length between) o.next o.held below (omega arith))
        ∙ lookup_here o.next between line after

-- a step that takes no event line breaks the first rule, whatever else it breaks
pub beyond_is : (o : Order) (moment n extras : ℕ) (rest : List (Rule × Bool)) → is_offered o n ≡ false
    → first_broken (order_rules o (taking moment n extras) ++ rest) ≡ Some rules.LineRange
beyond_is o moment n extras rest is = rw is refl

pub not_offered : (header : Header) (lines : List Line) (earlier : List Move) (n : ℕ)
    → first_event_line header + length lines ≤ n → is_offered (order_of header lines earlier) n ≡ false
not_offered header lines earlier n le =
    let past : nat_lt n (first_event_line header + length lines) ≡ false = grind (arith, nat_tests, le) in
    ap (λ (b : Bool). nat_le (first_event_line header) n && b) past ∙ neither (nat_le (first_event_line header) n)
  where
    neither : (b : Bool) → (b && false) ≡ false
    neither true = refl
    neither false = refl

-- the lines that are not placed are numbered below the next
below_numbered : (n : ℕ) (lines : List Line) → KeysBelow (n + length lines) (enumerate_from n lines)
below_numbered n [] = tt
below_numbered n (line ∷ lines) = (omega arith, raised (enumerate_from (n + 1) lines) (below_numbered (n + 1) lines))
  where
    raised : (es : List (ℕ × Line)) → KeysBelow (n + 1 + length lines) es → KeysBelow (n + suc (length lines)) es
    raised [] h = tt
    raised (e ∷ es) h = let lt : e.0 < n + 1 + length lines = h.0 in (omega arith, raised es h.1)

below_filtered : (next : ℕ) (test : ℕ × Line → Bool) (es : List (ℕ × Line)) → KeysBelow next es → KeysBelow next (filter test es)
below_filtered next test [] h = tt
below_filtered next test (e ∷ es) h = by_test (test e) (below_filtered next test es h.1)
  where
    by_test : (b : Bool) → KeysBelow next (filter test es) → KeysBelow next (cond b (e ∷ filter test es) (filter test es))
    by_test true rest = (h.0, rest)
    by_test false rest = rest

pub order_below : (header : Header) (lines : List Line) (earlier : List Move)
    → KeysBelow (first_event_line header + length lines) (unplaced header lines earlier)
order_below header lines earlier = below_filtered _ (λ e. not (is_placed earlier e.0)) (numbered header lines) (below_numbered (first_event_line header) lines)

-- a step that takes a line which stands behind those offered, and whose moment is not reached, breaks one of four rules
pub late_line : (header : Header) (lines between after : List Line) (line : Line) (earlier : List Move)
    (moment extras : ℕ) → TakesBelow (first_event_line header + length lines) earlier → moment < line.moment
    → first_broken (order_rules (order_of header (lines ++ (between ++ line ∷ after)) earlier)
    (taking moment (first_event_line header + length lines + length between) extras))
    ≡ Some (late_rule (order_of header lines earlier) between line extras moment)
late_line header lines between after line earlier moment extras below late =
    ap (λ (o : Order). first_broken
    (order_rules o (taking moment (first_event_line header + length lines + length between) extras)))
    (order_with header lines (between ++ line ∷ after) earlier below)
    ∙ late_is (order_of header lines earlier) between after line moment extras (order_below header lines earlier) (omega arith) late

-- ---- how many lines are pending

abbrev weight : Bool → ℕ
weight b = cond b 1 0

kept_few : (test : ℕ × Line → Bool) (q : Line → Bool) (n : ℕ) (lines : List Line)
    → AllByRecursion (λ e. q e.1 ≡ true) (filter test (enumerate_from n lines))
    → length (filter test (enumerate_from n lines)) ≤ count_by q lines
kept_few test q n [] h = omega arith
kept_few test q n (line ∷ lines) h = by_test (test (n, line)) (kept_few test q (n + 1) lines) h
  where
    more : count_by q (line ∷ lines) ≡ cond (q line) 1 0 + count_by q lines
    more = sum_by-cons (λ x. cond (q x) 1 0) line lines

    by_test : (b : Bool)
        → (AllByRecursion (λ e. q e.1 ≡ true) (filter test (enumerate_from (n + 1) lines))
        → length (filter test (enumerate_from (n + 1) lines)) ≤ count_by q lines)
        → AllByRecursion (λ e. q e.1 ≡ true) (cond b ((n, line) ∷ filter test (enumerate_from (n + 1) lines)) (filter test (enumerate_from (n + 1) lines)))
        → length (cond b ((n, line) ∷ filter test (enumerate_from (n + 1) lines)) (filter test (enumerate_from (n + 1) lines))) ≤ count_by q (line ∷ lines)
    by_test true rest h =
        let few = rest h.1 in
        let one : weight (q line) ≡ 1 = ap weight h.0 in
        omega (arith, few, one, more)
    by_test false rest h = let few = rest h in omega (arith, few, more)

all_current : (o : Order) (moment : ℕ) (es : List (ℕ × Line)) → list_any (is_overdue o moment) es ≡ false
    → AllByRecursion (λ e. e.1.moment ≤ moment) es → AllByRecursion (λ e. is_current o.header moment e.1 ≡ true) es
all_current o moment [] none h = tt
all_current o moment (e ∷ es) none h =
    let parts = either (nat_lt (e.1.moment + o.header.skew) moment) (list_any (is_overdue o moment) es) none in
    let first = parts.0 in
    let now : e.1.moment ≤ moment = h.0 in
    let one : nat_le e.1.moment moment ≡ true = grind (arith, nat_tests, now) in
    let two : nat_le moment (e.1.moment + o.header.skew) ≡ true = grind (arith, nat_tests, first) in
    (rw (one, two) refl, all_current o moment es parts.1 h.1)
  where
    either : (a b : Bool) → (a || b) ≡ false → (a ≡ false) × (b ≡ false)
    either false b is = (refl, is)
    either true b is = absurd cc

timed : (o : Order) (moment : ℕ) (es : List (ℕ × Line)) → list_any (is_overdue o moment) es ≡ false
    → AllByRecursion (λ e. e.1.moment ≤ moment) es → AllByRecursion (λ e. IsTimed o.header moment e.1) es
timed o moment [] none h = tt
timed o moment (e ∷ es) none h =
    let parts = either (nat_lt (e.1.moment + o.header.skew) moment) (list_any (is_overdue o moment) es) none in
    let first = parts.0 in
    ((h.0, grind (arith, nat_tests, first)), timed o moment es parts.1 h.1)
  where
    either : (a b : Bool) → (a || b) ≡ false → (a ≡ false) × (b ≡ false)
    either false b is = (refl, is)
    either true b is = absurd cc

-- where none of the lines that wait is overdue or later, the moment of each is at most the skew earlier
pub all_timed : (o : Order) (moment : ℕ) → first_overdue o moment ≡ None → All (λ e. e.1.moment ≤ moment) o.held → All (λ e. IsTimed o.header moment e.1) o.held
all_timed o moment none below =
    let no : list_any (is_overdue o moment) o.held ≡ false = sym (any_is_found (λ e. e.0) (is_overdue o moment) o.held) ∙ ap is_some none in
    All-from_recursion (λ e. IsTimed o.header moment e.1) o.held (timed o moment o.held no (recursion_from_All (λ e. e.1.moment ≤ moment) o.held below))

-- what was placed is not found
pub gone_line : (n : ℕ) (es : List (ℕ × Line)) → lookup (nat_eq n) (filter (λ e. not (n == e.0)) es) ≡ None
gone_line n [] = refl
gone_line n (e ∷ es) = by_test (n == e.0) refl (gone_line n es)
  where
    by_test : (b : Bool) → (n == e.0) ≡ b → lookup (nat_eq n) (filter (λ x. not (n == x.0)) es) ≡ None
        → lookup (nat_eq n) (filter (λ x. not (n == x.0)) (e ∷ es)) ≡ None
    by_test true is rest = rw is rest
    by_test false is rest = let away : nat_eq n e.0 ≡ false = is in rw (is, away) rest

-- where none of the lines that wait is overdue or later, they are at most as many as the trace has of that time
pub held_few : (header : Header) (lines : List Line) (earlier : List Move) (moment : ℕ)
    → has_overdue (order_of header lines earlier) moment ≡ false
    → All (λ e. e.1.moment ≤ moment) (unplaced header lines earlier)
    → length (unplaced header lines earlier) ≤ count_by (is_current header moment) lines
held_few header lines earlier moment none below =
    kept_few (λ e. not (is_placed earlier e.0)) (is_current header moment) (first_event_line header) lines
    (all_current (order_of header lines earlier) moment (unplaced header lines earlier) none
    (recursion_from_All (λ e. e.1.moment ≤ moment) (unplaced header lines earlier) below))

-- ---- the rule of a late line, by what pending lines keep true

pub lines_below : (next : ℕ) (es : List (ℕ × Waiting)) → AllByRecursion (λ n. n < next) (keys_of es) → KeysBelow next (lines_of es)
lines_below next [] h = tt
lines_below next (e ∷ es) h = (h.0, lines_below next es h.1)

-- a line of a thread waits where the latest does that was offered
pub waits_is : (next : ℕ) (es : List (ℕ × Waiting)) (latest : ℕ → Option ℕ) (thread : ℕ) → IsSound next es latest
    → is_some (option_and_then (waiting_at es) (latest thread)) ≡ list_any (λ e. e.1.thread == thread) (lines_of es)
waits_is next es latest thread sound =
    earlier_is es thread next (latest thread) sound.ordered (sound.linked.all thread)
    ∙ all_earlier next next thread (lines_of es) (lines_below next es (recursion_from_All (λ n. n < next) (keys_of es) sound.below)) (omega arith)
