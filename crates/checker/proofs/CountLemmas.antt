-- A yes counts all lines of the trace.
use Rattle.std.proofs.Common.{◌≡◌, ℕ, ◌+◌, ◌≤◌, suc, Bool, true, false, not, List, [], ◌∷◌, ◌++◌, length, refl, sym, ap, subst, ◌∙◌, arith, None}
use Rattle.std.specs.Prelude.{nat_eq, ◌==◌, filter, is_none, count_by, cond}
use Rattle.std.specs.List.{enumerate_from}
use Rattle.std.specs.Option.{option_map_or}
use Rattle.std.specs.Map.{lookup}
use Rattle.std.proofs.lemmas.Bool.Decides.{nat_tests}
use Rattle.std.proofs.lemmas.List.FromFn.{length-enumerate_from}
use Rattle.std.proofs.lemmas.List.Sums.{sum_by-cons}
use Rattle.case_forms.specs.declared.trace.Header.{Header}
use Rattle.case_forms.specs.declared.trace.Line.{Line}
use Rattle.case_forms.specs.declared.trace.Trace.{Trace}
use Rattle.case_forms.specs.declared.named_line.NamedLine.{NamedLine}
use Rattle.case_forms.specs.declared.steps.Label.{Label}
use Rattle.case_forms.specs.declared.steps.Label.TheVariants.{L, D, M, T, K, R, F}
use Rattle.case_forms.specs.declared.steps.Step.{Step}
use Rattle.case_forms.specs.declared.steps.Witness.{Witness}
use Rattle.case_forms.specs.Traces.{first_event_line, numbered}
use Rattle.verdict.specs.declared.report.Verdict.TheVariants.{Yes}
use Rattle.verdict.specs.Rules.{first_broken}
use Rattle.verdict.proofs.RuleLemmas.{none_all, none_both}
use Rattle.interval_order.specs.Orders.{Move, Order, order_of, is_placed, unplaced, held_line, held_after, is_offered}
use Rattle.interval_order.specs.OrderRules.{order_rules}
use Rattle.interval_order.proofs.OrderLemmas.{order_more, order_first}
use Rattle.spec_tcp_laws.proofs.Rules.{not_false, and_false, neither}
use Rattle.spec_cases.specs.Cases.{Known, first_known}
use Rattle.checker.specs.Seen.{move_of, moves, act_of, take_of}
use Rattle.checker.specs.Verdicts.{act_rules, broken, next_world, takes_line, verdict}
use Rattle.checker.specs.Explains.{IsYes}
use Rattle.checker.proofs.JudgeLemmas.{verdict_says}
use Rattle.checker.proofs.YesLemmas.{moves_more, IsClean, clean_from_yes}

-- numbers that rise, from this one on
abbrev Rises : ℕ → List (ℕ × Line) → Type 0
Rises k [] = Unit {0}
Rises k (e ∷ es) = (k ≤ e.0) × Rises (suc e.0) es

rises_less : (j k : ℕ) (es : List (ℕ × Line)) → j ≤ k → Rises k es → Rises j es
rises_less j k [] le r = tt
rises_less j k (e ∷ es) le r = (let x = r.0 in omega arith, r.1)

numbered_rise : (k : ℕ) (lines : List Line) → Rises k (enumerate_from k lines)
numbered_rise k [] = tt
numbered_rise k (line ∷ lines) = (omega arith, rises_less (suc k) (k + 1) (enumerate_from (k + 1) lines) (omega arith) (numbered_rise (k + 1) lines))

filter_rises : (test : ℕ × Line → Bool) (k : ℕ) (es : List (ℕ × Line)) → Rises k es → Rises k (filter test es)
filter_rises test k [] r = tt
filter_rises test k (e ∷ es) r = by_test (test e) refl (filter_rises test (suc e.0) es r.1)
  where
    by_test : (b : Bool) → test e ≡ b → Rises (suc e.0) (filter test es) → Rises k (filter test (e ∷ es))
    by_test true is rest = rw is (r.0, rest)
    by_test false is rest = rw is (rises_less k (suc e.0) (filter test es) (let x = r.0 in omega arith) rest)

-- behind its place a number stands no more
none_removed : (n k : ℕ) (es : List (ℕ × Line)) → suc n ≤ k → Rises k es → filter (λ e. not (n == e.0)) es ≡ es
none_removed n k [] le r = refl
none_removed n k (e ∷ es) le r =
    let up = r.0 in
    let differ : (n == e.0) ≡ false = grind (arith, nat_tests) in
    rw differ (ap (λ (xs : List (ℕ × Line)). e ∷ xs) (none_removed n (suc e.0) es (omega arith) r.1))

-- what is taken is one line less
one_removed : (n k : ℕ) (es : List (ℕ × Line)) → Rises k es → is_none (lookup (nat_eq n) es) ≡ false
    → length es ≡ suc (length (filter (λ e. not (n == e.0)) es))
one_removed n k [] r found = absurd cc
one_removed n k (e ∷ es) r found = by_test (n == e.0) refl (one_removed n (suc e.0) es r.1)
  where
    by_test : (b : Bool) → (n == e.0) ≡ b
        → (is_none (lookup (nat_eq n) es) ≡ false → length es ≡ suc (length (filter (λ x. not (n == x.0)) es)))
        → length (e ∷ es) ≡ suc (length (filter (λ x. not (n == x.0)) (e ∷ es)))
    by_test true is rest =
        let same : n ≡ e.0 = grind (arith, nat_tests) in
        rw is (ap (λ (xs : List (ℕ × Line)). suc (length xs)) (sym (none_removed n (suc e.0) es (omega arith) r.1)))
    by_test false is rest = rw is (ap suc (rest (rw is at found)))

-- a step that breaks no rule of order takes one line from those that are left, or none
taken_by : (o : Order) (moment k : ℕ) (label : Label NamedLine) → Rises k o.held
    → first_broken (order_rules o (record { moment = moment; take = take_of label })) ≡ None
    → length o.held ≡ cond (takes_line label) 1 0 + length (held_after o.held (take_of label))
taken_by o moment k (L line) r none =
    let t = none_all (order_rules o (record { moment = moment; take = take_of (L line) })) none in
    let there = not_false (is_offered o line.number) (neither (not (is_offered o line.number)) _ t.0).0 in
    let one = one_removed line.number k o.held r (and_false (is_offered o line.number) (is_none (held_line o line.number)) t.1.0 there) in
    omega (arith, one)
taken_by o moment k (D t answer) r none = omega arith
taken_by o moment k (M host plan) r none = omega arith
taken_by o moment k (T host line choice) r none = omega arith
taken_by o moment k (K host line) r none = omega arith
taken_by o moment k (R host line) r none = omega arith
taken_by o moment k (F host recovery) r none = omega arith

module _ (header : Header) (lines : List Line) where
  left_rise : (done : List Move) → Rises (first_event_line header) (unplaced header lines done)
  left_rise done =
      filter_rises (λ e. not (is_placed done e.0)) (first_event_line header) (numbered header lines)
      (numbered_rise (first_event_line header) lines)

  taken_more : (earlier : List Step) (w : Known) (s : Step) → broken header lines earlier w s ≡ None
      → length (unplaced header lines (moves earlier)) ≡ cond (takes_line s.label) 1 0 + length (unplaced header lines (moves (earlier ++ s ∷ [])))
  taken_more earlier w s none =
      let order =
      (none_both (order_rules (order_of header lines (moves earlier)) (move_of s))
      (option_map_or (act_rules header w) (act_of header lines s) []) none).0 in
      let held = ap (λ (o : Order). o.held) (order_more header lines (moves earlier) (move_of s)) ∙ ap (unplaced header lines) (sym (moves_more earlier s)) in
      taken_by (order_of header lines (moves earlier)) s.moment (first_event_line header) s.label (left_rise (moves earlier)) order
      ∙ ap (λ (left : List (ℕ × Line)). cond (takes_line s.label) 1 0 + length left) held

  taken_all : (earlier : List Step) (w : Known) (steps : List Step) → IsClean header lines earlier w steps
      → length (unplaced header lines (moves earlier)) ≡ count_by (λ s. takes_line s.label) steps
  taken_all earlier w [] clean = ap length clean.0
  taken_all earlier w (s ∷ steps) clean =
      taken_more earlier w s clean.0
      ∙ ap (λ (n : ℕ). cond (takes_line s.label) 1 0 + n) (taken_all (earlier ++ s ∷ []) (next_world header lines w s) steps clean.1)
      ∙ sym (sum_by-cons (λ x. cond (takes_line x.label) 1 0) s steps)

-- the count of lines of a yes is that of the trace
pub all_counted : (t : Trace) (w : Witness) (lines hidden : ℕ) → verdict t w ≡ Yes lines hidden → lines ≡ length t.lines
all_counted t w lines hidden is =
    let said = verdict_says t w (Yes lines hidden) is in
    let clean = clean_from_yes t.header t.lines [] (first_known t.header) w.steps (subst IsYes (sym is) tt) in
    said.1.lines_are
    ∙ sym (taken_all t.header t.lines [] (first_known t.header) w.steps clean)
    ∙ ap (λ (o : Order). length o.held) (order_first t.header t.lines)
    ∙ length-enumerate_from (first_event_line t.header) t.lines
