-- Lines that are offered later matter to no step before.
use Rattle.std.proofs.Common.{◌≡◌, ℕ, ◌+◌, ◌<◌, ◌≤◌, Bool, true, false, ◌||◌, List, [], ◌∷◌, ◌++◌, length, refl, sym, ap, subst, ◌∙◌, arith, Some, None}
use Rattle.std.proofs.lemmas.Bool.Decides.{nat_tests}
use Rattle.std.proofs.lemmas.List.Folds.{list_any-append}
use Rattle.std.proofs.lemmas.List.{map-append}
use Rattle.std.specs.Prelude.{nat_eq, nat_lt}
use Rattle.std.specs.Option.{option_map_or}
use Rattle.std.specs.List.{cons_option}
use Rattle.case_forms.specs.declared.trace.Header.{Header}
use Rattle.case_forms.specs.declared.trace.Line.{Line}
use Rattle.case_forms.specs.declared.trace.Span.{Span}
use Rattle.case_forms.specs.declared.steps.Label.{Label}
use Rattle.case_forms.specs.declared.steps.Label.TheVariants.{L, D, M, T, K, R, F}
use Rattle.case_forms.specs.declared.steps.Step.{Step}
use Rattle.case_forms.specs.declared.named_line.NamedLine.{NamedLine}
use Rattle.case_forms.specs.Steps.{extras_count}
use Rattle.case_forms.specs.Traces.{first_event_line}
use Rattle.verdict.specs.declared.rule.Rule.TheVariants as rules
use Rattle.verdict.specs.Rules.{first_broken}
use Rattle.verdict.proofs.RuleLemmas.{first_broken-append_some}
use Rattle.interval_order.specs.Orders.{Order, Move, taking, passing, is_placed, order_of}
use Rattle.interval_order.specs.OrderRules.{order_rules}
use Rattle.interval_order.specs.Later.{TakesBelow, AreLater, late_rule}
use Rattle.interval_order.proofs.LaterLemmas.{order_with, passing_same, taking_same, beyond_is, not_offered, late_line, line_at-front}
use Rattle.spec_cases.specs.Cases.{Known}
use Rattle.checker.specs.Seen.{move_of, moves, act_of, stamped}
use Rattle.checker.specs.Verdicts.{act_rules, broken}
use Rattle.checker.specs.Streaming.{NamesBelow}
use Rattle.checker.proofs.KeptLemmas.{line_act}

module _ (header : Header) (lines : List Line) where
  abbrev pub next_number : ℕ
  next_number = first_event_line header + length lines

  -- what a step does is the same whatever lines come behind those that it may name
  act_at : (more : List Line) (moment : ℕ) (label : Label NamedLine) (span : Span) → NamesBelow next_number label
      → act_of header (lines ++ more) (record { moment = moment; label = label; span = span })
      ≡ act_of header lines (record { moment = moment; label = label; span = span })
  act_at more moment (L named) span below = ap (line_act moment named) (line_at-front header lines more named.number below)
  act_at more moment (D t answer) span below = refl
  act_at more moment (M host plan) span below = refl
  act_at more moment (T host line choice) span below = refl
  act_at more moment (K host line) span below = refl
  act_at more moment (R host line) span below = refl
  act_at more moment (F host recovery) span below = refl

  pub act_more : (more : List Line) (s : Step) → NamesBelow next_number s.label → act_of header (lines ++ more) s ≡ act_of header lines s
  act_more more s below = act_at more s.moment s.label s.span below

  -- which rules of order it breaks, too, as long as the moments of those lines are not reached
  order_at : (more : List Line) (earlier : List Move) (moment : ℕ) (label : Label NamedLine) (span : Span)
      → TakesBelow next_number earlier → AreLater moment more → NamesBelow next_number label
      → order_rules (order_of header (lines ++ more) earlier)
      (move_of (record { moment = moment; label = label; span = span }))
      ≡ order_rules (order_of header lines earlier) (move_of (record { moment = moment; label = label; span = span }))
  order_at more earlier moment (L named) span takes later below =
      ap (λ (o : Order). order_rules o (taking moment named.number (extras_count named.extras))) (order_with header lines more earlier takes)
      ∙ taking_same (order_of header lines earlier) more moment named.number (extras_count named.extras) later below
  order_at more earlier moment (D t answer) span takes later below =
      ap (λ (o : Order). order_rules o (passing moment)) (order_with header lines more earlier takes)
      ∙ passing_same (order_of header lines earlier) more moment later
  order_at more earlier moment (M host plan) span takes later below =
      ap (λ (o : Order). order_rules o (passing moment)) (order_with header lines more earlier takes)
      ∙ passing_same (order_of header lines earlier) more moment later
  order_at more earlier moment (T host line choice) span takes later below =
      ap (λ (o : Order). order_rules o (passing moment)) (order_with header lines more earlier takes)
      ∙ passing_same (order_of header lines earlier) more moment later
  order_at more earlier moment (K host line) span takes later below =
      ap (λ (o : Order). order_rules o (passing moment)) (order_with header lines more earlier takes)
      ∙ passing_same (order_of header lines earlier) more moment later
  order_at more earlier moment (R host line) span takes later below =
      ap (λ (o : Order). order_rules o (passing moment)) (order_with header lines more earlier takes)
      ∙ passing_same (order_of header lines earlier) more moment later
  order_at more earlier moment (F host recovery) span takes later below =
      ap (λ (o : Order). order_rules o (passing moment)) (order_with header lines more earlier takes)
      ∙ passing_same (order_of header lines earlier) more moment later

  -- a step that names none of the later lines breaks the same rule
  pub broken_more : (more : List Line) (earlier : List Step) (w : Known) (s : Step)
      → TakesBelow next_number (moves earlier) → AreLater s.moment more → NamesBelow next_number s.label
      → broken header (lines ++ more) earlier w s ≡ broken header lines earlier w s
  broken_more more earlier w s takes later below =
      λ i. first_broken (order_at more (moves earlier) s.moment s.label s.span takes later below i
      ++ option_map_or (act_rules header w) (act_more more s below i) [])

  -- a step that names one of them breaks one of four
  pub broken_late : (between after : List Line) (line : Line) (earlier : List Step) (w : Known) (moment : ℕ) (named : NamedLine) (span : Span)
      → TakesBelow next_number (moves earlier) → moment < line.moment → named.number ≡ next_number + length between
      → broken header (lines ++ (between ++ line ∷ after)) earlier w (record { moment = moment; label = L named; span = span })
      ≡ Some (late_rule (order_of header lines (moves earlier)) between line (extras_count named.extras) moment)
  broken_late between after line earlier w moment named span takes late at =
      first_broken-append_some
      (order_rules (order_of header (lines ++ (between ++ line ∷ after)) (moves earlier)) (taking moment named.number (extras_count named.extras)))
      (option_map_or (act_rules header w) (act_of header (lines ++ (between ++ line ∷ after)) (record { moment = moment; label = L named; span = span })) [])
      (late_rule (order_of header lines (moves earlier)) between line (extras_count named.extras) moment)
      (ap (λ (n : ℕ). first_broken (order_rules (order_of header (lines ++ (between ++ line ∷ after)) (moves earlier))
      (taking moment n (extras_count named.extras)))) at
      ∙ late_line header lines between after line (moves earlier) moment (extras_count named.extras) takes late)

  -- a step that names a line past the last breaks the first rule
  pub broken_beyond : (earlier : List Step) (w : Known) (moment : ℕ) (named : NamedLine) (span : Span) → next_number ≤ named.number
      → broken header lines earlier w (record { moment = moment; label = L named; span = span }) ≡ Some rules.LineRange
  broken_beyond earlier w moment named span le =
      beyond_is (order_of header lines (moves earlier)) moment named.number (extras_count named.extras)
      (option_map_or (act_rules header w) (act_of header lines (record { moment = moment; label = L named; span = span })) [])
      (not_offered header lines (moves earlier) named.number le)

  -- a step that breaks no rule takes no line past the last
  names_at : (earlier : List Step) (w : Known) (moment : ℕ) (label : Label NamedLine) (span : Span)
      → broken header lines earlier w (record { moment = moment; label = label; span = span }) ≡ None
      → NamesBelow next_number label
  names_at earlier w moment (L named) span none = by_test (nat_lt named.number next_number) refl
    where
      by_test : (b : Bool) → nat_lt named.number next_number ≡ b → named.number < next_number
      by_test true is = grind (arith, nat_tests, is)
      by_test false is =
          let le : next_number ≤ named.number = grind (arith, nat_tests, is) in
          let h : Some rules.LineRange ≡ None = sym (broken_beyond earlier w moment named span le) ∙ none in
          absurd cc
  names_at earlier w moment (D t answer) span none = tt
  names_at earlier w moment (M host plan) span none = tt
  names_at earlier w moment (T host line choice) span none = tt
  names_at earlier w moment (K host line) span none = tt
  names_at earlier w moment (R host line) span none = tt
  names_at earlier w moment (F host recovery) span none = tt

  pub names_below : (earlier : List Step) (w : Known) (s : Step) → broken header lines earlier w s ≡ None → NamesBelow next_number s.label
  names_below earlier w s none = names_at earlier w s.moment s.label s.span none

-- so the steps that were done take no line past the last
not_taken : (next moment : ℕ) (label : Label NamedLine) (span : Span) → NamesBelow next label
    → TakesBelow next (move_of (record { moment = moment; label = label; span = span }) ∷ [])
not_taken next moment (L named) span below = λ n le.
    let apart : nat_eq named.number n ≡ false = grind (arith, nat_tests, below, le) in
    rw apart refl
not_taken next moment (D t answer) span below = λ n le. refl
not_taken next moment (M host plan) span below = λ n le. refl
not_taken next moment (T host line choice) span below = λ n le. refl
not_taken next moment (K host line) span below = λ n le. refl
not_taken next moment (R host line) span below = λ n le. refl
not_taken next moment (F host recovery) span below = λ n le. refl

both_below : (next : ℕ) (a b : List Move) → TakesBelow next a → TakesBelow next b → TakesBelow next (a ++ b)
both_below next a b p q = λ n le. list_any-append _ a b ∙ (λ i. p n le i || q n le i)

pub takes_more : (next : ℕ) (earlier : List Step) (s : Step) → TakesBelow next (moves earlier) → NamesBelow next s.label
    → TakesBelow next (moves (earlier ++ s ∷ []))
takes_more next earlier s takes below =
    subst (TakesBelow next) (sym (map-append move_of earlier (s ∷ [])))
    (both_below next (moves earlier) (move_of s ∷ []) takes (not_taken next s.moment s.label s.span below))

pub takes_raised : (next more : ℕ) (earlier : List Move) → next ≤ more → TakesBelow next earlier → TakesBelow more earlier
takes_raised next more earlier le takes = λ n further. takes n (omega arith)

-- what steps do is the same whatever lines come behind
first_below : (next : ℕ) (s : Step) (rest : List Step) → TakesBelow next (moves (s ∷ rest)) → (NamesBelow next s.label) × TakesBelow next (moves rest)
first_below next s rest takes = (at s.moment s.label s.span (λ n le. (parts n le).0), λ n le. (parts n le).1)
  where
    either : (a b : Bool) → (a || b) ≡ false → (a ≡ false) × (b ≡ false)
    either false b is = (refl, is)
    either true b is = absurd cc

    parts : (n : ℕ) → next ≤ n → (is_placed (move_of s ∷ []) n ≡ false) × (is_placed (moves rest) n ≡ false)
    parts n le = let p = either _ (is_placed (moves rest) n) (takes n le) in (rw p.0 refl, p.1)

    at : (moment : ℕ) (label : Label NamedLine) (span : Span)
        → TakesBelow next (move_of (record { moment = moment; label = label; span = span }) ∷ [])
        → NamesBelow next label
    at moment (L named) span none = by_test (nat_lt named.number next) refl
      where
        by_test : (b : Bool) → nat_lt named.number next ≡ b → named.number < next
        by_test true is = grind (arith, nat_tests, is)
        by_test false is =
            let le : next ≤ named.number = grind (arith, nat_tests, is) in
            let same : nat_eq named.number named.number ≡ true = grind (arith, nat_tests) in
            let h : true ≡ false = sym (rw same refl) ∙ none named.number le in
            absurd cc
    at moment (D t answer) span none = tt
    at moment (M host plan) span none = tt
    at moment (T host line choice) span none = tt
    at moment (K host line) span none = tt
    at moment (R host line) span none = tt
    at moment (F host recovery) span none = tt

pub stamped_more : (header : Header) (lines more : List Line) (earlier : List Step)
    → TakesBelow (first_event_line header + length lines) (moves earlier)
    → stamped header (lines ++ more) earlier ≡ stamped header lines earlier
stamped_more header lines more [] takes = refl
stamped_more header lines more (s ∷ rest) takes =
    let parts = first_below (first_event_line header + length lines) s rest takes in
    λ i. cons_option (act_more header lines more s parts.0 i) (stamped_more header lines more rest parts.1 i)
