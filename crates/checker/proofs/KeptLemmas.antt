-- The rules of a step may be asked of the lines that are not placed.
use Rattle.std.proofs.Common.{◌≡◌, ℕ, Bool, true, false, cond, not, List, [], ◌++◌, refl, sym, ap, subst, ◌∙◌, Option, Some, None, ◌≤◌, ◌+◌, arith}
use Rattle.std.specs.Option.{option_map, option_map_or}
use Rattle.case_forms.specs.declared.trace.Header.{Header}
use Rattle.case_forms.specs.declared.trace.Line.{Line}
use Rattle.case_forms.specs.declared.named_line.NamedLine.{NamedLine}
use Rattle.case_forms.specs.declared.taken_line.TakenLine.{TakenLine}
use Rattle.case_forms.specs.Naming.{with_line}
use Rattle.case_forms.specs.TakenLines.{taken_of}
use Rattle.case_forms.specs.declared.steps.Label.{Label}
use Rattle.case_forms.specs.declared.steps.Label.TheVariants.{L, D, M, T, K, R, F}
use Rattle.case_forms.specs.declared.steps.Step.{Step}
use Rattle.case_forms.specs.declared.trace.Span.{Span}
use Rattle.case_forms.specs.Steps.{extras_count}
use Rattle.case_forms.specs.Traces.{line_at}
use Rattle.verdict.specs.declared.rule.Rule.{Rule}
use Rattle.verdict.specs.declared.rule.Rule.TheVariants as rules
use Rattle.verdict.specs.Rules.{first_broken}
use Rattle.verdict.proofs.RuleLemmas.{first_broken-append_none, first_broken-append_some}
use Rattle.interval_order.specs.Orders.{Order, taking, is_placed, order_of, held_line, is_offered}
use Rattle.interval_order.specs.OrderRules.{order_rules}
use Rattle.interval_order.proofs.OrderLemmas.{held_is}
use Rattle.spec_network.specs.Hosts.{Stamped, Step as StepOf}
use Rattle.spec_tcp.specs.Machine.{tcp_shape}
use Rattle.spec_tcp.specs.Steps.{label_step, line_step, step_of}
use Rattle.spec_cases.specs.Cases.{Known, Watched as Progress, after, asked_rules, forget}
use Rattle.watched.proofs.CaseLemmas.{rules-forget, known-forgets}
use Rattle.checker.specs.Seen.{moves, move_of, act_of}
use Rattle.checker.specs.Verdicts.{act_rules, act_after, broken}
use Rattle.checker.specs.Kept.{held_act, kept_broken}

-- a line that is no longer held breaks a rule of order, whatever the machine says
gone : (o : Order) (moment n extras : ℕ) → held_line o n ≡ None
    → (r : Rule) × ((rest : List (Rule × Bool))
    → first_broken (order_rules o (taking moment n extras) ++ rest) ≡ Some r)
gone o moment n extras none = by_test (is_offered o n) refl
  where
    by_test : (b : Bool) → is_offered o n ≡ b
        → (r : Rule) × ((rest : List (Rule × Bool))
        → first_broken (order_rules o (taking moment n extras) ++ rest) ≡ Some r)
    by_test true is = (rules.LineAgain, λ rest. simp (none, is) refl)
    by_test false is = (rules.LineRange, λ rest. simp (none, is) refl)

-- what the machine is asked to do, where that is found for the line
abbrev pub line_act : ℕ → NamedLine → Option Line → Option (Stamped tcp_shape)
line_act moment named found = option_map (λ step. record { moment = moment; step = step }) (label_step (λ n. found) (L named))

module _ (header : Header) (lines : List Line) (earlier : List Step) where
  held_not_placed : (n : ℕ) → is_placed (moves earlier) n ≡ false → held_line (order_of header lines (moves earlier)) n ≡ line_at header lines n
  held_not_placed n is = held_is header lines (moves earlier) n ∙ ap (λ (b : Bool). cond (not b) (line_at header lines n) None) is

  held_placed : (n : ℕ) → is_placed (moves earlier) n ≡ true → held_line (order_of header lines (moves earlier)) n ≡ None
  held_placed n is = held_is header lines (moves earlier) n ∙ ap (λ (b : Bool). cond (not b) (line_at header lines n) None) is

  abbrev machine_part : Known → Option (Stamped tcp_shape) → List (Rule × Bool)
  machine_part w act = option_map_or (act_rules header w) act []

  broken_at : (w : Known) (moment : ℕ) (label : Label NamedLine) (span : Span)
      → broken header lines earlier w (record { moment = moment; label = label; span = span })
      ≡ kept_broken header (order_of header lines (moves earlier)) w
      (record { moment = moment; label = label; span = span })
  broken_at w moment (L named) span = by_test (is_placed (moves earlier) named.number) refl
    where
      rules_of_order : List (Rule × Bool)
      rules_of_order = order_rules (order_of header lines (moves earlier)) (taking moment named.number (extras_count named.extras))

      by_test : (b : Bool) → is_placed (moves earlier) named.number ≡ b
          → broken header lines earlier w (record { moment = moment; label = L named; span = span })
          ≡ kept_broken header (order_of header lines (moves earlier)) w
          (record { moment = moment; label = L named; span = span })
      by_test false is =
          ap (λ (found : Option Line). first_broken (rules_of_order ++ machine_part w (line_act moment named found)))
          (sym (held_not_placed named.number is))
      by_test true is =
          let none = gone (order_of header lines (moves earlier)) moment named.number (extras_count named.extras) (held_placed named.number is) in
          none.1 (machine_part w (line_act moment named (line_at header lines named.number)))
          ∙ sym (none.1 (machine_part w (line_act moment named
          (held_line (order_of header lines (moves earlier)) named.number))))
  broken_at w moment (D t answer) span = refl
  broken_at w moment (M host plan) span = refl
  broken_at w moment (T host line choice) span = refl
  broken_at w moment (K host line) span = refl
  broken_at w moment (R host line) span = refl
  broken_at w moment (F host recovery) span = refl

  -- the rules may be asked of the line that is held
  pub broken_is : (w : Known) (s : Step) → broken header lines earlier w s ≡ kept_broken header (order_of header lines (moves earlier)) w s
  broken_is w s = broken_at w s.moment s.label s.span

  act_at : (w : Known) (moment : ℕ) (label : Label NamedLine) (span : Span)
      → kept_broken header (order_of header lines (moves earlier)) w (record { moment = moment; label = label; span = span }) ≡ None
      → held_act (order_of header lines (moves earlier)) (record { moment = moment; label = label; span = span })
      ≡ act_of header lines (record { moment = moment; label = label; span = span })
  act_at w moment (L named) span ok = by_test (is_placed (moves earlier) named.number) refl
    where
      by_test : (b : Bool) → is_placed (moves earlier) named.number ≡ b
          → held_act (order_of header lines (moves earlier)) (record { moment = moment; label = L named; span = span })
          ≡ act_of header lines (record { moment = moment; label = L named; span = span })
      by_test false is = ap (line_act moment named) (held_not_placed named.number is)
      by_test true is =
          let none = gone (order_of header lines (moves earlier)) moment named.number (extras_count named.extras) (held_placed named.number is) in
          let h : Some none.0 ≡ None =
          sym (none.1 (machine_part w (line_act moment named
          (held_line (order_of header lines (moves earlier)) named.number)))) ∙ ok in absurd cc
  act_at w moment (D t answer) span ok = refl
  act_at w moment (M host plan) span ok = refl
  act_at w moment (T host line choice) span ok = refl
  act_at w moment (K host line) span ok = refl
  act_at w moment (R host line) span ok = refl
  act_at w moment (F host recovery) span ok = refl

  -- and the act is that of the line that is held, where no rule is broken
  pub act_is : (w : Known) (s : Step) → kept_broken header (order_of header lines (moves earlier)) w s ≡ None
      → held_act (order_of header lines (moves earlier)) s ≡ act_of header lines s
  act_is w s ok = act_at w s.moment s.label s.span ok

-- the rules may be asked of the world of which all is forgotten that may be discarded
pub broken_forgets : (header : Header) (o : Order) (w : Known) (s : Step) → kept_broken header o (forget w) s ≡ kept_broken header o w s
broken_forgets header o w s = ap (λ (rest : List (Rule × Bool)). first_broken (order_rules o (move_of s) ++ rest)) (by_act (held_act o s))
  where
    by_act : (act : Option (Stamped tcp_shape)) → option_map_or (act_rules header (forget w)) act [] ≡ option_map_or (act_rules header w) act []
    by_act None = refl
    by_act (Some act) = rules-forget header act.moment w act.step

-- what is kept after an act that breaks no rule is what is kept of the whole world after it
pub next_forgets : (header : Header) (p : Progress) (w : Known) (act : Option (Stamped tcp_shape))
    → p.header ≡ header → p.world ≡ forget w → first_broken (option_map_or (act_rules header w) act []) ≡ None
    → (option_map_or (λ a. after p a.moment a.step) act p).world ≡ forget (option_map_or (act_after header w) act w)
next_forgets header p w None h is ok = is
next_forgets header p w (Some act) h is ok = rw (h, is) (known-forgets header act.moment w act.step ok)

-- no act changes the header, and each is one step at most
pub next_header : (p : Progress) (act : Option (Stamped tcp_shape)) → (option_map_or (λ a. after p a.moment a.step) act p).header ≡ p.header
next_header p None = refl
next_header p (Some act) = refl

pub next_steps : (p : Progress) (act : Option (Stamped tcp_shape)) → (option_map_or (λ a. after p a.moment a.step) act p).steps ≤ p.steps + 1
next_steps p None = omega arith
next_steps p (Some act) = omega arith

-- the rule of order that a step breaks which takes a line is the least that it breaks
pub refused_line : (header : Header) (o : Order) (w : Known) (s : Step) (named : NamedLine) (rule : Rule)
    → s.label ≡ L named
    → Some rule ≡ first_broken (order_rules o (taking s.moment named.number (extras_count named.extras)))
    → kept_broken header o w s ≡ Some rule
refused_line header o w s named rule is broken =
    subst (λ (label : Label NamedLine). kept_broken header o w (record s { label = label }) ≡ Some rule) (sym is)
    (first_broken-append_some (order_rules o (taking s.moment named.number (extras_count named.extras)))
    (option_map_or (act_rules header w) (held_act o (record s { label = L named })) []) rule (sym broken))

-- where it breaks none, what its line breaks in the machine is the least
pub placed_line : (p : Progress) (o : Order) (s : Step) (named : NamedLine) (line : Line) → s.label ≡ L named
    → None ≡ first_broken (order_rules o (taking s.moment named.number (extras_count named.extras)))
    → held_line o named.number ≡ Some line
    → first_broken (asked_rules p s.moment (option_map line_step (taken_of named.extras line))) ≡ kept_broken p.header o p.world s
placed_line p o s named line is none found =
    subst (λ (label : Label NamedLine). first_broken (asked_rules p s.moment (option_map line_step (taken_of named.extras line)))
    ≡ kept_broken p.header o p.world (record s { label = label }))
    (sym is)
    (acts ∙ sym (first_broken-append_none (order_rules o (taking s.moment named.number (extras_count named.extras)))
    (option_map_or (act_rules p.header p.world) (held_act o (record s { label = L named })) []) (sym none)))
  where
    by : (taken : Option TakenLine)
        → first_broken (asked_rules p s.moment (option_map line_step taken))
        ≡ first_broken (option_map_or (act_rules p.header p.world)
        (option_map (λ (step : StepOf tcp_shape). record { moment = s.moment; step = step })
        (option_map step_of (with_line (λ (n : NamedLine). taken) (L named)))) [])
    by None = refl
    by (Some taken) = refl

    acts : first_broken (asked_rules p s.moment (option_map line_step (taken_of named.extras line)))
        ≡ first_broken (option_map_or (act_rules p.header p.world) (held_act o (record s { label = L named })) [])
    acts = rw found (by (taken_of named.extras line))
