-- What each verdict says about the whole lists: yes, that the steps explain the trace; no, which rule is broken first.
use Rattle.std.specs.Prelude.{◌≡◌, ℕ, ◌+◌, ◌<◌, ◌⊎◌, Bool, List, [], Option, None, Some, slice_get, take, not, count_by}
use Rattle.case_forms.specs.declared.trace.Line.{Line}
use Rattle.case_forms.specs.declared.trace.Trace.{Trace}
use Rattle.case_forms.specs.declared.steps.Step.{Step}
use Rattle.case_forms.specs.declared.steps.Witness.{Witness}
use Rattle.verdict.specs.declared.rule.Rule.{Rule}
use Rattle.verdict.specs.declared.rule.Rule.TheVariants.{Unplaced}
use Rattle.verdict.specs.declared.report.Verdict.{Verdict}
use Rattle.verdict.specs.declared.report.Verdict.TheVariants.{Yes, No}
use Rattle.interval_order.specs.Orders.{unplaced}
use Rattle.verdict.specs.Rules.{first_broken}
use Rattle.spec_cases.specs.Cases.{first_known, known_after_all}
use Rattle.spec_tcp_laws.specs.Ascending.{IsLeastBroken}
use Rattle.checker.specs.Seen.{moves, stamped}
use Rattle.checker.specs.Verdicts.{all_rules, late_after, takes_line, line_named}
use Rattle.checker.specs.Explains.{Explains}

-- the rules that apply to the step at a place, after the steps before it and in the world that they leave
abbrev pub rules_at : Trace → Witness → ℕ → Step → List (Rule × Bool)
rules_at t w place s =
    all_rules t.header t.lines (take place w.steps)
    (known_after_all t.header (first_known t.header) (stamped t.header t.lines (take place w.steps))) s

-- the first of them that it breaks
abbrev pub broken_at : Trace → Witness → ℕ → Step → Option Rule
broken_at t w place s = first_broken (rules_at t w place s)

-- the step at that place is the first that breaks a rule; it breaks this one and no lesser one, and names this line
pub record BreaksFirst (t : Trace) (w : Witness) (place line : ℕ) (rule : Rule) : Type 0 where
  pub step : Step
  pub here : slice_get w.steps place ≡ Some step
  pub breaks : broken_at t w place step ≡ Some rule
  pub least : IsLeastBroken (rules_at t w place step) rule
  pub names : line ≡ line_named step.label
  pub before : (i : ℕ) (s : Step) → i < place → slice_get w.steps i ≡ Some s → broken_at t w i s ≡ None

-- no step breaks a rule, and this is the first line that none of them takes
pub record LeavesLine (t : Trace) (w : Witness) (number : ℕ) : Type 0 where
  pub line : Line
  pub left : slice_get (unplaced t.header t.lines (moves w.steps)) 0 ≡ Some (number, line)
  pub before : (i : ℕ) (s : Step) → slice_get w.steps i ≡ Some s → broken_at t w i s ≡ None

-- no step breaks a rule and each line is taken, but by the moment of the last step a duty is late: this is the least
-- rule of such a duty, with the line of the segment that waits, else 0
pub record OwesAtEnd (t : Trace) (w : Witness) (line : ℕ) (rule : Rule) : Type 0 where
  pub placed : unplaced t.header t.lines (moves w.steps) ≡ []
  pub late : late_after t.header w.steps
      (known_after_all t.header (first_known t.header) (stamped t.header t.lines w.steps)) ≡ Some (line, rule)
  pub before : (i : ℕ) (s : Step) → slice_get w.steps i ≡ Some s → broken_at t w i s ≡ None

-- a yes counts the steps that take lines and the hidden ones
pub record Counts (w : Witness) (lines hidden : ℕ) : Type 0 where
  pub lines_are : lines ≡ count_by (λ s. takes_line s.label) w.steps
  pub hidden_are : hidden ≡ count_by (λ s. not (takes_line s.label)) w.steps

-- what a verdict says; the step at place i is in line i + 2 of the witness
abbrev pub Says : Trace → Witness → Verdict → Type 0
Says t w (Yes lines hidden) = Explains t w × Counts w lines hidden
Says t w (No witness_line trace_line rule) =
    ((witness_line ≡ 0) × (rule ≡ Unplaced) × LeavesLine t w trace_line)
    ⊎ ((witness_line ≡ 0) × OwesAtEnd t w trace_line rule)
    ⊎ ((place : ℕ) × (witness_line ≡ place + 2) × BreaksFirst t w place trace_line rule)
