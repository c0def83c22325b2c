-- The verdict: the first step that breaks a rule, with the least rule that it breaks; if none does, the first line that
-- isn't placed; else yes.
use Rattle.std.specs.Prelude.{ℕ, ◌+◌, Bool, true, false, not, List, [], ◌∷◌, ◌++◌, length, Option, None, Some, count_by}
use Rattle.std.specs.Option.{option_map_or}
use Rattle.case_forms.specs.declared.trace.Header.{Header}
use Rattle.case_forms.specs.declared.trace.Line.{Line}
use Rattle.case_forms.specs.declared.trace.Trace.{Trace}
use Rattle.case_forms.specs.declared.named_line.NamedLine.{NamedLine}
use Rattle.case_forms.specs.declared.steps.Label.{Label}
use Rattle.case_forms.specs.declared.steps.Label.TheVariants as labels
use Rattle.case_forms.specs.declared.steps.Step.{Step}
use Rattle.case_forms.specs.declared.steps.Witness.{Witness}
use Rattle.verdict.specs.declared.rule.Rule.{Rule}
use Rattle.verdict.specs.declared.rule.Rule.TheVariants.{Unplaced}
use Rattle.verdict.specs.declared.report.Verdict.{Verdict}
use Rattle.verdict.specs.declared.report.Verdict.TheVariants.{Yes, No}
use Rattle.verdict.specs.Rules.{first_broken}
use Rattle.interval_order.specs.Orders.{last_moment, unplaced, order_of}
use Rattle.interval_order.specs.OrderRules.{order_rules}
use Rattle.spec_network.specs.Hosts.{Stamped}
use Rattle.spec_tcp.specs.Machine.{tcp_shape}
use Rattle.spec_cases.specs.Cases.{Known, case_rules, known_after, first_known, late_at_end}
use Rattle.checker.specs.Seen.{move_of, moves, act_of}

-- the model's rules of a step, and the whole world after it
abbrev pub act_rules : Header → Known → Stamped tcp_shape → List (Rule × Bool)
act_rules header w act = case_rules header act.moment w act.step

abbrev pub act_after : Header → Known → Stamped tcp_shape → Known
act_after header w act = known_after header act.moment w act.step

-- all rules of a step, after these earlier ones and in the world that they leave: those of order, then those of the
-- model
abbrev pub all_rules : Header → List Line → List Step → Known → Step → List (Rule × Bool)
all_rules header lines earlier w s =
    order_rules (order_of header lines (moves earlier)) (move_of s)
    ++ option_map_or (act_rules header w) (act_of header lines s) []

-- the least rule that the step breaks
abbrev pub broken : Header → List Line → List Step → Known → Step → Option Rule
broken header lines earlier w s = first_broken (all_rules header lines earlier w s)

abbrev pub next_world : Header → List Line → Known → Step → Known
next_world header lines w s = option_map_or (act_after header w) (act_of header lines s) w

-- whether a step takes a line; else it is hidden
abbrev pub takes_line : Label NamedLine → Bool
takes_line (labels.L line) = true
takes_line _ = false

-- the line that a label names, 0 for a hidden step
abbrev pub line_named : Label NamedLine → ℕ
line_named (labels.L line) = line.number
line_named _ = 0

-- no step broke a rule: the least line that is not placed; else the least rule of a duty that is late at the end, with
-- its line; else yes with both counts
abbrev pub verdict_left : List (ℕ × Line) → (late : Option (ℕ × Rule)) → List Step → Verdict
verdict_left [] None steps =
    Yes (count_by (λ s. takes_line s.label) steps) (count_by (λ s. not (takes_line s.label)) steps)
verdict_left [] (Some late) steps = No 0 late.0 late.1
verdict_left (e ∷ left) late steps = No 0 e.0 Unplaced

-- what is late after these steps, by the moment of the last of them
abbrev pub late_after : Header → List Step → Known → Option (ℕ × Rule)
late_after header steps w = late_at_end header (last_moment (moves steps)) w

-- no with the rule that a step broke and the step's line in the witness, whose first line is 1; or else the verdict on
-- what follows
abbrev pub refused_or : Option Rule → List Step → Step → Verdict → Verdict
refused_or None earlier s rest = rest
refused_or (Some rule) earlier s rest = No (length earlier + 2) (line_named s.label) rule

-- the verdict on the steps that are left
abbrev pub verdict_from : Header → List Line → List Step → Known → List Step → Verdict
verdict_from header lines earlier w [] =
    verdict_left (unplaced header lines (moves earlier)) (late_after header earlier w) earlier
verdict_from header lines earlier w (s ∷ steps) =
    refused_or (broken header lines earlier w s) earlier s (verdict_from header lines (earlier ++ s
    ∷ []) (next_world header lines w s) steps)

-- the verdict on a witness for a trace
abbrev pub verdict : Trace → Witness → Verdict
verdict t w = verdict_from t.header t.lines [] (first_known t.header) w.steps
