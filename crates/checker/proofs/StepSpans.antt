-- Witnesses that are the same but for the places of their steps have one verdict.
use Rattle.std.proofs.Common.{◌≡◌, ◌+◌, ℕ, Bool, not, List, [], ◌∷◌, ◌++◌, map, refl, sym, ap, ◌∙◌, Option, Some, None}
use Rattle.std.specs.Prelude.{if◌then◌else◌}
use Rattle.std.specs.List.{count_by, fold}
use Rattle.std.specs.Option.{option_map_or}
use Rattle.std.proofs.lemmas.List.{length-map, map-append}
use Rattle.case_forms.specs.declared.trace.Header.{Header}
use Rattle.case_forms.specs.declared.trace.Line.{Line}
use Rattle.case_forms.specs.declared.trace.Trace.{Trace}
use Rattle.case_forms.specs.declared.named_line.NamedLine.{NamedLine}
use Rattle.case_forms.specs.declared.steps.Label.{Label}
use Rattle.case_forms.specs.declared.steps.Step.{Step}
use Rattle.case_forms.specs.declared.steps.Witness.{Witness}
use Rattle.witness.specs.Printed.{without_span}
use Rattle.verdict.specs.declared.rule.Rule.{Rule}
use Rattle.verdict.specs.declared.report.Verdict.{Verdict}
use Rattle.verdict.specs.Rules.{first_broken}
use Rattle.interval_order.specs.Orders.{last_moment, Move, order_of, unplaced}
use Rattle.interval_order.specs.OrderRules.{order_rules}
use Rattle.spec_cases.specs.Cases.{late_at_end, Known, first_known}
use Rattle.checker.specs.Seen.{move_of, moves, act_of}
use Rattle.checker.specs.Verdicts.{act_rules, broken, next_world, takes_line, late_after, verdict, verdict_from, verdict_left, refused_or}
use Rattle.checker.specs.Again.{nowhere}

abbrev bare : Step → Step
bare s = record s { span = nowhere }

moves_bare : (steps : List Step) → moves (map bare steps) ≡ moves steps
moves_bare [] = refl
moves_bare (s ∷ steps) = ap (λ (ms : List Move). move_of s ∷ ms) (moves_bare steps)

count_from : (test : Label NamedLine → Bool) (n : ℕ) (steps : List Step)
    → fold (λ a s. a + (if test s.label then 1 else 0)) n (map bare steps)
    ≡ fold (λ a s. a + (if test s.label then 1 else 0)) n steps
count_from test n [] = refl
count_from test n (s ∷ steps) = count_from test (n + (if test s.label then 1 else 0)) steps

count_bare : (test : Label NamedLine → Bool) (steps : List Step) → count_by (λ s. test s.label) (map bare steps) ≡ count_by (λ s. test s.label) steps
count_bare test steps = count_from test 0 steps

left_bare : (left : List (ℕ × Line)) (late : Option (ℕ × Rule)) (steps : List Step)
    → verdict_left left late (map bare steps) ≡ verdict_left left late steps
left_bare [] None steps = rw (count_bare takes_line steps, count_bare (λ label. not (takes_line label)) steps) refl
left_bare [] (Some late) steps = refl
left_bare (e ∷ left) late steps = refl

refused_bare : (rule : Option Rule) (earlier : List Step) (s : Step) (rest : Verdict)
    → refused_or rule (map bare earlier) (bare s) rest ≡ refused_or rule earlier s rest
refused_bare None earlier s rest = refl
refused_bare (Some rule) earlier s rest = rw (length-map earlier bare) refl

verdict_bare : (header : Header) (lines : List Line) (earlier : List Step) (w : Known) (steps : List Step)
    → verdict_from header lines (map bare earlier) w (map bare steps) ≡ verdict_from header lines earlier w steps
verdict_bare header lines earlier w [] =
    ap (λ (ms : List Move). verdict_left (unplaced header lines ms) (late_at_end header (last_moment ms) w) (map bare earlier)) (moves_bare earlier)
    ∙ left_bare (unplaced header lines (moves earlier)) (late_after header earlier w) earlier
verdict_bare header lines earlier w (s ∷ steps) =
    ap (λ (ms : List Move). refused_or
    (first_broken (order_rules (order_of header lines ms) (move_of s)
    ++ option_map_or (act_rules header w) (act_of header lines (bare s)) [])) (map bare earlier) (bare s)
    (verdict_from header lines (map bare earlier ++ bare s ∷ []) (next_world header lines w (bare s))
    (map bare steps))) (moves_bare earlier)
    ∙ acts s.label
    ∙ refused_bare (broken header lines earlier w s) earlier s
    (verdict_from header lines (map bare earlier ++ bare s ∷ []) (next_world header lines w s) (map bare steps))
    ∙ ap (λ (es : List Step). refused_or (broken header lines earlier w s) earlier s
    (verdict_from header lines es (next_world header lines w s) (map bare steps)))
    (sym (map-append bare earlier (s ∷ [])))
    ∙ ap (λ (v : Verdict). refused_or (broken header lines earlier w s) earlier s v)
    (verdict_bare header lines (earlier ++ s ∷ []) (next_world header lines w s) steps)
  where
    acts : (label : Label NamedLine)
        → refused_or (first_broken (order_rules (order_of header lines (moves earlier)) (move_of s)
        ++ option_map_or (act_rules header w) (act_of header lines (bare s)) [])) (map bare earlier) (bare s)
        (verdict_from header lines (map bare earlier ++ bare s ∷ []) (next_world header lines w (bare s))
        (map bare steps))
        ≡ refused_or (broken header lines earlier w s) (map bare earlier) (bare s)
        (verdict_from header lines (map bare earlier ++ bare s ∷ []) (next_world header lines w s)
        (map bare steps))
    acts label = refl

abbrev said_step : ℕ × Label NamedLine → Step
said_step said = record { moment = said.0; label = said.1; span = nowhere }

bare_said : (steps : List Step) → map bare steps ≡ map said_step (map without_span steps)
bare_said [] = refl
bare_said (s ∷ steps) = ap (λ (ss : List Step). bare s ∷ ss) (bare_said steps)

-- witnesses that are the same but for the places of their steps have one verdict
pub steps_apart : (t : Trace) (v w : Witness) → map without_span v.steps ≡ map without_span w.steps → verdict t v ≡ verdict t w
steps_apart t v w same =
    sym (verdict_bare t.header t.lines [] (first_known t.header) v.steps)
    ∙ ap (λ (steps : List Step). verdict_from t.header t.lines [] (first_known t.header) steps)
    (bare_said v.steps ∙ ap (λ (said : List (ℕ × Label NamedLine)). map said_step said) same
    ∙ sym (bare_said w.steps))
    ∙ verdict_bare t.header t.lines [] (first_known t.header) w.steps
