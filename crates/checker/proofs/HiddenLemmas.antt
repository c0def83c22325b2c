-- A hidden step: what its label is to the order of lines and to the model.
use Rattle.std.proofs.Common.{◌≡◌, ℕ, [], ◌++◌, refl, sym, ap, ◌∙◌, Option, Some, None}
use Rattle.std.specs.Option.{option_map, option_map_or}
use Rattle.std.proofs.lemmas.Option.{none-some}
use Rattle.case_forms.specs.declared.trace.Header.{Header}
use Rattle.case_forms.specs.declared.trace.Line.{Line}
use Rattle.case_forms.specs.declared.named_line.NamedLine.{NamedLine}
use Rattle.case_forms.specs.declared.steps.Label.{Label}
use Rattle.case_forms.specs.declared.steps.Label.TheVariants.{L, D, M, T, K, R, F}
use Rattle.case_forms.specs.declared.steps.Step.{Step}
use Rattle.verdict.specs.Rules.{first_broken}
use Rattle.interval_order.specs.Orders.{Order, Take, held_line, passing}
use Rattle.interval_order.specs.OrderRules.{order_rules}
use Rattle.spec_network.specs.Hosts.{Stamped, Step as StepOf}
use Rattle.spec_tcp.specs.Machine.{tcp_shape}
use Rattle.spec_tcp.specs.Steps.{hidden_step, label_step}
use Rattle.spec_cases.specs.Cases.{Known, Watched as Progress, after, case_rules}
use Rattle.checker.specs.Seen.{move_of, take_of}
use Rattle.checker.specs.Verdicts.{act_rules}
use Rattle.checker.specs.Kept.{held_act, kept_broken, kept_progress}

-- it takes no line, and is the same step whatever lines there are
hidden_label : (label : Label NamedLine) (step : StepOf tcp_shape) → hidden_step label ≡ Some step
    → (take_of label ≡ None) × ((find : ℕ → Option Line) → label_step find label ≡ Some step)
hidden_label (L named) step is = absurd (none-some step is)
hidden_label (D thread answer) step is = (refl, λ find. is)
hidden_label (M host plan) step is = (refl, λ find. is)
hidden_label (T host line choice) step is = (refl, λ find. is)
hidden_label (K host line) step is = (refl, λ find. is)
hidden_label (R host line) step is = (refl, λ find. is)
hidden_label (F host recovery) step is = (refl, λ find. is)

abbrev at_moment : ℕ → StepOf tcp_shape → Stamped tcp_shape
at_moment moment step = record { moment = moment; step = step }

hidden_act : (o : Order) (s : Step) (step : StepOf tcp_shape) → hidden_step s.label ≡ Some step → held_act o s ≡ Some (at_moment s.moment step)
hidden_act o s step is = ap (λ (asked : Option (StepOf tcp_shape)). option_map (at_moment s.moment) asked) ((hidden_label s.label step is).1 (held_line o))

pub hidden_move : (s : Step) (step : StepOf tcp_shape) → hidden_step s.label ≡ Some step → passing s.moment ≡ move_of s
hidden_move s step is = sym (ap (λ (take : Option Take). record { moment = s.moment; take = take }) (hidden_label s.label step is).0)

pub hidden_broken : (header : Header) (o : Order) (w : Known) (s : Step) (step : StepOf tcp_shape) → hidden_step s.label ≡ Some step
    → first_broken (order_rules o (passing s.moment) ++ case_rules header s.moment w step) ≡ kept_broken header o w s
hidden_broken header o w s step is =
    ap (λ (act : Option (Stamped tcp_shape)). first_broken (order_rules o (passing s.moment) ++ option_map_or (act_rules header w) act []))
    (sym (hidden_act o s step is))
    ∙ ap (λ move. first_broken (order_rules o move ++ option_map_or (act_rules header w) (held_act o s) [])) (hidden_move s step is)

pub hidden_next : (o : Order) (p : Progress) (s : Step) (step : StepOf tcp_shape) → hidden_step s.label ≡ Some step
    → after p s.moment step ≡ kept_progress o p s
hidden_next o p s step is =
    ap (λ (act : Option (Stamped tcp_shape)). option_map_or (λ (act : Stamped tcp_shape). after p act.moment act.step) act p) (sym (hidden_act o s step is))
