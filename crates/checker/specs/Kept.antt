-- The rules of a step, checked on what is kept: the lines that aren't placed, and the world with whatever may be
-- discarded discarded.
use Rattle.std.specs.Prelude.{[], ◌++◌, Option}
use Rattle.std.specs.Option.{option_map_or}
use Rattle.case_forms.specs.declared.trace.Header.{Header}
use Rattle.case_forms.specs.declared.steps.Step.{Step}
use Rattle.verdict.specs.declared.rule.Rule.{Rule}
use Rattle.verdict.specs.Rules.{first_broken}
use Rattle.spec_network.specs.Hosts.{Stamped}
use Rattle.spec_tcp.specs.Machine.{tcp_shape}
use Rattle.interval_order.specs.Orders.{Order, held_line}
use Rattle.interval_order.specs.OrderRules.{order_rules}
use Rattle.spec_cases.specs.Cases.{Known, Watched as Progress, after}
use Rattle.checker.specs.Seen.{act_by, move_of}
use Rattle.checker.specs.Verdicts.{act_rules}

-- what a step does in the model, with its line looked up among those that aren't placed
abbrev pub held_act : Order → Step → Option (Stamped tcp_shape)
held_act o s = act_by (held_line o) s

-- the least rule that it breaks
abbrev pub kept_broken : Header → Order → Known → Step → Option Rule
kept_broken header o w s =
    first_broken (order_rules o (move_of s) ++ option_map_or (act_rules header w) (held_act o s) [])

-- the state of the case after it
abbrev pub kept_progress : Order → Progress → Step → Progress
kept_progress o p s = option_map_or (λ act. after p act.moment act.step) (held_act o s) p
