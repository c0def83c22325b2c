-- What a step does to the world: its rules, and the world after it.
use Rattle.std.specs.Prelude.{ℕ, Bool, List, [], Option}
use Rattle.std.specs.Option.{option_map, option_map_or}
use Rattle.case_forms.specs.TakenLines.{taken_of}
use Rattle.case_forms.specs.declared.named_line.Extras.{Extras}
use Rattle.case_forms.specs.declared.trace.Line.{Line}
use Rattle.verdict.specs.declared.rule.Rule.{Rule}
use Rattle.verdict.specs.Rules.{first_broken}
use Rattle.spec_network.specs.Hosts.{Step}
use Rattle.spec_network.specs.HostRules.{step_rules}
use Rattle.spec_tcp.specs.Machine.{tcp, tcp_shape}
use Rattle.spec_tcp.specs.Steps.{line_step}
use Rattle.endpoint_state.specs.Worlds.{Progress, after}

-- the least rule that a step breaks
abbrev pub broken_by : Progress → ℕ → Step tcp_shape → Option Rule
broken_by p moment step = first_broken (step_rules (tcp p.header) moment p.world step)

-- the rules of a step, if there is one; else none is broken
abbrev pub asked_rules : Progress → ℕ → Option (Step tcp_shape) → List (Rule × Bool)
asked_rules p moment asked = option_map_or (step_rules (tcp p.header) moment p.world) asked []

-- the state of the case after it; without a step the world stays as it is
abbrev pub asked_after : Progress → ℕ → Option (Step tcp_shape) → Progress
asked_after p moment asked = option_map_or (after p moment) asked p

-- the step that takes a line with these extra numbers; none if a line of its kind needs another count of them
abbrev pub step_taking : Extras → Line → Option (Step tcp_shape)
step_taking extras line = option_map line_step (taken_of extras line)
