-- The step of the model for a line of a trace or a label of a witness; and the first step of a list that breaks a rule.
use Rattle.std.specs.Prelude.{ℕ, suc, List, [], ◌∷◌, Option, None, Some}
use Rattle.std.specs.Option.{option_map, option_map_or}
use Rattle.case_forms.specs.Naming.{with_line}
use Rattle.case_forms.specs.TakenLines.{taken_of}
use Rattle.case_forms.specs.Traces.{line_at}
use Rattle.case_forms.specs.declared.named_line.NamedLine.{NamedLine}
use Rattle.case_forms.specs.declared.steps.Label.{Label}
use Rattle.case_forms.specs.declared.steps.Label.TheVariants as labels
use Rattle.case_forms.specs.declared.steps.Step as witness
use Rattle.case_forms.specs.declared.taken_line.TakenLine.{TakenLine}
use Rattle.case_forms.specs.declared.taken_line.TakenLine.TheVariants as taken
use Rattle.case_forms.specs.declared.trace.Header.{Header}
use Rattle.case_forms.specs.declared.trace.Line as lines
use Rattle.verdict.specs.Rules.{first_broken}
use Rattle.verdict.specs.declared.rule.Rule.{Rule}
use Rattle.spec_network.specs.HostRules.{step_rules}
use Rattle.spec_network.specs.HostSteps.{after, start}
use Rattle.spec_network.specs.Hosts.{Answers, At, Begin, Does, Drops, Effect, Expires, Finish, Gets, Hears, Makes}
use Rattle.spec_network.specs.Hosts.{Sends, Step, Takes, World}
use Rattle.spec_tcp.specs.Machine.{tcp_shape, tcp}

-- a line's step
abbrev pub line_step : TakenLine → Step tcp_shape
line_step (taken.CallBegin line thread call) = Begin line thread call
line_step (taken.CallEnd line thread answer) = Finish line thread answer
line_step (taken.Sent line host made wire) = At host (Sends line made wire)
line_step (taken.Came line host copied wire) = At host (Gets line copied wire)
line_step (taken.Heard line host wire) = At host (Hears line wire)
line_step (taken.Expired line host ports e) =
    At host (Expires line (record { lport = ports.lport; rport = ports.rport; expired = e }))

-- a label's step
abbrev pub step_of : Label TakenLine → Step tcp_shape
step_of (labels.L line) = line_step line
step_of (labels.D thread answer) = Effect thread answer
step_of (labels.M host plan) = At host (Makes plan)
step_of (labels.T host line choice) = At host (Takes line choice)
step_of (labels.K host line) = At host (Drops line)
step_of (labels.R host line) = At host (Answers line)
step_of (labels.F host recovery) = At host (Does recovery)

-- the line with a number, with the extra numbers of a step: none if a line of its kind needs another count of them
abbrev pub line_found : (ℕ → Option lines.Line) → NamedLine → Option TakenLine
line_found find named = option_map_or (taken_of named.extras) (find named.number) None

-- the step of a label that names its line: none if that line doesn't exist
abbrev pub label_step : (ℕ → Option lines.Line) → Label NamedLine → Option (Step tcp_shape)
label_step find label = option_map step_of (with_line (line_found find) label)

-- the step of a label that uses no line
abbrev pub hidden_step : {A : Type 0} → Label A → Option (Step tcp_shape)
hidden_step label = option_map step_of (with_line (λ line. None) label)

-- the rule that a witness's step breaks, if any
abbrev pub rule_broken : Header → List lines.Line → World tcp_shape → witness.Step → Option Rule
rule_broken h all w s =
    option_map_or (λ step. first_broken (step_rules (tcp h) s.moment w step)) (label_step (line_at h all) s.label) None

-- the world after it
abbrev pub world_after : Header → List lines.Line → World tcp_shape → witness.Step → World tcp_shape
world_after h all w s = option_map_or (λ step. after (tcp h) s.moment w step) (label_step (line_at h all) s.label) w

-- the line of the witness at which the first rule of the model is broken, with the rule; the first step is in line 2
abbrev pub broken_from : Header → List lines.Line → World tcp_shape → ℕ → List witness.Step → Option (ℕ × Rule)
broken_from h all w place [] = None
broken_from h all w place (s ∷ steps) =
    option_map_or (λ rule. Some (place, rule)) (rule_broken h all w s)
    (broken_from h all (world_after h all w s) (suc place) steps)

abbrev pub first_broken_step : Header → List lines.Line → List witness.Step → Option (ℕ × Rule)
first_broken_step h all steps = broken_from h all (start (tcp h)) 2 steps
