-- The rules of a step are in the order of their numbers, so the first broken rule is the lowest-numbered one.
use Rattle.std.specs.Prelude.{◌≡◌, ℕ, ◌≤◌, Bool, true, ◌&&◌, nat_le, List, [], ◌∷◌, All}
use Rattle.case_forms.specs.declared.trace.Header.{Header}
use Rattle.verdict.specs.declared.rule.Rule.{Rule}
pub use Rattle.verdict.specs.Rules.{rule_number}
use Rattle.spec_network.specs.Hosts.{World, Step}
use Rattle.spec_network.specs.HostRules.{step_rules}
use Rattle.spec_tcp.specs.Machine.{tcp, tcp_shape}

-- the numbers of these rules don't fall, and none is below that one
abbrev pub ascend : ℕ → List (Rule × Bool) → Bool
ascend low [] = true
ascend low (rule ∷ rules) = nat_le low (rule_number rule.0) && ascend (rule_number rule.0) rules

-- of the rules in a list, this is the lowest broken one: each other broken rule has its number or a greater one
abbrev pub IsLeastBroken : List (Rule × Bool) → Rule → Type 0
IsLeastBroken rules least = All (λ r. r.1 ≡ true → rule_number least ≤ rule_number r.0) rules

-- the model's rules of each step ascend, after the six of order
abbrev pub RulesAscend : Type 0
RulesAscend =
    (h : Header) (moment : ℕ) (w : World tcp_shape) (step : Step tcp_shape)
    → ascend 6 (step_rules (tcp h) moment w step) ≡ true
