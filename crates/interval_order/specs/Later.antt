-- Lines after those that were offered.
use Rattle.case_forms.specs.declared.trace.Header.{Header}
use Rattle.std.specs.Prelude.{◌≡◌, ◌≤◌, ◌<◌, ℕ, ◌+◌, Bool, false, not, ◌&&◌, nat_le, ◌||◌, ◌==◌, if◌then◌else◌, List}
use Rattle.std.specs.Prelude.{◌++◌, length}
use Rattle.std.specs.List.{AllByRecursion, enumerate_from, list_any}
use Rattle.case_forms.specs.declared.trace.Line.{Line}
use Rattle.verdict.specs.declared.rule.Rule.{Rule}
use Rattle.verdict.specs.declared.rule.Rule.TheVariants.{LineRange, ThreadOrder, MomentFalls, MomentOff}
use Rattle.interval_order.specs.Orders.{Move, Order, is_placed}
use Rattle.interval_order.specs.OrderRules.{extras_of, moment_falls}

-- no step uses a line from this number on
abbrev pub TakesBelow : ℕ → List Move → Type 0
TakesBelow next moves = (n : ℕ) → next ≤ n → is_placed moves n ≡ false

-- the moments of all these lines are later
abbrev pub AreLater : ℕ → List Line → Type 0
AreLater moment lines = AllByRecursion (λ line. moment < line.moment) lines

-- with these lines at the end
abbrev pub with_lines : Order → List Line → Order
with_lines o more = record o { next = o.next + length more; held = o.held ++ enumerate_from o.next more }

-- a line of this thread is not placed
abbrev pub waits : Order → ℕ → Bool
waits o thread = list_any (λ e. e.1.thread == thread) o.held

-- one of these lines is of this thread
abbrev pub is_among : ℕ → List Line → Bool
is_among thread lines = list_any (λ line. line.thread == thread) lines

-- the lowest-numbered rule broken by a step that uses a line of a later moment, given whether an earlier line of its
-- thread isn't offered yet either
abbrev pub late_by : Order → Bool → Line → ℕ → ℕ → Rule
late_by o behind line extras moment =
    if not (extras == extras_of o.header.version line.event) then LineRange
    else if waits o line.thread || behind then ThreadOrder
    else if moment_falls o moment then MomentFalls
    else MomentOff

-- the same, if these lines are between those that were offered and that line
abbrev pub late_rule : Order → List Line → Line → ℕ → ℕ → Rule
late_rule o between line extras moment = late_by o (is_among line.thread between) line extras moment

-- the line's moment is not later than that one, nor earlier by more than the skew
abbrev pub IsTimed : Header → ℕ → Line → Type 0
IsTimed header moment line = (line.moment ≤ moment) × (moment ≤ line.moment + header.skew)

-- the line may be used at that moment, or at an earlier one within its time
abbrev pub is_current : Header → ℕ → Line → Bool
is_current header moment line = nat_le line.moment moment && nat_le moment (line.moment + header.skew)
