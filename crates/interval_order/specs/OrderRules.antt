-- When a step breaks a rule of the order of lines.
use Rattle.std.specs.Prelude.{ℕ, ◌+◌, Bool, false, not, ◌&&◌, ◌||◌, ◌==◌, nat_lt, if◌then◌else◌, List, [], ◌∷◌, Option}
use Rattle.std.specs.Prelude.{None, Some, is_none}
use Rattle.std.specs.List.{list_any, find}
use Rattle.std.specs.Option.{option_map, option_map_or}
use Rattle.case_forms.specs.declared.trace.Event.{Event}
use Rattle.case_forms.specs.declared.trace.Event.TheVariants.{CallBegin, CallEnd, Sent, Came, Expired}
use Rattle.case_forms.specs.declared.trace.Line.{Line}
use Rattle.case_forms.specs.declared.version.Version.{Version}
use Rattle.case_forms.specs.declared.timer.Timer.TheVariants.{Rto}
use Rattle.case_forms.specs.Versions.{is_half}
use Rattle.verdict.specs.declared.rule.Rule.{Rule}
use Rattle.verdict.specs.declared.rule.Rule.TheVariants.{LineRange, LineAgain, ThreadOrder, MomentFalls, MomentOff}
use Rattle.verdict.specs.declared.rule.Rule.TheVariants.{Overdue}
use Rattle.interval_order.specs.Orders.{Take, Move, Order, held_line, is_offered}

-- how many extra numbers follow the number of a line of this kind: one for a segment sent, that of the built segment;
-- one for a segment that arrives, that of its O line, which a half case doesn't have; two for a retransmission timeout
abbrev pub extras_of : Version → Event → ℕ
extras_of v (CallBegin call) = 0
extras_of v (CallEnd answer) = 0
extras_of v (Sent host wire) = 1
extras_of v (Came host wire) = if is_half v then 0 else 1
extras_of v (Expired host local remote Rto) = 2
extras_of v (Expired host local remote _) = 0

-- it names no event line, or an unplaced one with another count of extra numbers than its kind needs
abbrev pub line_range : Order → Option Take → Bool
line_range o None = false
line_range o (Some t) =
    not (is_offered o t.number)
    || option_map_or (λ line. not (t.extras == extras_of o.header.version line.event)) (held_line o t.number) false

-- that line was placed
abbrev pub line_again : Order → Option Take → Bool
line_again o None = false
line_again o (Some t) = is_offered o t.number && is_none (held_line o t.number)

-- a line of the thread before line n is not placed
abbrev pub has_earlier : Order → ℕ → ℕ → Bool
has_earlier o n thread = list_any (λ e. nat_lt e.0 n && e.1.thread == thread) o.held

-- an earlier line of its thread is not placed
abbrev pub thread_order : Order → Option Take → Bool
thread_order o None = false
thread_order o (Some t) = option_map_or (λ line. has_earlier o t.number line.thread) (held_line o t.number) false

-- the step's moment is before that of the step before
abbrev pub moment_falls : Order → ℕ → Bool
moment_falls o moment = nat_lt moment o.last

-- the step's moment is before its line's, or after it by more than the skew
abbrev pub moment_off : Order → ℕ → Option Take → Bool
moment_off o moment None = false
moment_off o moment (Some t) =
    option_map_or (λ line. nat_lt moment line.moment || nat_lt (line.moment + o.header.skew) moment)
    (held_line o t.number) false

-- a line may not wait until this moment
abbrev pub is_overdue : Order → ℕ → ℕ × Line → Bool
is_overdue o moment e = nat_lt (e.1.moment + o.header.skew) moment

-- some line that is not placed may not wait until this moment
abbrev pub has_overdue : Order → ℕ → Bool
has_overdue o moment = list_any (is_overdue o moment) o.held

-- the number of the first such line
abbrev pub first_overdue : Order → ℕ → Option ℕ
first_overdue o moment = option_map (λ e. e.0) (find (is_overdue o moment) o.held)

-- each rule of order, lowest-numbered first, with whether the step breaks it
abbrev pub order_rules : Order → Move → List (Rule × Bool)
order_rules o move =
    (LineRange, line_range o move.take) ∷ (LineAgain, line_again o move.take) ∷ (ThreadOrder, thread_order o move.take)
    ∷ (MomentFalls, moment_falls o move.moment) ∷ (MomentOff, moment_off o move.moment move.take)
    ∷ (Overdue, has_overdue o move.moment) ∷ []
