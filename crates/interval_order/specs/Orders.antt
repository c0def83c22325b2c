-- Which lines of a trace are placed after some steps of a witness, and when the last step was.
use Rattle.std.specs.Prelude.{ℕ, ◌+◌, Bool, false, not, ◌&&◌, ◌==◌, nat_lt, nat_le, nat_eq, length, List, [], ◌∷◌, ◌++◌}
use Rattle.std.specs.Prelude.{Option, None, Some, filter}
use Rattle.std.specs.List.{list_any}
use Rattle.std.specs.Map.{lookup}
use Rattle.std.specs.Option.{option_map_or}
use Rattle.case_forms.specs.declared.trace.Header.{Header}
use Rattle.case_forms.specs.declared.trace.Line.{Line}
use Rattle.case_forms.specs.Traces.{first_event_line, numbered}

-- the line that a step uses: its number, and how many extra numbers follow it
pub record Take : Type 0 where
  pub number : ℕ
  pub extras : ℕ

-- a step as the order of lines sees it: its moment, and the line it uses, which is none for a hidden step
pub record Move : Type 0 where
  pub moment : ℕ
  pub take : Option Take

-- a step that uses a line
abbrev pub taking : ℕ → ℕ → ℕ → Move
taking moment number extras = record { moment = moment; take = Some (record { number = number; extras = extras }) }

-- a hidden step
abbrev pub passing : ℕ → Move
passing moment = record { moment = moment; take = None }

-- whether the step uses the line of that number
abbrev pub takes : ℕ → Move → Bool
takes n move = option_map_or (λ t. t.number == n) move.take false

-- whether one of the steps uses it
abbrev pub is_placed : List Move → ℕ → Bool
is_placed moves n = list_any (takes n) moves

-- the lines that none of the steps uses, each with its number
abbrev pub unplaced : Header → List Line → List Move → List (ℕ × Line)
unplaced header lines moves = filter (λ e. not (is_placed moves e.0)) (numbered header lines)

-- the moment of the last step, 0 before the first
abbrev pub last_moment : List Move → ℕ
last_moment [] = 0
last_moment (s ∷ []) = s.moment
last_moment (s ∷ t ∷ moves) = last_moment (t ∷ moves)

-- The state that the rules of order depend on.
pub record Order : Type 0 where
  pub header : Header
  -- the number after the last line
  pub next : ℕ
  -- the lines that are not placed, in order, each with its number
  pub held : List (ℕ × Line)
  -- the moment of the last step
  pub last : ℕ

-- the order of these lines, after these steps
abbrev pub order_of : Header → List Line → List Move → Order
order_of header lines moves = record {
  header = header;
  next = first_event_line header + length lines;
  held = unplaced header lines moves;
  last = last_moment moves;
}

-- the line of that number, if it is not placed
abbrev pub held_line : Order → ℕ → Option Line
held_line o n = lookup (nat_eq n) o.held

-- whether the trace has an event line of that number
abbrev pub is_offered : Order → ℕ → Bool
is_offered o n = nat_le (first_event_line o.header) n && nat_lt n o.next

-- with one more line at the end
abbrev pub with_line : Order → Line → Order
with_line o line = record o { next = o.next + 1; held = o.held ++ (o.next, line) ∷ [] }

-- the lines that are not placed after a step
abbrev pub held_after : List (ℕ × Line) → Option Take → List (ℕ × Line)
held_after held None = held
held_after held (Some t) = filter (λ e. not (t.number == e.0)) held

-- the order after one more step
abbrev pub order_after : Order → Move → Order
order_after o move = record o { held = held_after o.held move.take; last = move.moment }
