-- A placement: steps in an order that the lines allow, by places in the two lists.
use Rattle.std.specs.Prelude.{◌≡◌, ℕ, ◌+◌, ◌<◌, ◌≤◌, ◌⊎◌, List, Some, slice_get}
use Rattle.case_forms.specs.declared.trace.Header.{Header}
use Rattle.case_forms.specs.declared.trace.Line.{Line}
use Rattle.case_forms.specs.Traces.{line_at}
use Rattle.interval_order.specs.Orders.{Move, taking}
use Rattle.interval_order.specs.OrderRules.{extras_of}

-- the step at that place uses line n
pub record TakesAt (moves : List Move) (place n : ℕ) : Type 0 where
  pub moment : ℕ
  pub extras : ℕ
  pub here : slice_get moves place ≡ Some (taking moment n extras)

-- the interval order: line m precedes line n if both are of one thread and m is the smaller number, or if n's moment is
-- later than m's by more than the skew
abbrev pub Precedes : Header → ℕ → Line → ℕ → Line → Type 0
Precedes header m a n b = ((a.thread ≡ b.thread) × (m < n)) ⊎ (a.moment + header.skew < b.moment)

-- a step in time for a line: with as many extra numbers as its kind needs, at the line's moment or at most the skew
-- later
pub record IsTimely (header : Header) (line : Line) (moment extras : ℕ) : Type 0 where
  pub count : extras ≡ extras_of header.version line.event
  pub since : line.moment ≤ moment
  pub until : moment ≤ line.moment + header.skew

-- the steps are a placement of the lines
pub record Placed (header : Header) (lines : List Line) (moves : List Move) : Type 0 where
  -- the moments of the steps don't fall
  pub rising : (i j : ℕ) (s t : Move) → slice_get moves i ≡ Some s → slice_get moves j ≡ Some t → i < j
      → s.moment ≤ t.moment
  -- each event line is used
  pub every : (n : ℕ) (line : Line) → line_at header lines n ≡ Some line → (i : ℕ) × TakesAt moves i n
  -- once
  pub once : (n i j : ℕ) → TakesAt moves i n → TakesAt moves j n → i ≡ j
  -- steps use only event lines, each in time
  pub timely : (n i : ℕ) (t : TakesAt moves i n) → (line : Line) × (line_at header lines n ≡ Some line)
      × IsTimely header line t.moment t.extras
  -- the lines of one thread are used in order
  pub threads : (m n i j : ℕ) (a b : Line) → line_at header lines m ≡ Some a → line_at header lines n ≡ Some b →
      a.thread ≡ b.thread → m < n → TakesAt moves i m → TakesAt moves j n → i < j
