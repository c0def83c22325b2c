-- The invariant of pending lines.
use Rattle.std.specs.Prelude.{◌≡◌, ℕ, ◌<◌, ◌≤◌, All, map, nat_eq, List, Option, None, Some}
use Rattle.std.specs.List.Sorted.{IsStrictlySortedBy, IsNonDecreasingBy}
use Rattle.std.specs.Ordering.{nat_cmp}
use Rattle.std.specs.Map.{keys_of, lookup}
use Rattle.tables.specs.Tables.{Table}
use Rattle.case_forms.specs.declared.trace.Line.{Line}
use Rattle.interval_order.specs.declared.pending_lines.Waiting.{Waiting}

-- the lines themselves, each with its number
abbrev pub lines_of : List (ℕ × Waiting) → List (ℕ × Line)
lines_of entries = map (λ e. (e.0, e.1.line)) entries

-- the line that waits under that number
abbrev pub waiting_at : List (ℕ × Waiting) → ℕ → Option Waiting
waiting_at entries n = lookup (nat_eq n) entries

-- the number of the last line of a thread, if a table has one
abbrev pub latest_in : List (ℕ × ℕ) → ℕ → Option ℕ
latest_in entries thread = lookup (nat_eq thread) entries

-- the number of a thread's last line can be changed without more memory
abbrev pub HasRoom : Table ℕ → ℕ → Type 0
HasRoom latest thread = (latest_in latest.entries thread ≡ None) → latest.ready ≡ Some thread

-- the link names the last waiting line of a thread that is before the number
pub record Leads (waiting : ℕ → Option Waiting) (thread number : ℕ) (link : Option ℕ) : Type 0 where
  -- it names an earlier line
  pub below : (p : ℕ) → link ≡ Some p → p < number
  -- which is of the thread, if it waits
  pub own : (p : ℕ) (w : Waiting) → link ≡ Some p → waiting p ≡ Some w → w.line.thread ≡ thread
  -- and if any such line waits, it does, and is not before that one
  pub last : (m : ℕ) (w : Waiting) → waiting m ≡ Some w → w.line.thread ≡ thread → m < number → (p : ℕ)
      × (v : Waiting) ×
      (link ≡ Some p) × (m ≤ p) × (waiting p ≡ Some v)

-- the lines of each thread are linked
pub record AreLinked (next : ℕ) (waiting : ℕ → Option Waiting) (latest : ℕ → Option ℕ) : Type 0 where
  -- each waiting line leads to those of its thread before it
  pub previous : (n : ℕ) (w : Waiting) → waiting n ≡ Some w → Leads waiting w.line.thread n w.previous
  -- and the latest of a thread to all that wait
  pub all : (thread : ℕ) → Leads waiting thread next (latest thread)

-- the numbers rise and are below the next, the moments don't fall, and the lines of each thread are linked
pub record IsSound (next : ℕ) (entries : List (ℕ × Waiting)) (latest : ℕ → Option ℕ) : Type 0 where
  pub below : All (λ n. n < next) (keys_of entries)
  pub ordered : IsStrictlySortedBy nat_cmp (keys_of entries)
  pub rising : IsNonDecreasingBy (λ e. e.1.line.moment) entries
  pub linked : AreLinked next (waiting_at entries) latest
