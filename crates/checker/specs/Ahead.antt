-- A trace that is read one line ahead.
use Rattle.std.specs.Prelude.{◌≡◌, ◌≤◌, ◌+◌, ◌-◌, ℕ, Bool, true, false, List, [], ◌++◌, Option, None, Some, IfSome}
use Rattle.std.specs.Prelude.{Result, Ok, Err, All}
use Rattle.std.specs.Option.{option_map}
use Rattle.case_forms.specs.declared.trace.Line.{Line}
use Rattle.case_forms.specs.declared.trace.Trace.{Trace}
use Rattle.counted.specs.declared.ends.Counted.{Counted}
use Rattle.line_fields.specs.declared.fault.TextFault.{TextFault}
use Rattle.line_fields.specs.Reading.{◌>>=◌}
use Rattle.line_fields.specs.Left.{in_front, Yields}
use Rattle.trace_reader.specs.TraceLeft.{source_of, place_of, fault_of, end_of_text, trace_left, lines_left}
use Rattle.trace_reader.specs.TraceLeft.{IsFresh, IsBegun}
use Rattle.case_lines.specs.declared.text_lines.TextEnd.TheVariants as ends
use Rattle.interval_order.specs.Orders.{Order}
use Rattle.checker.specs.declared.case.CaseFault.{CaseFault}
use Rattle.checker.specs.declared.case.CaseFault.TheVariants as faults
use Rattle.checker.specs.declared.ahead.Ahead.{Ahead}

-- where it reads
abbrev pub source_ahead : {A : Type 0} → Ahead A → Counted A
source_ahead s = source_of s.reader

-- the line that was read ahead
abbrev pub line_ahead : {A : Type 0} → Ahead A → Option Line
line_ahead s = s.line

-- what is left, with the item that was read ahead if there is one
abbrev pub left_with : {A : Type 0} → Option A → Option (Result (List A) TextFault) → Option (Result (List A) TextFault)
left_with None left = Some (Ok [])
left_with (Some item) left = option_map (in_front item) left

-- the event lines that are left, including the one that was read ahead
abbrev pub left_ahead : {A : Type 0} → (A → Option (List ℕ)) → Ahead A → Option (Result (List Line) TextFault)
left_ahead known s = left_with s.line (lines_left known s.reader)

-- what the whole text gives before any of it is read
abbrev pub trace_ahead : {A : Type 0} → (A → Option (List ℕ)) → Ahead A → Option (Result Trace TextFault)
trace_ahead known s = trace_left known s.reader

-- nothing was read of a text, which ends with its source
pub record IsUnread {A : Type 0} (s : Ahead A) : Type 0 where
  pub whole : end_of_text s.reader ≡ ends.Source
  pub working : fault_of s.reader ≡ None
  pub fresh : IsFresh s.reader

-- the reader has met no fault, and is just after the line that was read ahead
pub record IsAhead {A : Type 0} (s : Ahead A) : Type 0 where
  pub working : fault_of s.reader ≡ None
  pub begun : IsBegun s.reader
  pub place : IfSome s.line (λ line. (place_of s.reader ≡ (line.moment, line.number + 1)) × (line.number ≤ 10000000))

-- the items of what was left, and what is left now
abbrev pub Passes : {A : Type 0} → Option (Result (List A) TextFault) → Option (Result (List A) TextFault) → List A
    → Type 0
Passes None new items = Unit {0}
Passes (Some left) None items = ⊥
Passes (Some left) (Some rest) items = left ≡ (rest >>= λ more. Ok (items ++ more))

-- one item is skipped, or none is left
abbrev pub Skips : {A : Type 0} → Bool → Option (Result (List A) TextFault) → Option (Result (List A) TextFault)
    → Type 0
Skips {A} true old new = (item : A) × Yields old new (Some item)
Skips false old new = Yields old new None

-- all that is left are these items
abbrev pub IsAll : {A : Type 0} → Option (Result (List A) TextFault) → List A → Type 0
IsAll left items = IfSome left (λ read. read ≡ Ok items)

-- the fault of a trace is that of what was left of it
abbrev pub TraceFails : {X : Type 0} → CaseFault → Option (Result X TextFault) → Type 0
TraceFails (faults.Trace f) left = IfSome left (λ read. read ≡ Err f)
TraceFails (faults.Witness f) left = ⊥
TraceFails faults.Read left = Unit {0}
TraceFails faults.OutOfMemory left = Unit {0}

-- so is the fault of a witness
abbrev pub WitnessFails : {X : Type 0} → CaseFault → Option (Result X TextFault) → Type 0
WitnessFails (faults.Trace f) left = ⊥
WitnessFails (faults.Witness f) left = IfSome left (λ read. read ≡ Err f)
WitnessFails faults.Read left = Unit {0}
WitnessFails faults.OutOfMemory left = Unit {0}

-- a line has the next number, and isn't earlier than the other
abbrev pub Follows : Line → Line → Type 0
Follows line next = (next.number ≡ line.number + 1) × (line.moment ≤ next.moment)

-- the line that was read ahead is the next one to be offered to the window
abbrev pub IsInStep : Order → Option Line → Type 0
IsInStep o ahead = IfSome ahead (λ line. (line.number ≡ o.next) × All (λ e. e.1.moment ≤ line.moment) o.held)

-- how many lines may be left
abbrev pub lines_after : Option Line → ℕ
lines_after None = 0
lines_after (Some line) = 10000001 - line.number
