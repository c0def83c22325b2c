use Rattle.std.proofs.Common.{◌+◌, ◌≤◌, ℕ, map, length}
use Rattle.case_forms.specs.Traces.{first_event_line}
use Rattle.stack_core.specs.Keys.{key_shown}
use Rattle.recorder.specs.Naming.{AllNamed, FirstStranger, wire_of}
use Rattle.recorder.proofs.arrival_names.find_stranger.Given as goal

-- all is as what is left is
abbrev pub invariant-loop-entry : goal.invariant-loop-entry
invariant-loop-entry l = record {
  small : l.line + length l.left ≤ l.fn.first + length l.fn.entries;
  named : AllNamed (first_event_line l.fn.other.header) (map key_shown l.fn.keys) (wire_of l.fn.other) l.left
      → AllNamed (first_event_line l.fn.other.header) (map key_shown l.fn.keys) (wire_of l.fn.other) l.fn.entries;
  first : (n : ℕ) → FirstStranger (first_event_line l.fn.other.header) (map key_shown l.fn.keys) (wire_of l.fn.other) l.line l.left n
      → FirstStranger (first_event_line l.fn.other.header) (map key_shown l.fn.keys) (wire_of l.fn.other) l.fn.first l.fn.entries n;
}

abbrev pub decreases-loop-entry : goal.decreases-loop-entry
decreases-loop-entry l = length l.left
