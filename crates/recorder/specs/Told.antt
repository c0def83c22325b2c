-- What a trace and a witness say about a run of the model.
use Rattle.std.specs.Prelude.{◌≡◌, ◌+◌, ℕ, false, List, [], ◌∷◌, None, Some, map}
use Rattle.case_forms.specs.declared.trace.Header.{Header}
use Rattle.case_forms.specs.declared.trace.Event.{Event}
use Rattle.case_forms.specs.declared.trace.Event.TheVariants as events
use Rattle.case_forms.specs.declared.trace.Line.{Line}
use Rattle.case_forms.specs.declared.trace.Trace.{Trace}
use Rattle.case_forms.specs.declared.named_line.NamedLine.{NamedLine}
use Rattle.case_forms.specs.declared.steps.Label.{Label}
use Rattle.case_forms.specs.declared.steps.Label.TheVariants as labels
use Rattle.case_forms.specs.declared.steps.Step.{Step}
use Rattle.case_forms.specs.declared.steps.Witness.{Witness}
use Rattle.case_forms.specs.Steps.{extras_count}
use Rattle.case_forms.specs.Traces.{line_at, IsTrace}
use Rattle.interval_order.specs.OrderRules.{extras_of}
use Rattle.spec_network.specs.Hosts.{Stamped}
use Rattle.spec_merge.specs.Keys.{rank}
use Rattle.spec_merge.specs.Placing as placing
use Rattle.spec_tcp.specs.Machine.{tcp, tcp_shape}
use Rattle.spec_flights.specs.Flights.{judges}
use Rattle.checker.specs.Seen.{stamped}

-- what an event of that thread is to the model, for which the threads of segments and timers don't exist
abbrev pub event_told : ℕ → Event → placing.Event tcp_shape
event_told thread (events.CallBegin call) = placing.CallBegin thread call
event_told thread (events.CallEnd answer) = placing.CallEnd thread answer
event_told thread (events.Sent host wire) = placing.Sent host wire
event_told thread (events.Came host wire) = placing.Came host wire
event_told thread (events.Expired host lport rport timer) =
    placing.Expired host (record { lport = lport; rport = rport; timer = timer })

-- what a line is to the model
abbrev pub line_told : Line → placing.Line tcp_shape
line_told line = record { moment = line.moment; event = event_told line.thread line.event }

-- a label that takes a line takes one of the trace's, with as many extra numbers as its kind has
abbrev pub TakesWell : Header → List Line → Label NamedLine → Type 0
TakesWell h lines (labels.L named) =
    (line : Line) × (line_at h lines named.number ≡ Some line)
    × (extras_count named.extras ≡ extras_of h.version line.event)
TakesWell h lines _ = Unit {0}

-- each of these steps does
abbrev pub AllTakeWell : Header → List Line → List Step → Type 0
AllTakeWell h lines [] = Unit {0}
AllTakeWell h lines (s ∷ steps) = TakesWell h lines s.label × AllTakeWell h lines steps

-- trace and witness say these steps: the witness's steps are these, as the checker sees them, and the trace's lines are
-- those that they take
pub record Tells (t : Trace) (w : Witness) (steps : List (Stamped tcp_shape)) : Type 0 where
  pub trace : IsTrace t
  pub version : t.header.version ≡ w.version
  -- duties aren't judged
  pub slack : t.header.slack ≡ None
  -- nor is which data goes again, or what is probed for: the version is one of 1 to 5
  pub judged : judges t.header ≡ false
  pub takes : AllTakeWell t.header t.lines w.steps
  pub steps_are : stamped t.header t.lines w.steps ≡ steps
  pub lines_are : map line_told t.lines ≡ placing.lines_of (tcp t.header) steps

-- lines of arriving segments, of timers, and of sent segments have threads of their host's own
abbrev pub HasOwnThread : ℕ → Event → Type 0
HasOwnThread thread (events.Came host wire) = thread ≡ 4 + rank host
HasOwnThread thread (events.Expired host lport rport timer) = thread ≡ 6 + rank host
HasOwnThread thread (events.Sent host wire) = thread ≡ 8 + rank host
HasOwnThread thread _ = Unit {0}

-- each of these lines does
abbrev pub AllOwnThreads : List Line → Type 0
AllOwnThreads [] = Unit {0}
AllOwnThreads (line ∷ lines) = HasOwnThread line.thread line.event × AllOwnThreads lines
