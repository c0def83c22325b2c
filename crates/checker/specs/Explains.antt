-- What a yes means: the witness's steps, in their order, explain the trace.
use Rattle.std.specs.Prelude.{◌≡◌, ℕ, None}
use Rattle.case_forms.specs.declared.trace.Trace.{Trace}
use Rattle.case_forms.specs.declared.steps.Witness.{Witness}
use Rattle.verdict.specs.declared.report.Verdict.{Verdict}
use Rattle.verdict.specs.declared.report.Verdict.TheVariants.{Yes, No}
use Rattle.interval_order.specs.Placed.{Placed}
use Rattle.spec_network.specs.Hosts.{Idle}
use Rattle.spec_network.specs.HostSteps.{start, Lawful}
use Rattle.spec_network.specs.Turns.{Turns}
use Rattle.spec_tcp.specs.Machine.{tcp}
use Rattle.spec_cases.specs.Cases.{Dutiful, first_known, known_after_all}
use Rattle.checker.specs.Seen.{moves, stamped}
use Rattle.checker.specs.Verdicts.{late_after}

pub record Explains (t : Trace) (w : Witness) : Type 0 where
  -- each line is taken once and in time, and the lines of a thread in their order
  pub placed : Placed t.header t.lines (moves w.steps)
  -- in each thread the beginning of a call, one effect and the end with its answer take turns
  pub turns : (thread : ℕ) → Turns (tcp t.header) thread Idle (stamped t.header t.lines w.steps)
  -- the steps are a run of the model
  pub run : Lawful (tcp t.header) (start (tcp t.header)) (stamped t.header t.lines w.steps)
  -- no duty refuses one of them
  pub duties : Dutiful t.header (first_known t.header) (stamped t.header t.lines w.steps)
  -- no duty is late by the moment of the last step
  pub in_time : late_after t.header w.steps
      (known_after_all t.header (first_known t.header) (stamped t.header t.lines w.steps)) ≡ None

-- the verdict is yes
abbrev pub IsYes : Verdict → Type 0
IsYes (Yes lines hidden) = Unit {0}
IsYes (No witness_line trace_line rule) = ⊥
