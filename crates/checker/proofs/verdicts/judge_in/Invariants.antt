use Rattle.std.proofs.Common.{◌≡◌, ◌<◌, ◌≤◌, ◌+◌, List, [], Option, Result, length}
use Rattle.case_forms.specs.declared.trace.Header.{Header}
use Rattle.case_forms.specs.declared.trace.Line.{Line}
use Rattle.case_forms.specs.declared.steps.Step.{Step}
use Rattle.counted.specs.Counting.{failures_of}
use Rattle.line_fields.specs.declared.fault.TextFault.{TextFault}
use Rattle.checker.specs.Ahead.{source_ahead, left_ahead, line_ahead, IsAhead, IsInStep}
use Rattle.checker.specs.Streaming.{SoFar, Tallied}
use Rattle.checker.proofs.verdicts.judge_in.Given as goal

-- so many steps were done
abbrev pub invariant-loop-item : goal.invariant-loop-item
invariant-loop-item g l = record {
  ahead : IsAhead l.lines;
  in_step : IsInStep l.window (line_ahead l.lines);
  working : g.S.StepSource.is_working l.steps;
  few : g.S.StepSource.room l.steps + (l.tally.lines + l.tally.hidden) < 10000000;
  done : l.world.steps ≤ l.tally.lines + l.tally.hidden;
  lines_count : failures_of (source_ahead l.lines) ≡ failures_of (source_ahead l.fn.lines);
  steps_count : g.S.StepSource.failures l.steps ≡ g.S.StepSource.failures l.fn.steps;
  goes : (header : Header) (t : Option (Result (List Line) TextFault)) (s : Option (Result (List Step) TextFault)) (first : List Line)
      → SoFar header t (left_ahead g.A.Read.remaining l.fn.lines) s (g.S.StepSource.left l.fn.steps) l.fn.window l.fn.world first []
      → (offered : List Line) × (earlier : List Step)
      × SoFar header t (left_ahead g.A.Read.remaining l.lines) s
      (g.S.StepSource.left l.steps) l.window l.world offered earlier
      × Tallied earlier l.tally.lines l.tally.hidden × (length earlier ≡ l.tally.lines + l.tally.hidden);
}

abbrev pub decreases-loop-item : goal.decreases-loop-item
decreases-loop-item g l = g.S.StepSource.room l.steps
