use Rattle.std.proofs.Common.{◌≤◌, length}
use Rattle.stack_core.specs.Tended.{AreTimed, kept_ends}
use Rattle.stack_core.proofs.timers.find_among.Given as goal

abbrev pub invariant-loop : goal.invariant-loop
invariant-loop l = (length (kept_ends l.recording) ≤ l.wakes.looked) × AreTimed l.recording.header l.wakes.looked l.wakes.entries.keys (kept_ends l.recording)
