use Rattle.kept_duties.proofs.Events.{events_by_steps, steps_by_events}
use Rattle.kept_duties.proofs.Runs.{run_of}
use Rattle.kept_duties.proofs.laws.events_are_steps.Goals as goal

pub returns-clause-events : goal.returns-clause-events
returns-clause-events c = events_by_steps

pub returns-clause-steps : goal.returns-clause-steps
returns-clause-steps c = λ t w slack e given. steps_by_events t w slack (run_of t w slack given e.run e.duties) e.placed
