use Rattle.spec_network.specs.HostSteps.{start}
use Rattle.spec_tcp.specs.Machine.{tcp}
use Rattle.spec_tcp_laws.proofs.JudgedRuns.{ends_by, judged_start, lawful_by, unbroken_by}
use Rattle.spec_tcp_laws.proofs.strictness.runs_with_less_judged.Goals as goal

pub returns : goal.returns
returns c h j = record {
  lawful = λ le steps may. lawful_by j h (start (tcp h)) steps le (judged_start h) may;
  ends = λ steps. ends_by j h (start (tcp h)) steps;
  unbroken = λ le all steps may. unbroken_by j h all (start (tcp h)) 2 steps le (judged_start h) may;
}
