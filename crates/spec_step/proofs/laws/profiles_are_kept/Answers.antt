use Rattle.spec_network.specs.HostSteps.{after}
use Rattle.spec_tcp.specs.Machine.{tcp}
use Rattle.spec_tcp_laws.proofs.JudgedRuns.{judged_start, judged_step}
use Rattle.spec_step.proofs.JudgedProgress.{judged_forgets}
use Rattle.spec_step.proofs.laws.profiles_are_kept.Goals as goal

pub returns : goal.returns
returns c = record {
  starts = judged_start;
  stays = λ p moment step is may. judged_forgets p.header (after (tcp p.header) moment p.world step) (judged_step p.header moment p.world step is may);
}
