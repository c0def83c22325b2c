use Rattle.std.proofs.Common.{refl}
use Rattle.spec_tcp_laws.proofs.JudgedWorlds.{step_passes}
use Rattle.spec_step.proofs.JudgedProgress.{after_same}
use Rattle.spec_step.proofs.laws.less_judged_is_more_accepted.Goals as goal

pub returns : goal.returns
returns c j = record {
  starts = λ h. refl;
  accepted = λ p moment step le is may. step_passes j p.header moment p.world step le is may;
  same = after_same j;
}
