use Rattle.spec_tcp.specs.Machine.{tcp}
use Rattle.spec_network.specs.HostSteps.{after}
use Rattle.spec_tcp.specs.Forgetting.{forget}
use Rattle.spec_tcp_laws.proofs.ForgetWorlds.{after-forgets, besides-same, step_rules-forget, world-forget}
use Rattle.spec_tcp_laws.proofs.discarded.forgetting_is_free.Goals as goal

pub returns : goal.returns
returns c = record {
  twice = world-forget;
  rules = step_rules-forget;
  next = after-forgets;
  besides = λ h moment w step ok. besides-same (after (tcp h) moment (forget w) step) (after (tcp h) moment w step) (after-forgets h moment w step ok);
}
