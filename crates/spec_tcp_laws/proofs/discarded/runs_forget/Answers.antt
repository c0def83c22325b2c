use Rattle.std.proofs.Common.{refl}
use Rattle.spec_network.specs.HostSteps.{start}
use Rattle.spec_tcp.specs.Machine.{tcp}
use Rattle.spec_tcp_laws.proofs.ForgetRuns.{kept_breaks, kept_end, kept_lawful, lawful_kept}
use Rattle.spec_tcp_laws.proofs.discarded.runs_forget.Goals as goal

pub returns : goal.returns
returns c = record {
  starts = λ h. refl;
  lawful = λ h w steps. (lawful_kept h w steps, kept_lawful h w steps);
  ends = kept_end;
  breaks = kept_breaks;
  first = λ h all steps. kept_breaks h all (start (tcp h)) 2 steps;
}
