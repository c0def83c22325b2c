use Rattle.spec_tcp_laws.proofs.Windows.{follow}
use Rattle.spec_tcp_laws.proofs.laws.windows_follow.Goals as goal

pub returns : goal.returns
returns c h moment w step may = follow h moment w step may
