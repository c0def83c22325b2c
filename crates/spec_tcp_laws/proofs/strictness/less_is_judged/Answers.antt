use Rattle.std.proofs.Common.{refl}
use Rattle.spec_tcp_laws.proofs.JudgedWorlds.{after_kept, step_passes}
use Rattle.spec_tcp_laws.proofs.strictness.less_is_judged.Goals as goal

pub returns : goal.returns
returns c h j = record { start_is = refl; permits = λ le moment w step is may. step_passes j h moment w step le is may; next = after_kept j h }
