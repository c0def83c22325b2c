use Rattle.spec_tcp_laws.proofs.JudgedRuns.{judged_start, judged_step}
use Rattle.spec_tcp_laws.proofs.strictness.judged_stays.Goals as goal

pub returns : goal.returns
returns c h = record { starts = judged_start h; stays = judged_step h }
