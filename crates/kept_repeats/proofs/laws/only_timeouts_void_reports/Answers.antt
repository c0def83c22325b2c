use Rattle.kept_repeats.proofs.Voided.{voided}
use Rattle.kept_repeats.proofs.laws.only_timeouts_void_reports.Goals as goal

pub returns : goal.returns
returns c = record { yes = λ t w e six judged. voided t.header _ six judged e.run e.duties; runs = voided }
