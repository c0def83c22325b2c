use Rattle.kept_repeats.proofs.Once.{once}
use Rattle.kept_repeats.proofs.laws.rescues_come_once.Goals as goal

pub returns : goal.returns
returns c = record { yes = λ t w e six judged. once t.header _ six judged e.run e.duties; runs = once }
