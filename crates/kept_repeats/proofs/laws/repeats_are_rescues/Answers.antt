use Rattle.kept_repeats.proofs.Repeating.{rescues}
use Rattle.kept_repeats.proofs.laws.repeats_are_rescues.Goals as goal

pub returns : goal.returns
returns c = record { yes = λ t w e six judged. rescues t.header _ six judged e.run e.duties; runs = rescues }
