use Rattle.kept_flights.proofs.Repeats.{repeats}
use Rattle.kept_flights.proofs.laws.repeats_have_reasons.Goals as goal

pub returns : goal.returns
returns c = record { yes = λ t w e six judged. repeats t.header _ six judged e.run e.duties; runs = repeats }
