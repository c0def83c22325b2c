use Rattle.kept_flights.proofs.Stays.{stays}
use Rattle.kept_flights.proofs.laws.what_was_reported_stays.Goals as goal

pub returns : goal.returns
returns c = record {
  yes = λ t w e six judged. stays c.what_is_told_stays.ensures t.header _ six judged e.run e.duties;
  runs = stays c.what_is_told_stays.ensures;
}
