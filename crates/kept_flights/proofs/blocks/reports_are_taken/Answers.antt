use Rattle.kept_flights.proofs.Peering.{are_taken}
use Rattle.kept_flights.proofs.blocks.reports_are_taken.Goals as goal

pub returns : goal.returns
returns c = record {
  yes = λ t w e six whole. are_taken t.header whole _ six e.run e.duties;
  runs = λ h xs six whole lawful may. are_taken h whole xs six lawful may;
}
