use Rattle.kept_flights.proofs.Reporting.{may_report}
use Rattle.kept_flights.proofs.blocks.blocks_are_true.Goals as goal

pub returns : goal.returns
returns c = record {
  yes = λ t w e six. may_report t.header _ six e.run e.duties;
  runs = may_report;
}
