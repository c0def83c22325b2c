use Rattle.trace_reader.proofs.EventFaults.{line_faults}
use Rattle.trace_reader.proofs.laws.event_line_faults.Goals as goal

pub returns : goal.returns
returns c v place raw e = line_faults v place raw e
