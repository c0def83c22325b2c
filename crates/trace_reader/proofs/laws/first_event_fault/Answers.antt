use Rattle.trace_reader.proofs.TextFaults.{events_fault}
use Rattle.trace_reader.proofs.laws.first_event_fault.Goals as goal

pub returns : goal.returns
returns c v place raws e = events_fault v place raws e
