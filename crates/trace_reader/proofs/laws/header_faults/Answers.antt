use Rattle.trace_reader.proofs.HeaderFaults.{header_faults}
use Rattle.trace_reader.proofs.laws.header_faults.Goals as goal

pub returns : goal.returns
returns c raws e = header_faults raws e
