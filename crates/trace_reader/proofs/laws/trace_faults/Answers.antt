use Rattle.trace_reader.proofs.TextFaults.{trace_faults}
use Rattle.trace_reader.proofs.laws.trace_faults.Goals as goal

pub returns : goal.returns
returns c text e = trace_faults text e
