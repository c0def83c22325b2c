use Rattle.trace_reader.proofs.TraceLaw.{printed_again}
use Rattle.trace_reader.proofs.printer.print_law.Goals as goal

pub returns : goal.returns
returns c = printed_again
