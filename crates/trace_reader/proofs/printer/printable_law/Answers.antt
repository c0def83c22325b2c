use Rattle.trace_reader.specs.Printable.{with_columns}
use Rattle.trace_reader.specs.Printed.{trace_text}
use Rattle.trace_reader.proofs.TraceLaw.{trace_again}
use Rattle.trace_reader.proofs.PrintableLaw.{is_printed, is_printable}
use Rattle.trace_reader.proofs.printer.printable_law.Goals as goal

pub returns-clause-printed : goal.returns-clause-printed
returns-clause-printed c = is_printed

pub returns-clause-read : goal.returns-clause-read
returns-clause-read c = λ t p. trace_again (trace_text t) (with_columns t) (is_printed t p)

pub returns-clause-only : goal.returns-clause-only
returns-clause-only c = is_printable
