use Rattle.witness.specs.Printable.{with_columns}
use Rattle.witness.specs.Printed.{witness_text}
use Rattle.witness.proofs.TextLaw.{text_again, some_again}
use Rattle.witness.proofs.PrintableLaw.{is_printed, is_printable}
use Rattle.witness.proofs.printer.printable_law.Goals as goal

pub returns-clause-printed : goal.returns-clause-printed
returns-clause-printed c = is_printed

pub returns-clause-read : goal.returns-clause-read
returns-clause-read c = λ w p. text_again (with_columns w) (witness_text w) (is_printed w p)

pub returns-clause-alone : goal.returns-clause-alone
returns-clause-alone c = λ w p. some_again (with_columns w) (witness_text w) (is_printed w p)

pub returns-clause-only : goal.returns-clause-only
returns-clause-only c = is_printable
