use Rattle.witness.proofs.PrintLaw.{print_again}
use Rattle.witness.proofs.printer.print_law.Goals as goal

pub returns : goal.returns
returns c = print_again
