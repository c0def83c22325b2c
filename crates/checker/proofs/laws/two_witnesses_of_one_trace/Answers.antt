use Rattle.checker.specs.Again.{two_listen, effects_in_order, gives_five, gives_six}
use Rattle.checker.proofs.AgainLemmas.{both_orders}
use Rattle.checker.proofs.laws.two_witnesses_of_one_trace.Goals as goal

pub returns : goal.returns
returns c = (two_listen, effects_in_order gives_five gives_six, effects_in_order gives_six gives_five, both_orders)
