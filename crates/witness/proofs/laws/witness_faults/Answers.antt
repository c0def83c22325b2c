use Rattle.witness.proofs.TextFaults.{witness_faults}
use Rattle.witness.proofs.laws.witness_faults.Goals as goal

pub returns : goal.returns
returns c v text e = witness_faults v text e
