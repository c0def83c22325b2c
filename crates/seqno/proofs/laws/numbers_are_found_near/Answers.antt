use Rattle.seqno.proofs.NumberLemmas.{finds_reading}
use Rattle.seqno.proofs.laws.numbers_are_found_near.Goals as goal

pub returns : goal.returns
returns c = finds_reading
