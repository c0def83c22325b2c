use Rattle.spec_tcp_laws.proofs.HeardNumbers.{heard_numbers}
use Rattle.spec_tcp_laws.proofs.laws.heard_numbers_are_read.Goals as goal

pub returns : goal.returns
returns c = heard_numbers c.numbers_are_found_near.ensures
