use Rattle.stack_core.proofs.FlightLemmas.{flown_stays, named}
use Rattle.stack_core.proofs.laws.what_flew_is_named.Goals as goal

pub returns : goal.returns
returns c = record { stays = flown_stays; named = named }
