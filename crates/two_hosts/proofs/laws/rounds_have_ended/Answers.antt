use Rattle.two_hosts.proofs.ToldLemmas.{ended_as_told, told_as_ended}
use Rattle.two_hosts.proofs.laws.rounds_have_ended.Goals as goal

pub returns : goal.returns
returns c = λ rounds lines. (ended_as_told rounds lines, told_as_ended rounds lines)
