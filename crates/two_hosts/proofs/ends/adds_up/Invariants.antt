use Rattle.std.proofs.Common.{◌≡◌, ◌==◌, length}
use Rattle.two_hosts.specs.Ends.{told}
use Rattle.two_hosts.proofs.ends.adds_up.Given as goal

-- what is left has the answer that all have
abbrev pub invariant-loop-rest : goal.invariant-loop-rest
invariant-loop-rest l = (told l.measure l.thread l.rest == l.left) ≡ (told l.measure l.thread l.lines == l.total)

abbrev pub decreases-loop-rest : goal.decreases-loop-rest
decreases-loop-rest l = length l.rest
