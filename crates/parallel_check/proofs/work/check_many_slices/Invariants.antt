use Rattle.std.proofs.Common.{map}
use Rattle.parallel_check.proofs.work.check_many_slices.Given as goal

abbrev pub ghosts-check_named : goal.ghosts-check_named
ghosts-check_named g a = record { cases = map (λ v. v.now) a.cases.now }
