use Rattle.std.proofs.Common.{◌≡◌, map}
use Rattle.std.specs.Prelude.{take}
use Rattle.parallel_check.proofs.work.slices_of.Given as goal

abbrev pub invariant-loop-case : goal.invariant-loop-case
invariant-loop-case l = map (λ s. s.now) l.slices.items ≡ map (λ c. c.items) (take l.case-index l.cases)
