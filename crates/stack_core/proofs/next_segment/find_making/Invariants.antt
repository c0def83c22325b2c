use Rattle.std.proofs.Common.{◌≡◌, ◌<◌, ◌-◌, ℕ, Some, length}
use Rattle.std.specs.Prelude.{slice_get}
use Rattle.spec_tcp.specs.declared.endpoint.Endpoint.{Endpoint}
use Rattle.stack_core.specs.Makings.{IsTried}
use Rattle.stack_core.proofs.next_segment.find_making.Given as goal

abbrev pub invariant-loop-endpoint : goal.invariant-loop-endpoint
invariant-loop-endpoint l = (j : ℕ) (e : Endpoint) → j < l.place → slice_get l.body.endpoints j ≡ Some e → IsTried l.world.header l.me l.world.world e

abbrev pub decreases-loop-endpoint : goal.decreases-loop-endpoint
decreases-loop-endpoint l = length l.body.endpoints - l.place
