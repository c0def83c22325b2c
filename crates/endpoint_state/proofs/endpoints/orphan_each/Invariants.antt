use Rattle.std.proofs.Common.{◌≡◌, drop}
use Rattle.std.specs.List.{All}
use Rattle.spec_tcp.specs.Bounds.{HasRoom}
use Rattle.endpoint_state.specs.Changes.{orphan_each}
use Rattle.endpoint_state.proofs.endpoints.orphan_each.Given as goal

abbrev pub invariant-loop-child : goal.invariant-loop-child
invariant-loop-child l = record {
  left : orphan_each l.listener (drop l.child-index l.children) l.endpoints.items ≡ orphan_each l.listener l.children l.initial.endpoints.items;
  kept : All HasRoom l.endpoints.items;
}
