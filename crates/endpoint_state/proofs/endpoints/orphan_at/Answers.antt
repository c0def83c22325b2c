use Rattle.std.proofs.Common.{List, arith, sym, subst}
use Rattle.std.specs.List.{All}
use Rattle.spec_tcp.specs.declared.endpoint.Endpoint.{Endpoint}
use Rattle.spec_tcp.specs.Bounds.{HasRoom}
use Rattle.spec_tcp.specs.Calls.Close.{orphaned}
use Rattle.endpoint_state.proofs.PlaceLemmas.{modified_past}
use Rattle.endpoint_state.proofs.OrphanLemmas.{orphaned_at, room_orphaned, all_modified}
use Rattle.endpoint_state.proofs.endpoints.orphan_at.Goals as goal

pub returns-then-place-len-clause-items : goal.returns-then-place-len-clause-items
returns-then-place-len-clause-items c =
    orphaned_at c.args.listener c.args.endpoints.now.items c.args.place c.index_mut-endpoint.result.now
    c.orphan.new.endpoint c.requires
    (let ok = c.args.endpoints.now.ok in omega arith) c.index_mut-endpoint.ensures.value c.orphan.ensures

pub returns-then-place-len-clause-kept : goal.returns-then-place-len-clause-kept
returns-then-place-len-clause-kept c = subst (λ (es : List Endpoint). All HasRoom es)
    (sym (orphaned_at c.args.listener c.args.endpoints.now.items c.args.place c.index_mut-endpoint.result.now
    c.orphan.new.endpoint c.requires
    (let ok = c.args.endpoints.now.ok in omega arith) c.index_mut-endpoint.ensures.value c.orphan.ensures))
    (all_modified HasRoom (orphaned c.args.listener) (room_orphaned c.args.listener) c.args.endpoints.now.items c.args.place c.requires)

pub returns-else-place-len-clause-items : goal.returns-else-place-len-clause-items
returns-else-place-len-clause-items c =
    sym (modified_past c.args.endpoints.now.items c.args.place (orphaned c.args.listener)
    (let ok = c.args.endpoints.now.ok in omega arith))
