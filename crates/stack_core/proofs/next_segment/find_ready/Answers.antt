use Rattle.std.proofs.Common.{◌<◌, ◌≤◌, ◌^◌, length, subst, sym, arith}
use Rattle.spec_network.specs.Tables.{pick}
use Rattle.spec_tcp.specs.HostTcp.{HostTcp}
use Rattle.stack_core.specs.DeadlineQueues.{IsGrown}
use Rattle.stack_core.specs.Tended.{IsQuiet}
use Rattle.stack_core.proofs.DeadlineQueueLemmas.{grown_covered}
use Rattle.stack_core.proofs.TendedLemmas.{few_host}
use Rattle.stack_core.proofs.next_segment.find_ready.Goals as goal

pub list_new-requires : goal.list_new-requires
list_new-requires c =
    let few = few_host c.args.world.now.steps c.args.world.now.world c.args.me c.is_kept.ensures in
    let steps = c.requires.steps in
    subst (λ (b : HostTcp). length b.endpoints < 2 ^ 32) (sym c.body.ensures) (omega arith)

pub find_among-requires-clause-all : goal.find_among-requires-clause-all
find_among-requires-clause-all c =
    subst (λ (b : HostTcp). length b.endpoints ≤ c.list_new.new.self.looked) c.body.ensures
    (c.list_new.ensures.all c.if-list_new.true)

pub find_among-requires-clause-quiet : goal.find_among-requires-clause-quiet
find_among-requires-clause-quiet c =
    grown_covered (λ m e. Unit {0}) IsQuiet
    (λ e. tt) c.args.ready.now.looked c.list_new.new.self.looked c.args.ready.now.entries.keys
    c.list_new.new.self.entries.keys (pick c.args.world.now.world.hosts c.args.me).body.endpoints
    (subst (λ (b : HostTcp). IsGrown
    (length b.endpoints) c.args.ready.now.looked c.args.ready.now.entries.keys c.list_new.new.self.looked
    c.list_new.new.self.entries.keys) c.body.ensures c.list_new.ensures.grown) c.requires.quiet

pub returns-clause-quiet : goal.returns-clause-quiet
returns-clause-quiet c =
    grown_covered (λ m e. Unit {0}) IsQuiet
    (λ e. tt) c.args.ready.now.looked c.list_new.new.self.looked c.args.ready.now.entries.keys
    c.list_new.new.self.entries.keys (pick c.args.world.now.world.hosts c.args.me).body.endpoints
    (subst (λ (b : HostTcp). IsGrown
    (length b.endpoints) c.args.ready.now.looked c.args.ready.now.entries.keys c.list_new.new.self.looked
    c.list_new.new.self.entries.keys) c.body.ensures c.list_new.ensures.grown) c.requires.quiet
