use Rattle.std.proofs.Common.{subst, sym}
use Rattle.spec_tcp.specs.HostTcp.{HostTcp}
use Rattle.endpoint_state.specs.Kept.{AreReadable}
use Rattle.stack_core.proofs.TendedLemmas.{left_quiet, nothing_ready, readable_host}
use Rattle.stack_core.proofs.next_segment.find_among.Goals as goal

pub is_quiet_at-requires : goal.is_quiet_at-requires
is_quiet_at-requires c =
    subst (λ (b : HostTcp). AreReadable b.endpoints) (sym c.body-body.ensures)
    (readable_host c.args.world.now.steps c.args.world.now.world c.args.me c.is_kept.ensures)

pub loop-wake-preserved : goal.loop-wake-preserved
loop-wake-preserved c =
    left_quiet c.args.me c.args.world.now.world c.body-body.result.now c.loop-wake.ready.looked c.leave.new.self.looked
    c.loop-wake.ready.entries.keys c.leave.new.self.entries.keys c.in-Some.wake c.body-body.ensures
    c.in-Some.ensures.first c.leave.ensures.looked c.leave.ensures.rest
    (c.is_quiet_at.ensures c.if-is_quiet_at.true) c.loop-wake.invariant

pub returns-clause-none : goal.returns-clause-none
returns-clause-none c =
    nothing_ready c.args.world.now.header c.args.me c.args.world.now.world c.loop-wake.ready.looked
    c.loop-wake.ready.entries.keys c.loop-wake.invariant.0 c.in_default.ensures.first c.loop-wake.invariant.1
