use Rattle.stack_core.proofs.LeavesLemmas.{arrive_leaves}
use Rattle.stack_core.proofs.host_core.HostCore.arrive.Goals as goal

pub returns-clause-leaves : goal.returns-clause-leaves
returns-clause-leaves c =
    arrive_leaves c.args.self.now c.record_arrival-arrived.new.self c.args.tick c.args.flying
    c.record_arrival-arrived.result c.record_arrival-arrived.ensures.ok c.record_arrival-arrived.ensures.err
