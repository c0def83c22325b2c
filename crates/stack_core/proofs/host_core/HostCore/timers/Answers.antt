use Rattle.stack_core.proofs.LeavesLemmas.{timers_leaves}
use Rattle.stack_core.proofs.host_core.HostCore.timers.Goals as goal

pub returns-clause-leaves : goal.returns-clause-leaves
returns-clause-leaves c =
    timers_leaves c.args.self.now c.record_expiry-timed.new.self c.args.tick c.record_expiry-timed.result
    c.record_expiry-timed.ensures.ok c.record_expiry-timed.ensures.err
