use Rattle.stack_core.proofs.LeavesLemmas.{begin_leaves}
use Rattle.stack_core.proofs.host_core.HostCore.begin.Goals as goal

pub returns-clause-leaves : goal.returns-clause-leaves
returns-clause-leaves c =
    begin_leaves c.args.self.now c.record_begin-begun.new.self c.args.tick c.args.thread c.args.call.now
    c.record_begin-begun.result c.record_begin-begun.ensures.ok c.record_begin-begun.ensures.err
