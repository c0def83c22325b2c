use Rattle.stack_core.proofs.LeavesLemmas.{attempt_leaves}
use Rattle.stack_core.proofs.host_core.HostCore.attempt.Goals as goal

pub returns-clause-leaves : goal.returns-clause-leaves
returns-clause-leaves c =
    attempt_leaves c.args.self.now c.record_attempt-attempted.new.self c.args.tick c.args.thread
    c.record_attempt-attempted.result c.record_attempt-attempted.ensures.some c.record_attempt-attempted.ensures.none
    c.record_attempt-attempted.ensures.err
