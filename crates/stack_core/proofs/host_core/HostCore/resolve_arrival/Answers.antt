use Rattle.stack_core.proofs.ArriveLemmas.{any_error, settled_taken, taken_short}
use Rattle.stack_core.proofs.AffectedLemmas.{held_affected}
use Rattle.stack_core.proofs.host_core.HostCore.resolve_arrival.Goals as goal

pub returns-clause-ok : goal.returns-clause-ok
returns-clause-ok c =
    settled_taken c.args.self.now c.add.new.self c.recover.new.self c.args.line c.args.ports c.in-Some.choice
    c.me-host.result c.in-Some.ensures.some c.me-host.ensures c.in_ok-add.ensures.ok c.in_ok-recover.ensures.ok

pub add-requires-clause-affected : goal.add-requires-clause-affected
add-requires-clause-affected c =
    held_affected c.args.self.now c.args.line c.args.ports c.affected_at-affected.result c.requires.holds
    c.affected_at-affected.ensures

pub returns-in_err-recover-clause-err : goal.returns-in_err-recover-clause-err
returns-in_err-recover-clause-err c =
    any_error c.from_residual-in_err-recover.result
    (taken_short c.args.self.now c.add.new.self c.recover.new.self c.args.line c.args.ports c.in-Some.choice
    c.me-host.result c.in-Some.ensures.some c.me-host.ensures c.in_ok-add.ensures.ok c.in_err-recover.ensures.err
    c.in_err-recover.ensures.due)
