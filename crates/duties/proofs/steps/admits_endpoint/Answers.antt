use Rattle.std.proofs.Common.{sym, ◌∙◌}
use Rattle.verdict.proofs.RuleLemmas.{first_broken-append_none, first_broken-append_some}
use Rattle.spec_duties.specs.Owed.{late_rules, lates_of}
use Rattle.spec_duties.specs.Watching.{limit_rules}
use Rattle.duties.proofs.steps.admits_endpoint.Goals as goal

pub returns-in-Ok : goal.returns-in-Ok
returns-in-Ok c =
    c.admits_limits.ensures
    ∙ sym (first_broken-append_none
    (late_rules (lates_of c.args.slack c.args.moment c.args.touched.now.before c.args.listener_closed c.args.owed.now))
    (limit_rules c.args.header.now c.args.touched.now c.args.limited.sends.counts c.args.limited.lacks c.args.limited.sends.untrue
    c.args.limited.due c.args.owed.now) (sym c.in-Ok.ensures))

pub returns-in-Err : goal.returns-in-Err
returns-in-Err c =
    sym (first_broken-append_some
    (late_rules (lates_of c.args.slack c.args.moment c.args.touched.now.before c.args.listener_closed c.args.owed.now))
    (limit_rules c.args.header.now c.args.touched.now c.args.limited.sends.counts c.args.limited.lacks c.args.limited.sends.untrue
    c.args.limited.due c.args.owed.now)
    c.in-Err.rule (sym c.in-Err.ensures))
