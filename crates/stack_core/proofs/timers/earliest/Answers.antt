use Rattle.std.proofs.Common.{ap, ◌∙◌}
use Rattle.stack_core.specs.Tended.{least}
use Rattle.stack_core.proofs.TendedLemmas.{still_before, still_ever}
use Rattle.stack_core.proofs.timers.earliest.Goals as goal

pub returns-clause-some : goal.returns-clause-some
returns-clause-some c =
    still_before c.args.header.now c.args.endpoint.now c.again_due-again.result c.probe_due-probe.result
    c.wait_over-over.result c.least-2.result c.again_due-again.ensures c.probe_due-probe.ensures
    c.wait_over-over.ensures
    (c.least-2.ensures ∙ ap (least c.again_due-again.result) c.least.ensures)

pub returns-clause-none : goal.returns-clause-none
returns-clause-none c =
    still_ever c.args.header.now c.args.endpoint.now c.again_due-again.result c.probe_due-probe.result
    c.wait_over-over.result c.least-2.result c.again_due-again.ensures c.probe_due-probe.ensures
    c.wait_over-over.ensures
    (c.least-2.ensures ∙ ap (least c.again_due-again.result) c.least.ensures)
