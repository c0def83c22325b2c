use Rattle.stack_core.proofs.Cores.{core_starts}
use Rattle.stack_core.proofs.ResetLemmas.{core_awaits_none}
use Rattle.stack_core.proofs.TendedLemmas.{tended_starts}
use Rattle.stack_core.proofs.host_core.HostCore.new.Goals as goal

pub invariant_of-result : goal.invariant_of-result
invariant_of-result c = (
  core_starts c.args.header c.args.host c.start.result c.first_event_line.result _ c.start.ensures c.first_event_line.ensures,
  core_awaits_none c.args.header c.args.host c.start.result c.new.result.items c.start.ensures c.new.ensures.items,
  tended_starts c.args.header c.args.host c.start.result c.new-ready.result c.new-wakes.result c.new-ready.ensures.looked c.new-wakes.ensures.looked,
)
