use Rattle.std.proofs.Common.{ap, ◌∙◌}
use Rattle.stack_core.specs.Cores.{Core, event_begun}
use Rattle.stack_core.proofs.TimerLemmas.{expiry_fits}
use Rattle.stack_core.proofs.host_core.HostCore.record_expiry.Goals as goal

pub add-requires-clause-fits : goal.add-requires-clause-fits
add-requires-clause-fits c =
    expiry_fits c.args.self.now c.begin_event.new.self c.args.tick c.line.result c.me.result c.in-Some.due.ports
    c.in-Some.due.expired (c.begin_event.ensures.begun ∙ ap (λ (k : Core). event_begun k c.args.tick) c.due.ensures.same)
    c.me.ensures c.in-Some.ensures.some
