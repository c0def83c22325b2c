use Rattle.std.proofs.Common.{sym}
use Rattle.spec_tcp.specs.declared.endpoint.Endpoint.{Endpoint}
use Rattle.stack_core.specs.TimerEvents.{IsRefused}
use Rattle.stack_core.proofs.MakingLemmas.{inside, one_more}
use Rattle.stack_core.proofs.TimerLemmas.{none_due}
use Rattle.stack_core.proofs.timers.find_any_due.Goals as goal

pub loop-endpoint-preserved : goal.loop-endpoint-preserved
loop-endpoint-preserved c =
    one_more (λ (e : Endpoint). IsRefused c.args.recording.now c.args.moment
    (record { lport = e.lport; rport = e.rport })) c.body-body.result.now.endpoints c.loop-endpoint.place
    c.in-Some.endpoint.now
    c.loop-endpoint.invariant (sym c.in-Some.ensures) c.in_default-due_at.ensures.none

pub returns-clause-none : goal.returns-clause-none
returns-clause-none c = none_due c.args.recording.now c.args.moment c.body-body.result.now c.body-body.ensures (λ i e at.
    c.loop-endpoint.invariant i e (inside c.body-body.result.now.endpoints i c.loop-endpoint.place e at (sym c.in_default.ensures)) at)
