use Rattle.std.proofs.Common.{ap, sym, subst, ◌∙◌, ℕ}
use Rattle.std.specs.Prelude.{IfOk}
use Rattle.std.specs.Option.{IfSome}
use Rattle.case_forms.specs.declared.trace.Header.{Header}
use Rattle.spec_network.specs.Hosts.{Effect}
use Rattle.spec_network.specs.HostRules.{Permitted}
use Rattle.spec_tcp.specs.HostTcp.{HostTcp}
use Rattle.spec_tcp.specs.Machine.{tcp}
use Rattle.stack_core.specs.Answers.{IsNamed}
use Rattle.stack_core.specs.Cores.{Core, world}
use Rattle.stack_core.proofs.AnswerLemmas.{answers_permitted, named_left}
use Rattle.stack_core.proofs.host_core.HostCore.answer.Goals as goal

pub choose-requires-clause-named : goal.choose-requires-clause-named
choose-requires-clause-named c =
    subst (λ (b : HostTcp). IsNamed b) (sym c.body-body.ensures)
    (named_left c.self.inside.recording.header c.self.inside.recording.me c.self.inside.recording.entries
    c.is_recording.ensures.runs)

pub returns-clause-permitted : goal.returns-clause-permitted
returns-clause-permitted c =
    subst (λ (k : Core). IfOk c.choose.result
    (λ o. IfSome o (λ a. (moment : ℕ)
    → Permitted (tcp k.recorded.header) moment (world k) (Effect c.args.thread a)))) c.self.view_is
    (answers_permitted c.forgetting_is_free.ensures c.self.inside.recording c.self.invariant.0.own c.args.thread
    c.in-Some.call.now c.me.result c.header.result.now.version c.body-body.result.now c.next_socket.result
    (sym c.in-Some.ensures) (c.me.ensures ∙ sym (ap (λ (k : Core). k.recorded.me) c.self.view_is))
    (ap (λ (h : Header). h.version) c.header.ensures) c.body-body.ensures
    c.next_socket.ensures c.choose.result c.choose.ensures.some c.choose.ensures.gives)
