use Rattle.std.proofs.Common.{◌∙◌, ap, refl, subst, sym, ℕ, Option}
use Rattle.std.specs.Option.{IfSome}
use Rattle.case_forms.specs.declared.calls.Answer.{Answer}
use Rattle.case_forms.specs.declared.steps.Label.{Label}
use Rattle.case_forms.specs.declared.taken_line.TakenLine.{TakenLine}
use Rattle.spec_network.specs.Hosts.{Effect, turn_of}
use Rattle.spec_network.specs.HostRules.{Permitted}
use Rattle.spec_tcp.specs.Machine.{tcp}
use Rattle.spec_tcp.specs.Steps.{step_of}
use Rattle.stack_core.specs.Cores.{Core, Fits, GivesNext, own_body, with_step, world}
use Rattle.stack_core.proofs.AnswerLemmas.{effect_fits, ended_call, finish_fits}
use Rattle.std.specs.Prelude.{IfNone}
use Rattle.stack_core.specs.CallEvents.{KeptNoAnswer}
use Rattle.stack_core.proofs.WaitLemmas.{no_answer}
use Rattle.stack_core.proofs.host_core.HostCore.record_attempt.Goals as goal

pub add-requires-clause-fits : goal.add-requires-clause-fits
add-requires-clause-fits c =
    let now : Core = c.args.self.now in
    effect_fits now c.begin_event_with_room.new.self c.args.tick c.args.thread c.in-Ok-Some.answer c.in_ok-copy.field-0
    c.begin_event_with_room.ensures.begun c.in_ok-copy.ensures
    (subst (λ (o : Option Answer).
    IfSome o (λ a. (moment : ℕ)
    → Permitted (tcp now.recorded.header) moment (world now) (Effect c.args.thread a)))
    c.in-Ok-Some.field-0-is c.in-Ok-Some.ensures.permitted)
    (subst (λ (o : Option Answer).
    IfSome o (λ a. GivesNext now.recorded.me (own_body now) (turn_of c.args.thread (world now).threads) a))
    c.in-Ok-Some.field-0-is c.in-Ok-Some.ensures.gives)
    c.requires.lane

pub add-requires-2-clause-fits : goal.add-requires-2-clause-fits
add-requires-2-clause-fits c =
    let now : Core = c.args.self.now in
    subst (λ (l : Label TakenLine). Fits c.add.new.self (step_of l)) (sym c.call_end-end.ensures)
    (finish_fits now c.begin_event_with_room.new.self c.add.new.self c.args.tick c.line.result c.args.thread c.in-Ok-Some.answer
    c.in_ok-copy.field-0 c.in_ok-ending.ending c.begin_event_with_room.ensures.begun c.in_ok-copy.ensures
    c.in_ok-ending.ensures
    (subst (λ (o : Option Answer).
    IfSome o (λ a. (moment : ℕ)
    → Permitted (tcp now.recorded.header) moment (world now) (Effect c.args.thread a)))
    c.in-Ok-Some.field-0-is c.in-Ok-Some.ensures.permitted)
    c.requires.lane c.in_ok-add.ensures.ok)

pub returns-clause-some : goal.returns-clause-some
returns-clause-some c = (
  refl,
  c.update_after_answer.ensures ∙ ended_call c.args.self.now c.begin_event_with_room.new.self c.add.new.self c.add-2.new.self
      c.args.tick c.line.result c.args.thread c.in-Ok-Some.answer c.in_ok-copy.field-0 c.in_ok-ending.ending
      c.begin_event_with_room.ensures.begun c.in_ok-add.ensures.ok
      (c.in_ok-add-2.ensures.ok
      ∙ ap (λ (l : Label TakenLine). with_step c.add.new.self (step_of l)) c.call_end-end.ensures)
      c.in_ok-copy.ensures c.in_ok-ending.ensures c.line.ensures,
)

pub returns-clause-gives : goal.returns-clause-gives
returns-clause-gives c =
    let now : Core = c.args.self.now in
    subst (λ (o : Option Answer). IfSome o
    (λ a. GivesNext now.recorded.me (own_body now) (turn_of c.args.thread (world now).threads) a))
    c.in-Ok-Some.field-0-is c.in-Ok-Some.ensures.gives

pub returns-in-Ok-None-clause-none : goal.returns-in-Ok-None-clause-none
returns-in-Ok-None-clause-none c = (
  refl,
  no_answer c.args.self.now c.args.thread
      (subst (λ (o : Option Answer). IfNone o (KeptNoAnswer c.args.self.now c.args.thread)) c.in-Ok-None.field-0-is
      c.in-Ok-None.ensures.none),
)
