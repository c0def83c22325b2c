use Rattle.verdict.specs.Rules.{first_broken}
use Rattle.spec_network.specs.Hosts.{Answers, At, Effect}
use Rattle.spec_network.specs.HostRules.{step_rules}
use Rattle.spec_tcp.specs.Machine.{tcp}
use Rattle.spec_step.proofs.FaultLemmas.{broken}
use Rattle.spec_step.proofs.hidden.HiddenModelStep.apply.Goals as goal

pub returns-in-Reset-clause-broken : goal.returns-in-Reset-clause-broken
returns-in-Reset-clause-broken c =
    rw c.in-Reset.is (broken c.reply_with_reset.result
    (first_broken (step_rules (tcp c.args.world.now.header) c.args.moment c.args.world.now.world
    (At c.in-Reset.host (Answers c.in-Reset.line))))
    c.reply_with_reset.ensures.fault)

pub returns-in-Effect-clause-broken : goal.returns-in-Effect-clause-broken
returns-in-Effect-clause-broken c =
    rw c.in-Effect.is (broken c.have_effect.result
    (first_broken (step_rules (tcp c.args.world.now.header) c.args.moment c.args.world.now.world
    (Effect c.in-Effect.thread c.in-Effect.answer.now)))
    (c.have_effect.ensures.fault c.args.moment))
