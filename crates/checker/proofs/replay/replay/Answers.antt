use Rattle.std.proofs.Common.{◌≡◌, Option, None, Some, subst}
use Rattle.std.specs.Prelude.{IfErr, OnOk}
use Rattle.verdict.specs.declared.rule.Rule.{Rule}
use Rattle.interval_order.specs.Orders.{Move, order_after}
use Rattle.spec_step.specs.Acts.{step_hidden}
use Rattle.spec_step.specs.Faults.{IfBroken}
use Rattle.spec_cases.specs.Cases.{Watched}
use Rattle.checker.proofs.HiddenLemmas.{hidden_broken, hidden_move, hidden_next}
use Rattle.checker.proofs.KeptLemmas.{placed_line, refused_line}
use Rattle.checker.proofs.replay.replay.Goals as goal

pub returns-in-Err-clause-broken : goal.returns-in-Err-clause-broken
returns-in-Err-clause-broken c =
    refused_line c.args.world.now.header c.args.window.now c.args.world.now.world c.args.step.now c.in-Line.named.now c.in-Err.rule
    (rw c.in-Line.is at c.act_of.ensures.act)
    (rw c.count.ensures at c.in-Err.ensures.rule)

pub returns-in-Ok-clause-broken : goal.returns-in-Ok-clause-broken
returns-in-Ok-clause-broken c =
    subst (λ (broken : Option Rule). IfErr c.take_line.result (λ fault. IfBroken fault (λ rule. broken ≡ Some rule)))
    (placed_line c.args.world.now c.args.window.now c.args.step.now c.in-Line.named.now c.in-Ok.line (rw c.in-Line.is at c.act_of.ensures.act)
    (rw c.count.ensures at c.in-Ok.ensures.rule) c.in-Ok.ensures.line)
    c.take_line.ensures.broken

pub returns-in-Ok-clause-admitted : goal.returns-in-Ok-clause-admitted
returns-in-Ok-clause-admitted c =
    subst (λ (broken : Option Rule). OnOk c.take_line.result (broken ≡ None))
    (placed_line c.args.world.now c.args.window.now c.args.step.now c.in-Line.named.now c.in-Ok.line (rw c.in-Line.is at c.act_of.ensures.act)
    (rw c.count.ensures at c.in-Ok.ensures.rule) c.in-Ok.ensures.line)
    c.take_line.ensures.admitted

pub returns-in-Hidden-clause-order : goal.returns-in-Hidden-clause-order
returns-in-Hidden-clause-order c =
    subst (λ (move : Move). OnOk c.pass.result (c.pass.new.window ≡ order_after c.args.window.now move))
    (hidden_move c.args.step.now (step_hidden c.in-Hidden.hidden) (rw c.in-Hidden.is at c.act_of.ensures.act))
    c.pass.ensures.order

pub returns-in-Hidden-clause-world : goal.returns-in-Hidden-clause-world
returns-in-Hidden-clause-world c =
    subst (λ (p : Watched). OnOk c.pass.result (c.pass.new.world ≡ p))
    (hidden_next c.args.window.now c.args.world.now c.args.step.now (step_hidden c.in-Hidden.hidden)
    (rw c.in-Hidden.is at c.act_of.ensures.act))
    c.pass.ensures.world

pub returns-in-Hidden-clause-admitted : goal.returns-in-Hidden-clause-admitted
returns-in-Hidden-clause-admitted c =
    subst (λ (broken : Option Rule). OnOk c.pass.result (broken ≡ None))
    (hidden_broken c.args.world.now.header c.args.window.now c.args.world.now.world c.args.step.now (step_hidden c.in-Hidden.hidden)
    (rw c.in-Hidden.is at c.act_of.ensures.act))
    c.pass.ensures.admitted

pub returns-in-Hidden-clause-broken : goal.returns-in-Hidden-clause-broken
returns-in-Hidden-clause-broken c =
    subst (λ (broken : Option Rule). IfErr c.pass.result (λ fault. IfBroken fault (λ rule. broken ≡ Some rule)))
    (hidden_broken c.args.world.now.header c.args.window.now c.args.world.now.world c.args.step.now (step_hidden c.in-Hidden.hidden)
    (rw c.in-Hidden.is at c.act_of.ensures.act))
    c.pass.ensures.broken
