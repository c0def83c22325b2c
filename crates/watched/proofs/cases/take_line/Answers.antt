use Rattle.std.proofs.Common.{◌≡◌, None, Some, refl, subst}
use Rattle.std.specs.Prelude.{IfErr, OnOk}
use Rattle.case_forms.specs.declared.trace.Header.{Header}
use Rattle.verdict.specs.Rules.{first_broken}
use Rattle.spec_step.specs.Asked.{step_taking}
use Rattle.spec_step.specs.Faults.{IfBroken}
use Rattle.spec_cases.specs.Cases.{Watched, asked_after, asked_rules}
use Rattle.watched.specs.Watched.{IsPlain, case_of}
use Rattle.watched.proofs.CaseLemmas.{plain_line_admits, plain_line_breaks, plain_line_is}
use Rattle.watched.proofs.cases.take_line.Goals as goal

pub returns-then-is_plain-clause-ok : goal.returns-then-is_plain-clause-ok
returns-then-is_plain-clause-ok c =
    subst (λ (p : Watched). OnOk c.take_line.result
    (case_of c.take_line.new.world c.case.inside.flights c.case.inside.duties ≡ asked_after p c.args.moment (step_taking c.args.extras c.args.line)))
    c.case.view_is
    (plain_line_is c.take_line.result c.case.inside.world c.take_line.new.world c.case.inside.flights c.case.inside.duties c.args.moment
    (step_taking c.args.extras c.args.line)
    (subst (λ (h : Header). IsPlain h (step_taking c.args.extras c.args.line)) c.header.ensures
    (c.if-is_plain.ensures refl c.args.extras))
    c.take_line.ensures.ok)

pub returns-then-is_plain-clause-admitted : goal.returns-then-is_plain-clause-admitted
returns-then-is_plain-clause-admitted c =
    subst (λ (p : Watched). OnOk c.take_line.result
    (first_broken (asked_rules p c.args.moment (step_taking c.args.extras c.args.line)) ≡ None)) c.case.view_is
    (plain_line_admits c.take_line.result c.case.inside.world c.case.inside.flights c.case.inside.duties c.args.moment
    (step_taking c.args.extras c.args.line)
    (subst (λ (h : Header). IsPlain h (step_taking c.args.extras c.args.line)) c.header.ensures
    (c.if-is_plain.ensures refl c.args.extras))
    c.take_line.ensures.admitted)

pub returns-then-is_plain-clause-broken : goal.returns-then-is_plain-clause-broken
returns-then-is_plain-clause-broken c =
    subst (λ (p : Watched). IfErr c.take_line.result (λ fault. IfBroken fault
    (λ rule. first_broken (asked_rules p c.args.moment (step_taking c.args.extras c.args.line)) ≡ Some rule))) c.case.view_is
    (plain_line_breaks c.take_line.result c.case.inside.world c.case.inside.flights c.case.inside.duties c.args.moment
    (step_taking c.args.extras c.args.line)
    (subst (λ (h : Header). IsPlain h (step_taking c.args.extras c.args.line)) c.header.ensures
    (c.if-is_plain.ensures refl c.args.extras))
    c.take_line.ensures.broken)
