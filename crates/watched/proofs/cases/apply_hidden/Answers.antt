use Rattle.std.proofs.Common.{◌≡◌, None, Some, subst, sym, ◌∙◌}
use Rattle.std.specs.Prelude.{IfErr, OnOk}
use Rattle.case_forms.specs.declared.trace.Header.{Header}
use Rattle.spec_step.specs.Acts.{step_hidden}
use Rattle.spec_step.specs.Faults.{IfBroken}
use Rattle.spec_cases.specs.Cases.{Watched, after, broken_by}
use Rattle.watched.specs.Watched.{IsPlain, case_of}
use Rattle.watched.proofs.CaseLemmas.{bare_is_plain, plain_line_admits, plain_line_breaks, plain_line_is}
use Rattle.watched.proofs.cases.apply_hidden.Goals as goal

pub returns-then-is_bare-clause-ok : goal.returns-then-is_bare-clause-ok
returns-then-is_bare-clause-ok c =
    subst (λ (p : Watched). OnOk c.apply.result
    (case_of c.apply.new.world c.case.inside.flights c.case.inside.duties ≡ after p c.args.moment (step_hidden c.args.step.now))) c.case.view_is
    (plain_line_is c.apply.result c.case.inside.world c.apply.new.world c.case.inside.flights c.case.inside.duties c.args.moment
    (Some (step_hidden c.args.step.now))
    (subst (λ (h : Header). IsPlain h (Some (step_hidden c.args.step.now))) c.header.ensures
    (bare_is_plain c.header.result.now (Some (step_hidden c.args.step.now)) (sym c.is_bare.ensures ∙ c.if-is_bare.true)))
    c.apply.ensures.ok)

pub returns-then-is_bare-clause-admitted : goal.returns-then-is_bare-clause-admitted
returns-then-is_bare-clause-admitted c =
    subst (λ (p : Watched). OnOk c.apply.result (broken_by p c.args.moment (step_hidden c.args.step.now) ≡ None)) c.case.view_is
    (plain_line_admits c.apply.result c.case.inside.world c.case.inside.flights c.case.inside.duties c.args.moment
    (Some (step_hidden c.args.step.now))
    (subst (λ (h : Header). IsPlain h (Some (step_hidden c.args.step.now))) c.header.ensures
    (bare_is_plain c.header.result.now (Some (step_hidden c.args.step.now)) (sym c.is_bare.ensures ∙ c.if-is_bare.true)))
    c.apply.ensures.admitted)

pub returns-then-is_bare-clause-broken : goal.returns-then-is_bare-clause-broken
returns-then-is_bare-clause-broken c =
    subst (λ (p : Watched). IfErr c.apply.result (λ fault. IfBroken fault
    (λ rule. broken_by p c.args.moment (step_hidden c.args.step.now) ≡ Some rule))) c.case.view_is
    (plain_line_breaks c.apply.result c.case.inside.world c.case.inside.flights c.case.inside.duties c.args.moment
    (Some (step_hidden c.args.step.now))
    (subst (λ (h : Header). IsPlain h (Some (step_hidden c.args.step.now))) c.header.ensures
    (bare_is_plain c.header.result.now (Some (step_hidden c.args.step.now)) (sym c.is_bare.ensures ∙ c.if-is_bare.true)))
    c.apply.ensures.broken)
