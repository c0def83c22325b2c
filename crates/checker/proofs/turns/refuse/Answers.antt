use Rattle.std.proofs.Common.{sym, subst}
use Rattle.std.proofs.lemmas.Result.{err_from_is_err_and}
use Rattle.checker.specs.declared.case.CaseFault.{CaseFault}
use Rattle.checker.specs.Ahead.{left_ahead}
use Rattle.checker.specs.Streaming.{CaseFails}
use Rattle.checker.proofs.EndLemmas.{lines_fail, steps_fail, refused_ends}
use Rattle.checker.proofs.turns.refuse.Goals as goal

pub returns-in_err-drain-clause-tells : goal.returns-in_err-drain-clause-tells
returns-in_err-drain-clause-tells g c = λ header t s broken.
    let p = err_from_is_err_and c.from_residual.result c.from_residual.ensures.1 in
    rw p.1 (subst (λ (e : CaseFault). CaseFails e t s) (sym p.2)
    (lines_fail header t (left_ahead g.A.Read.remaining c.args.lines.now) s
    (g.S.StepSource.left c.args.steps.now) _ _ _ _ broken
    c.in_err-drain.ensures.fault))

pub returns-in_err-drain-2-clause-tells : goal.returns-in_err-drain-2-clause-tells
returns-in_err-drain-2-clause-tells g c = λ header t s broken.
    let all = c.in_ok-drain.ensures.all in
    let p = err_from_is_err_and c.from_residual-in_err-drain-2.result c.from_residual-in_err-drain-2.ensures.1 in
    rw p.1 (subst (λ (e : CaseFault). CaseFails e t s) (sym p.2)
    (steps_fail header t (left_ahead g.A.Read.remaining c.args.lines.now) s
    (g.S.StepSource.left c.args.steps.now) _ _ _ _ all.0 broken all.1
    c.in_err-drain-2.ensures.fault))

pub returns-clause-tells : goal.returns-clause-tells
returns-clause-tells g c = λ header t s broken.
    let all = c.in_ok-drain.ensures.all in
    let rest = c.in_ok-drain-2.ensures.all in
    rw (c.step_line.ensures, c.line_named.ensures)
    (refused_ends header t (left_ahead g.A.Read.remaining c.args.lines.now) s
    (g.S.StepSource.left c.args.steps.now) _ _ _ all.0 rest.0 broken all.1 rest.1)
