use Rattle.std.proofs.Common.{◌≡◌, ◌∙◌, ◌+◌, ◌++◌, ◌∷◌, [], ap, arith, length-append, Option, rules, subst, sym, ℕ}
use Rattle.std.proofs.lemmas.Result.{err_from_is_err_and}
use Rattle.case_forms.specs.declared.steps.Step.{Step}
use Rattle.line_fields.specs.Left.{Yields}
use Rattle.verdict.specs.declared.report.Verdict.TheVariants.{No}
use Rattle.checker.specs.declared.ahead.Ahead.{Ahead}
use Rattle.checker.specs.declared.case.CaseFault.{CaseFault}
use Rattle.checker.specs.declared.turns.StepCounts.{StepCounts}
use Rattle.checker.specs.Ahead.{left_ahead, Passes}
use Rattle.checker.specs.Verdicts.{takes_line, line_named}
use Rattle.checker.specs.Streaming.{CaseFails, SoFar, Tallied}
use Rattle.checker.specs.Turns.{counted_with}
use Rattle.checker.proofs.AheadLemmas.{trace_fails_before}
use Rattle.checker.proofs.EndLemmas.{case_fails_before, tally_more, tally_is}
use Rattle.checker.proofs.TurnLemmas.{trace_first}
use Rattle.checker.proofs.verdicts.judge_in.Goals as goal

pub returns-in_err-read_step-clause-tells : goal.returns-in_err-read_step-clause-tells
returns-in_err-read_step-clause-tells g c = λ header t s offered begun.
    let so_far = c.loop-item.invariant.goes header t s offered begun in
    let p = err_from_is_err_and c.from_residual.result c.from_residual.ensures.1 in
    rw p.1 (subst (λ (e : CaseFault). CaseFails e t s) (sym p.2)
    (case_fails_before t (left_ahead g.A.Read.remaining c.loop-item.lines) s (g.S.StepSource.left c.loop-item.steps)
    so_far.0 so_far.1 _ so_far.2.passed so_far.2.done c.in_err-read_step.ensures.fault))

pub returns-in_err-replay_next-clause-tells : goal.returns-in_err-replay_next-clause-tells
returns-in_err-replay_next-clause-tells g c = λ header t s offered begun.
    let so_far = c.loop-item.invariant.goes header t s offered begun in
    let here = subst (λ (l : Ahead _). Passes t (left_ahead g.A.Read.remaining l) so_far.0) (sym c.in_ok-read_step.ensures.unread) so_far.2.passed in
    let p = err_from_is_err_and c.from_residual-in_err-replay_next.result c.from_residual-in_err-replay_next.ensures.1 in
    rw p.1 (subst (λ (e : CaseFault). CaseFails e t s) (sym p.2)
    (trace_first _ t s (trace_fails_before t _ so_far.0 _ here c.in_err-replay_next.ensures.fault)))

pub returns-in_default-clause-tells : goal.returns-in_default-clause-tells
returns-in_default-clause-tells g c = λ header t s offered begun.
    let so_far = c.loop-item.invariant.goes header t s offered begun in
    let here =
    subst (λ (l : Ahead _). SoFar header t (left_ahead g.A.Read.remaining l) s (g.S.StepSource.left c.loop-item.steps)
    c.loop-item.window c.loop-item.world so_far.0 so_far.1) (sym c.in_ok-read_step.ensures.unread) so_far.2 in
    let next =
    subst (λ (item : Option Step). Yields (g.S.StepSource.left c.loop-item.steps) (g.S.StepSource.left c.read_step.new.steps) item)
    c.in_default.is c.in_ok-read_step.ensures.next in
    c.end_of_witness.ensures.tells header t s so_far.0 so_far.1 (g.S.StepSource.left c.loop-item.steps)
    (g.S.StepSource.left c.read_step.new.steps) here next so_far.3

pub returns-in-Err-Broken-clause-tells : goal.returns-in-Err-Broken-clause-tells
returns-in-Err-Broken-clause-tells g c = λ header t s offered begun.
    let so_far = c.loop-item.invariant.goes header t s offered begun in
    let here =
    subst (λ (l : Ahead _). SoFar header t (left_ahead g.A.Read.remaining l) s (g.S.StepSource.left c.loop-item.steps)
    c.loop-item.window c.loop-item.world so_far.0 so_far.1) (sym c.in_ok-read_step.ensures.unread) so_far.2 in
    let next =
    subst (λ (item : Option Step). Yields (g.S.StepSource.left c.loop-item.steps) (g.S.StepSource.left c.read_step.new.steps) item)
    c.in-Some.is c.in_ok-read_step.ensures.next in
    let after = rw (c.in-Err-Broken.is, c.in-Err-Broken.field-0-is) at (c.in_ok-replay_next.ensures.after header t s _ _ so_far.0 so_far.1 here next) in
    c.refuse.ensures.tells header t s (
      so_far.1,
      g.S.StepSource.left c.loop-item.steps,
      c.in-Some.step,
      after.0,
      so_far.2.done,
      next,
      after.1,
      λ all whole rest. rw c.in-Err-Broken.field-0-is
          (after.2 all whole rest ∙ ap (λ (n : ℕ). No (n + 2) (line_named c.in-Some.step.label) c.in-Err-Broken.rule) so_far.4),
    )

pub loop-item-preserved : goal.loop-item-preserved
loop-item-preserved g c =
    let inv = c.loop-item.invariant in
    let place = rw c.in-Some.is at c.in_ok-read_step.ensures.place in
    let fewer = place.1 in
    let few = inv.few in
    let done = inv.done in
    let steps = rw c.in-Ok.is at c.in_ok-replay_next.ensures.steps in
    let sum = tally_is c.loop-item.tally _ c.with-tally.result c.with-tally.ensures in
    record {
      ahead = c.in_ok-replay_next.ensures.ahead;
      in_step = rw c.in-Ok.is at c.in_ok-replay_next.ensures.in_step;
      working = c.in_ok-read_step.ensures.working;
      few = omega (arith, fewer, few, sum);
      done = omega (arith, steps, done, sum);
      lines_count = search rules;
      steps_count = search rules;
      goes = λ header t s offered begun.
          let so_far = inv.goes header t s offered begun in
          let here =
          subst (λ (l : Ahead _). SoFar header t (left_ahead g.A.Read.remaining l) s (g.S.StepSource.left c.loop-item.steps)
          c.loop-item.window c.loop-item.world so_far.0 so_far.1) (sym c.in_ok-read_step.ensures.unread) so_far.2 in
          let next =
          subst (λ (item : Option Step). Yields (g.S.StepSource.left c.loop-item.steps) (g.S.StepSource.left c.read_step.new.steps) item)
          c.in-Some.is c.in_ok-read_step.ensures.next in
          let after = rw c.in-Ok.is at (c.in_ok-replay_next.ensures.after header t s _ _ so_far.0 so_far.1 here next) in
          let len = length-append so_far.1 (c.in-Some.step ∷ []) in
          let long = so_far.4 in
          let told : c.with-tally.result ≡ counted_with c.loop-item.tally (takes_line c.in-Some.step.label) =
          c.with-tally.ensures ∙ ap (counted_with c.loop-item.tally) c.takes_line.ensures in (
            so_far.0 ++ after.0,
            so_far.1 ++ c.in-Some.step ∷ [],
            after.1,
            subst (λ (x : StepCounts). Tallied (so_far.1 ++ c.in-Some.step ∷ []) x.lines x.hidden) (sym told)
                (tally_more so_far.1 c.in-Some.step c.loop-item.tally so_far.3),
            omega (arith, len, long, sum),
          );
    }
