use Rattle.std.proofs.Common.{Bool, [], refl, subst, rules}
use Rattle.witness.specs.StepsLeft.{steps_left}
use Rattle.checker.specs.Ahead.{Skips}
use Rattle.checker.proofs.AheadLemmas.{none_passed, skipped}
use Rattle.checker.proofs.steps.drain_steps.Goals as goal

pub loop-init : goal.loop-init
loop-init g c = record {
  working = c.requires;
  passed = ([], none_passed (steps_left g.B.Read.remaining c.args.steps.now));
  counts = refl;
}

pub loop-preserved : goal.loop-preserved
loop-preserved g c =
    let inv = c.loop.invariant in
    record {
      working = c.in_ok-skip_step.ensures.working;
      passed =
          skipped _ _ _ inv.passed.0 inv.passed.1
          (subst (λ (more : Bool). Skips more (steps_left g.B.Read.remaining c.loop.steps)
          (steps_left g.B.Read.remaining c.skip_step.new.steps)) c.if-branch.true c.in_ok-skip_step.ensures.next);
      counts = search rules;
    }
