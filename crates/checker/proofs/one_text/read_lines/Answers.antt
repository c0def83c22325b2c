use Rattle.std.proofs.Common.{Ok, ap, rules, sym, subst, ◌∙◌}
use Rattle.trace_reader.specs.EventLines.{Place}
use Rattle.trace_reader.specs.TraceLeft.{StandsAt, place_of}
use Rattle.checker.proofs.AheadLemmas.{one_passed}
use Rattle.checker.proofs.OneTextLemmas.{at_more, behind_more}
use Rattle.checker.proofs.one_text.read_lines.Goals as goal

pub loop-lines-preserved : goal.loop-lines-preserved
loop-lines-preserved g c =
    let loop = c.loop-lines.invariant in
    let kept = c.keep_next.ensures.next (c.in_ok-keep_next.was ∙ ap (λ b. Ok b) c.if-branch.true) in
    let stands = subst (λ (p : Place). StandsAt p kept.line) loop.behind kept.stands in
    record {
      working = c.in_ok-keep_next.ensures.working;
      begun = c.keep_next.ensures.begun;
      none = c.keep_next.ensures.none;
      passed = rw kept.kept (one_passed _ _ _ c.loop-lines.lines kept.line loop.passed kept.next);
      at = rw kept.kept (at_more _ c.loop-lines.lines kept.line loop.at stands);
      behind = rw kept.kept (rw (behind_more (place_of c.args.trace.now) c.loop-lines.lines kept.line, sym loop.behind) kept.moves);
      kept = λ w is. c.in_ok-keep_next.ensures.witness w (loop.kept w is);
      counts = search rules;
    }
