use Rattle.std.proofs.Common.{◌<◌, ℕ, List, sym, ap, ◌∙◌, arith}
use Rattle.std.specs.FinSet.{FinSet, from_list, union}
use Rattle.std.specs.Ordering.{nat_cmp}
use Rattle.streams.specs.Flying.{flying_in}
use Rattle.streams.specs.declared.outstanding.Outstanding.{Outstanding}
use Rattle.spec_flights.specs.Delivered.{ends_among}
use Rattle.scoreboard.proofs.WalkLemmas.{an_end, more_ends, no_end, no_ends}
use Rattle.scoreboard.proofs.walk.add_ends.Goals as goal

pub loop-run-preserved-in_ok-add : goal.loop-run-preserved-in_ok-add
loop-run-preserved-in_ok-add c =
    let some : 0 < c.in-Some.run'.upto = omega (arith, c.in-Some.ensures.some.1) in
    ap (λ (s : FinSet nat_cmp). union s (from_list (ends_among rest))) c.in_ok-add.ensures.ok
    ∙ (more_ends c.loop-run.ends c.in-Some.run'.upto (ends_among rest) some
    ∙ (ap (λ (es : List ℕ). union c.loop-run.ends (from_list es))
    (sym (ap ends_among c.in-Some.ensures.some.3 ∙ an_end c.in-Some.run' rest c.in-Some.ensures.some.1 c.if-run.true))
    ∙ c.loop-run.invariant))
  where
    rest : List (ℕ × Outstanding)
    rest = flying_in c.args.known.now c.args.told.now c.in-Some.run'.upto c.args.stretch.upto

pub loop-run-preserved : goal.loop-run-preserved
loop-run-preserved c =
    ap (λ (es : List ℕ). union c.loop-run.ends (from_list es))
    (sym (ap ends_among c.in-Some.ensures.some.3 ∙ no_end c.in-Some.run' rest c.in-Some.ensures.some.1 c.if-run.false))
    ∙ c.loop-run.invariant
  where
    rest : List (ℕ × Outstanding)
    rest = flying_in c.args.known.now c.args.told.now c.in-Some.run'.upto c.args.stretch.upto

pub returns : goal.returns
returns c =
    sym (no_ends c.loop-run.ends)
    ∙ (ap (λ (xs : List (ℕ × Outstanding)). union c.loop-run.ends (from_list (ends_among xs))) (sym (c.next_run.ensures.none c.in_default.is))
    ∙ c.loop-run.invariant)
