use Rattle.std.proofs.Common.{ℕ, List, sym, ap, ◌∙◌}
use Rattle.std.specs.Prelude.{Option}
use Rattle.streams.specs.Flying.{flying_in}
use Rattle.streams.specs.declared.outstanding.Outstanding.{Outstanding}
use Rattle.spec_flights.specs.Delivered.{least_after}
use Rattle.scoreboard.proofs.WalkLemmas.{least_run}
use Rattle.scoreboard.proofs.walk.least_in.Goals as goal

pub loop-run-preserved : goal.loop-run-preserved
loop-run-preserved c =
    ap (λ (o : Option ℕ). least_after c.args.moment o rest) c.least_by-shortest.ensures
    ∙ (sym (least_run c.args.moment c.loop-run.shortest c.in-Some.run' rest c.in-Some.ensures.some.1)
    ∙ (ap (least_after c.args.moment c.loop-run.shortest) (sym c.in-Some.ensures.some.3) ∙ c.loop-run.invariant))
  where
    rest : List (ℕ × Outstanding)
    rest = flying_in c.args.known.now c.args.told.now c.in-Some.run'.upto c.args.stretch.upto

pub returns : goal.returns
returns c = ap (least_after c.args.moment c.loop-run.shortest) (sym (c.next_run.ensures.none c.in_default.is)) ∙ c.loop-run.invariant
