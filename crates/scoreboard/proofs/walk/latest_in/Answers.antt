use Rattle.std.proofs.Common.{ℕ, List, sym, ap, ◌∙◌}
use Rattle.std.specs.Prelude.{Option}
use Rattle.streams.specs.Flying.{flying_in}
use Rattle.streams.specs.declared.outstanding.Outstanding.{Outstanding}
use Rattle.spec_flights.specs.Delivered.{latest_after}
use Rattle.spec_flights.specs.declared.making.Latest.{Latest}
use Rattle.scoreboard.proofs.WalkLemmas.{latest_run}
use Rattle.scoreboard.proofs.walk.latest_in.Goals as goal

pub loop-run-preserved : goal.loop-run-preserved
loop-run-preserved c =
    ap (λ (o : Option Latest). latest_after c.args.moment c.args.least o rest) c.latest_by-last.ensures
    ∙ (sym (latest_run c.args.moment c.args.least c.loop-run.last c.in-Some.run' rest c.in-Some.ensures.some.1)
    ∙ (ap (latest_after c.args.moment c.args.least c.loop-run.last) (sym c.in-Some.ensures.some.3) ∙ c.loop-run.invariant))
  where
    rest : List (ℕ × Outstanding)
    rest = flying_in c.args.known.now c.args.told.now c.in-Some.run'.upto c.args.stretch.upto

pub returns : goal.returns
returns c =
    ap (latest_after c.args.moment c.args.least c.loop-run.last) (sym (c.next_run.ensures.none c.in_default.is))
    ∙ c.loop-run.invariant
