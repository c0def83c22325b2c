use Rattle.std.proofs.Common.{◌≡◌, ℕ, true, refl, ap, ◌∙◌, subst, arith}
use Rattle.std.specs.List.{list_all}
use Rattle.streams.specs.Ranges.{positions}
use Rattle.spec_flights.specs.Flights.{is_free}
use Rattle.flights.specs.contracts.flight.Flight.{the_view}
use Rattle.flights.proofs.FreeLemmas.{keeps, marked_free, rests_unfree, run_free}
use Rattle.flights.proofs.flight.Flight.free_upto.Goals as goal

pub returns-then-at-marked-clause-some : goal.returns-then-at-marked-clause-some
returns-then-at-marked-clause-some c =
    (c.if-at-marked.true, marked_free c.args.self.now c.args.below c.args.at c.marked_upto-marked.result c.marked_upto-marked.ensures.marked)

pub returns-in-Some-clause-some : goal.returns-in-Some-clause-some
returns-in-Some-clause-some c =
    let kept = keeps _ c.args.self.now c.self-inside.inside.0.1.1.0 c.self-inside.inside.0.1.1.1.0.told
    (ap the_view c.self-inside.view_is ∙ c.self.view_is) refl refl in
    let size = c.in-Some.ensures.some.1 in
    let here = c.if-run-at.true in (
      omega (arith, size, here),
      subst (λ (n : ℕ). list_all (is_free c.args.below c.args.self.now) (positions n c.in-Some.run'.upto) ≡ true) here
          (run_free kept c.args.below c.in-Some.run'.from c.in-Some.run'.upto c.in-Some.run'.state c.if-run-below.true c.in-Some.ensures.alike),
    )

pub returns-in-Some-2-2-clause-none : goal.returns-in-Some-2-2-clause-none
returns-in-Some-2-2-clause-none c none =
    let kept = keeps _ c.args.self.now c.self-inside.inside.0.1.1.0 c.self-inside.inside.0.1.1.1.0.told
    (ap the_view c.self-inside.view_is ∙ c.self.view_is) refl refl in
    let above = c.marked_upto-marked.ensures.above in
    let over = c.if-at-marked.false in
    let from = c.in-Some.ensures.some.0 in
    let other = c.if-run-at.false in
    rests_unfree kept c.args.below c.args.at (c.marked_upto-marked.ensures.none (omega (arith, above, over)))
    (c.in-Some.ensures.before c.args.at (omega arith) (omega (arith, from, other)))

pub returns-in-Some-2-3-clause-none : goal.returns-in-Some-2-3-clause-none
returns-in-Some-2-3-clause-none c none =
    let kept = keeps _ c.args.self.now c.self-inside.inside.0.1.1.0 c.self-inside.inside.0.1.1.1.0.told
    (ap the_view c.self-inside.view_is ∙ c.self.view_is) refl refl in
    let above = c.marked_upto-marked.ensures.above in
    let over = c.if-at-marked.false in
    rests_unfree kept c.args.below c.args.at (c.marked_upto-marked.ensures.none (omega (arith, above, over)))
    (c.in-Some-2.ensures.rests refl c.args.at (omega arith) c.requires)
