use Rattle.std.proofs.Common.{refl, ap, ◌∙◌}
use Rattle.flights.specs.contracts.flight.Flight.{the_view}
use Rattle.flights.proofs.FreeLemmas.{above_first, all_marked, keeps, marked_before, marked_rest, none_before, none_marked}
use Rattle.flights.proofs.flight.Flight.marked_upto.Goals as goal

pub returns-then-not-self-clause-marked : goal.returns-then-not-self-clause-marked
returns-then-not-self-clause-marked c =
    let kept = keeps _ c.args.self.now c.self-inside.inside.0.1.1.0 c.self-inside.inside.0.1.1.1.0.told
    (ap the_view c.self-inside.view_is ∙ c.self.view_is) refl refl in
    all_marked kept c.args.at c.next_missing-end.result c.if-not-self.true c.next_missing-end.ensures.held

pub returns-then-not-self-clause-none : goal.returns-then-not-self-clause-none
returns-then-not-self-clause-none c here =
    let kept = keeps _ c.args.self.now c.self-inside.inside.0.1.1.0 c.self-inside.inside.0.1.1.1.0.told
    (ap the_view c.self-inside.view_is ∙ c.self.view_is) refl refl in
    none_marked kept c.args.at c.next_missing-end.result c.next_missing-end.ensures.missing here

pub returns-in-Some-clause-above : goal.returns-in-Some-clause-above
returns-in-Some-clause-above c =
    let kept = keeps _ c.args.self.now c.self-inside.inside.0.1.1.0 c.self-inside.inside.0.1.1.1.0.told
    (ap the_view c.self-inside.view_is ∙ c.self.view_is) refl refl in
    above_first kept c.args.at c.next_missing-end.result c.in-Some.told c.min.result c.next_missing-end.ensures.from c.in-Some.ensures.first c.min.ensures

pub returns-in-Some-clause-marked : goal.returns-in-Some-clause-marked
returns-in-Some-clause-marked c =
    let kept = keeps _ c.args.self.now c.self-inside.inside.0.1.1.0 c.self-inside.inside.0.1.1.1.0.told
    (ap the_view c.self-inside.view_is ∙ c.self.view_is) refl refl in
    marked_before kept c.args.at c.next_missing-end.result c.in-Some.told c.min.result c.next_missing-end.ensures.held c.in-Some.ensures.first c.min.ensures

pub returns-in-Some-clause-none : goal.returns-in-Some-clause-none
returns-in-Some-clause-none c here =
    let kept = keeps _ c.args.self.now c.self-inside.inside.0.1.1.0 c.self-inside.inside.0.1.1.1.0.told
    (ap the_view c.self-inside.view_is ∙ c.self.view_is) refl refl in
    none_before kept c.args.at c.next_missing-end.result c.in-Some.told c.min.result c.if-not-self.false c.next_missing-end.ensures.missing
    c.in-Some.ensures.first c.min.ensures here

pub returns-in-None-clause-marked : goal.returns-in-None-clause-marked
returns-in-None-clause-marked c =
    let kept = keeps _ c.args.self.now c.self-inside.inside.0.1.1.0 c.self-inside.inside.0.1.1.1.0.told
    (ap the_view c.self-inside.view_is ∙ c.self.view_is) refl refl in
    marked_rest kept c.args.at c.next_missing-end.result c.next_missing-end.ensures.held c.in-None.ensures.first

pub returns-in-None-clause-none : goal.returns-in-None-clause-none
returns-in-None-clause-none c here =
    let kept = keeps _ c.args.self.now c.self-inside.inside.0.1.1.0 c.self-inside.inside.0.1.1.1.0.told
    (ap the_view c.self-inside.view_is ∙ c.self.view_is) refl refl in
    none_marked kept c.args.at c.next_missing-end.result c.next_missing-end.ensures.missing here
