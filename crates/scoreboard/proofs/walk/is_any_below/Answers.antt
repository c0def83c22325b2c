use Rattle.std.proofs.Common.{◌≡◌, ℕ, Bool, true, false, nat_lt, List, sym, ap, ◌∙◌, arith}
use Rattle.std.proofs.lemmas.Bool.Decides.{nat_tests}
use Rattle.std.specs.List.{list_any}
use Rattle.std.specs.Prelude.{◌||◌}
use Rattle.streams.specs.Flying.{flying_in}
use Rattle.streams.specs.declared.outstanding.Outstanding.{Outstanding}
use Rattle.scoreboard.proofs.WalkLemmas.{any_run}
use Rattle.scoreboard.proofs.walk.is_any_below.Goals as goal

pub returns-then-run-number : goal.returns-then-run-number
returns-then-run-number c =
    let under = c.if-run-number.true in
    let is : nat_lt c.in-Some.run'.state.number c.args.number ≡ true = grind (arith, nat_tests, under) in
    sym
    (sym c.loop-run.invariant
    ∙ (ap (list_any (λ x. nat_lt x.1.number c.args.number)) c.in-Some.ensures.some.3
    ∙ (any_run c.args.number c.in-Some.run' rest c.in-Some.ensures.some.1
    ∙ ap (λ (b : Bool). b || list_any (λ x. nat_lt x.1.number c.args.number) rest) is)))
  where
    rest : List (ℕ × Outstanding)
    rest = flying_in c.args.known.now c.args.told.now c.in-Some.run'.upto c.args.stretch.upto

pub loop-run-preserved : goal.loop-run-preserved
loop-run-preserved c =
    let over = c.if-run-number.false in
    let is : nat_lt c.in-Some.run'.state.number c.args.number ≡ false = grind (arith, nat_tests, over) in
    sym
    (ap (list_any (λ x. nat_lt x.1.number c.args.number)) c.in-Some.ensures.some.3
    ∙ (any_run c.args.number c.in-Some.run' rest c.in-Some.ensures.some.1
    ∙ ap (λ (b : Bool). b || list_any (λ x. nat_lt x.1.number c.args.number) rest) is))
    ∙ c.loop-run.invariant
  where
    rest : List (ℕ × Outstanding)
    rest = flying_in c.args.known.now c.args.told.now c.in-Some.run'.upto c.args.stretch.upto

pub returns : goal.returns
returns c =
    sym (ap (list_any (λ x. nat_lt x.1.number c.args.number)) (c.next_run.ensures.none c.in_default.is))
    ∙ c.loop-run.invariant
