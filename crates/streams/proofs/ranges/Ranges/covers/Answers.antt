use Rattle.std.proofs.Common.{◌≡◌, ◌∙◌, ap, sym, nat_le, true, false, arith}
use Rattle.std.proofs.lemmas.Bool.Decides.{nat_tests}
use Rattle.std.specs.FinSet.{FinSet}
use Rattle.std.specs.Ordering.{nat_cmp}
use Rattle.streams.specs.Ranges.{covers}
use Rattle.streams.proofs.RangeLemmas.{covers_empty, covers_is, covers_nothing}
use Rattle.streams.proofs.ranges.Ranges.covers.Goals as goal

pub returns-then-upto-from : goal.returns-then-upto-from
returns-then-upto-from c = sym (covers_empty c.args.self.now c.args.from c.args.upto c.if-upto-from.true)

pub returns-then-start-from : goal.returns-then-start-from
returns-then-start-from c =
    let low = c.if-start-from.true in
    let begun : nat_le c.in-Some.start c.args.from ≡ true = grind (arith, nat_tests, low) in
    let is = rw begun at (covers_is c.self.inside.starts.entries c.args.from c.args.upto (c.in-Some.end, c.in-Some.start) c.self.invariant
    (sym c.in-Some.ensures) c.if-upto-from.false) in
    is ∙ ap (λ (s : FinSet nat_cmp). covers s c.args.from c.args.upto) c.self.view_is

pub returns-else-start-from : goal.returns-else-start-from
returns-else-start-from c =
    let high = c.if-start-from.false in
    let late : nat_le c.in-Some.start c.args.from ≡ false = grind (arith, nat_tests, high) in
    let is = rw late at (covers_is c.self.inside.starts.entries c.args.from c.args.upto (c.in-Some.end, c.in-Some.start) c.self.invariant
    (sym c.in-Some.ensures) c.if-upto-from.false) in
    late ∙ (is ∙ ap (λ (s : FinSet nat_cmp). covers s c.args.from c.args.upto) c.self.view_is)

pub returns-in-None : goal.returns-in-None
returns-in-None c =
    sym (covers_nothing c.self.inside.starts.entries c.args.from c.args.upto c.if-upto-from.false (sym c.in-None.ensures))
    ∙ ap (λ (s : FinSet nat_cmp). covers s c.args.from c.args.upto) c.self.view_is
