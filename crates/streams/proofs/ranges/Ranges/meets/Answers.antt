use Rattle.std.proofs.Common.{◌≡◌, ◌∙◌, ap, sym, nat_lt, false, arith}
use Rattle.std.proofs.lemmas.Bool.Decides.{nat_tests}
use Rattle.std.specs.FinSet.{FinSet}
use Rattle.std.specs.Ordering.{nat_cmp}
use Rattle.streams.specs.Ranges.{meets}
use Rattle.streams.proofs.RangeLemmas.{meets_empty, meets_is, meets_nothing}
use Rattle.streams.proofs.ranges.Ranges.meets.Goals as goal

pub returns-then-from-upto : goal.returns-then-from-upto
returns-then-from-upto c =
    meets_is c.self.inside.starts.entries c.args.from c.args.upto (c.in-Some.field-0-0, c.in-Some.start) c.self.invariant
    (sym c.in-Some.ensures) c.if-from-upto.true
    ∙ ap (λ (s : FinSet nat_cmp). meets s c.args.from c.args.upto) c.self.view_is

pub returns-else-from-upto : goal.returns-else-from-upto
returns-else-from-upto c =
    let none = c.if-from-upto.false in
    let empty : nat_lt c.args.from c.args.upto ≡ false = grind (arith, nat_tests, none) in
    empty ∙ sym (meets_empty c.args.self.now c.args.from c.args.upto none)

pub returns-in-None : goal.returns-in-None
returns-in-None c =
    sym (meets_nothing c.self.inside.starts.entries c.args.from c.args.upto (sym c.in-None.ensures))
    ∙ ap (λ (s : FinSet nat_cmp). meets s c.args.from c.args.upto) c.self.view_is
