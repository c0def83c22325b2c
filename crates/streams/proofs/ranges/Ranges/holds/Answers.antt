use Rattle.std.proofs.Common.{◌∙◌, ap, sym}
use Rattle.std.specs.FinSet.{FinSet, contains}
use Rattle.std.specs.Ordering.{nat_cmp}
use Rattle.streams.proofs.RangeLemmas.{begun_by, holds_is}
use Rattle.streams.proofs.ranges.Ranges.holds.Goals as goal

pub returns-in-Some : goal.returns-in-Some
returns-in-Some c =
    ap (begun_by c.args.position) c.in-Some.ensures
    ∙ (sym (holds_is c.self.inside.starts.entries c.args.position c.self.invariant) ∙ ap (λ (s : FinSet nat_cmp). contains s c.args.position) c.self.view_is)

pub returns-in-None : goal.returns-in-None
returns-in-None c =
    ap (begun_by c.args.position) c.in-None.ensures
    ∙ (sym (holds_is c.self.inside.starts.entries c.args.position c.self.invariant) ∙ ap (λ (s : FinSet nat_cmp). contains s c.args.position) c.self.view_is)
