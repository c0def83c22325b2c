use Rattle.std.proofs.Common.{◌≡◌, ◌∙◌, ap, refl, sym, subst}
use Rattle.std.specs.FinSet.{FinSet, difference}
use Rattle.std.specs.Ordering.{nat_cmp}
use Rattle.streams.specs.Ranges.{span}
use Rattle.streams.specs.RangeEntries.{AreApart, cleared, held}
use Rattle.streams.proofs.RangeRemoved.{cleared_entries, forgotten_apart, forgotten_set}
use Rattle.streams.proofs.ranges.Ranges.forget_below.Goals as goal

entries : (c : goal.After-begin_at) → c.begin_at.new.starts.entries ≡ cleared 0 c.args.position c.self.inside.starts.entries
entries c =
    cleared_entries c.self.inside.starts.entries c.drop_between.new.map.entries c.remove.new.self.entries c.begin_at.new.starts.entries
    0 c.args.position 0 refl c.drop_between.ensures c.remove.ensures.entries c.begin_at.ensures

pub invariant_of-self : goal.invariant_of-self
invariant_of-self c = subst (AreApart 0) (sym (entries c)) (forgotten_apart c.self.inside.starts.entries c.args.position c.self.invariant)

pub returns : goal.returns
returns c =
    ap held (entries c)
    ∙ (forgotten_set c.self.inside.starts.entries c.args.position c.self.invariant
    ∙ ap (λ (s : FinSet nat_cmp). difference s (span 0 c.args.position)) c.self.view_is)
