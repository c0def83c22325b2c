use Rattle.std.proofs.Common.{◌≡◌, ◌+◌, ◌∙◌, ap, sym, subst, arith, suc}
use Rattle.std.specs.FinSet.{FinSet, difference}
use Rattle.std.specs.Ordering.{nat_cmp}
use Rattle.streams.specs.Ranges.{span}
use Rattle.streams.specs.RangeEntries.{AreApart, cleared, held, with_lower}
use Rattle.streams.proofs.RangeRemoved.{cleared_entries, none_removed, removed_apart, removed_set}
use Rattle.streams.proofs.ranges.Ranges.remove.Goals as goal

pub returns-then-upto-from-clause-ok : goal.returns-then-upto-from-clause-ok
returns-then-upto-from-clause-ok c = none_removed c.args.self.now c.args.from c.args.upto c.if-upto-from.true

entries : (c : goal.After-begin_at)
    → c.begin_at.new.starts.entries ≡ cleared (suc c.args.from) c.args.upto (with_lower c.args.from c.self.inside.starts.entries)
entries c =
    cleared_entries c.keep_lower.new.starts.entries c.drop_between.new.map.entries c.remove.new.self.entries c.begin_at.new.starts.entries
    (c.args.from + 1) c.args.upto (suc c.args.from) (omega arith) c.drop_between.ensures c.remove.ensures.entries c.begin_at.ensures
    ∙ ap (cleared (suc c.args.from) c.args.upto) c.in_ok-keep_lower.ensures.ok

pub invariant_of-self-2 : goal.invariant_of-self-2
invariant_of-self-2 c =
    subst (AreApart 0) (sym (entries c)) (removed_apart c.self.inside.starts.entries 0 c.args.from c.args.upto c.self.invariant c.if-upto-from.false)

pub returns-clause-ok : goal.returns-clause-ok
returns-clause-ok c =
    ap held (entries c)
    ∙ (removed_set c.self.inside.starts.entries c.args.from c.args.upto c.self.invariant c.if-upto-from.false
    ∙ ap (λ (s : FinSet nat_cmp). difference s (span c.args.from c.args.upto)) c.self.view_is)
