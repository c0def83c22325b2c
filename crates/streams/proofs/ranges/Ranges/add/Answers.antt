use Rattle.std.proofs.Common.{◌≡◌, ◌∙◌, ap, sym, subst, arith}
use Rattle.std.specs.FinSet.{FinSet, union}
use Rattle.std.specs.Ordering.{nat_cmp}
use Rattle.streams.specs.Ranges.{span}
use Rattle.streams.specs.RangeEntries.{AreApart, held, joined_end, joined_start}
use Rattle.streams.proofs.RangeAdded.{added_apart, added_entries, added_set, end_from, none_added, put}
use Rattle.streams.proofs.ranges.Ranges.add.Goals as goal

pub returns-then-upto-from-clause-ok : goal.returns-then-upto-from-clause-ok
returns-then-upto-from-clause-ok c = none_added c.args.self.now c.args.from c.args.upto c.if-upto-from.true

pub drop_between-requires : goal.drop_between-requires
drop_between-requires c =
    let some = c.if-upto-from.false in
    let end = end_from c.self.inside.starts.entries c.args.upto in
    let is = c.joined_end-end.ensures in
    omega (arith, some, end, is)

entries : (c : goal.After-drop_between) → c.drop_between.new.map.entries
    ≡ put c.args.from (joined_end c.args.upto c.self.inside.starts.entries) (joined_start c.args.from c.self.inside.starts.entries) c.self.inside.starts.entries
entries c =
    added_entries c.self.inside.starts.entries c.insert.new.self.entries c.drop_between.new.map.entries c.args.from c.args.upto
    c.joined_end-end.result c.joined_start-start.result c.joined_end-end.ensures c.joined_start-start.ensures
    c.in_ok-insert.ensures.entries c.drop_between.ensures

pub invariant_of-self-2 : goal.invariant_of-self-2
invariant_of-self-2 c =
    subst (AreApart 0) (sym (entries c))
    (added_apart c.self.inside.starts.entries 0 c.args.from c.args.upto c.self.invariant (omega arith) c.if-upto-from.false)

pub returns-clause-ok : goal.returns-clause-ok
returns-clause-ok c =
    ap held (entries c)
    ∙ (added_set c.self.inside.starts.entries c.args.from c.args.upto c.self.invariant c.if-upto-from.false
    ∙ ap (λ (s : FinSet nat_cmp). union s (span c.args.from c.args.upto)) c.self.view_is)
