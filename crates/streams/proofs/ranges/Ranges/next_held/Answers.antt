use Rattle.std.proofs.Common.{◌<◌, ◌∙◌, ap, sym, arith, Some}
use Rattle.std.specs.FinSet.{FinSet}
use Rattle.std.specs.Ordering.{nat_cmp}
use Rattle.streams.specs.Ranges.{first_held}
use Rattle.streams.proofs.Firsts.{next_is, next_none}
use Rattle.streams.proofs.RangeLemmas.{is_after}
use Rattle.streams.proofs.ranges.Ranges.next_held.Goals as goal

pub returns-in-Some-clause-first : goal.returns-in-Some-clause-first
returns-in-Some-clause-first c =
    ap (λ n. Some n) c.max.ensures
    ∙ (sym (next_is c.self.inside.starts.entries c.args.position (c.in-Some.field-0-0, c.in-Some.start) c.self.invariant (sym c.in-Some.ensures))
    ∙ ap (λ (s : FinSet nat_cmp). first_held s c.args.position) c.self.view_is)

pub returns-in-None-clause-first : goal.returns-in-None-clause-first
returns-in-None-clause-first c =
    sym (next_none c.self.inside.starts.entries c.args.position (sym c.in-None.ensures))
    ∙ ap (λ (s : FinSet nat_cmp). first_held s c.args.position) c.self.view_is

pub returns-in-Some-clause-small : goal.returns-in-Some-clause-small
returns-in-Some-clause-small c =
    let first = is_after c.self.inside.starts.entries 0 c.args.position (c.in-Some.field-0-0, c.in-Some.start) c.self.invariant (sym c.in-Some.ensures) in
    let after : c.args.position < c.in-Some.field-0-0 = first.after in
    let size : c.in-Some.start < c.in-Some.field-0-0 = first.size in
    let greater = c.max.ensures in
    let fits = rw c.in-Some.is at c.ending_after.type_inv in
    omega (arith, after, size, greater)
