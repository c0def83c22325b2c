use Rattle.std.proofs.Common.{◌∙◌, ap, sym, subst, List, ℕ, ◌<◌, length}
use Rattle.streams.specs.RangeEntries.{without}
use Rattle.streams.proofs.RangeEdits.{between_bounds, without_removed, removed_shorter, none_between}
use Rattle.streams.proofs.by_end.drop_between.Goals as goal

pub loop-end-preserved : goal.loop-end-preserved
loop-end-preserved g c =
    let bounds = between_bounds c.loop-end.map.entries c.args.low c.args.high c.in-Some.end (sym c.in-Some.ensures) in
    ap (without c.args.low c.args.high) c.remove.ensures.entries
    ∙ (without_removed c.loop-end.map.entries c.args.low c.args.high c.in-Some.end bounds.0 bounds.1 ∙ c.loop-end.invariant)

pub loop-end-preserved-in-Some : goal.loop-end-preserved-in-Some
loop-end-preserved-in-Some g c =
    let bounds = between_bounds c.loop-end.map.entries c.args.low c.args.high c.in-Some.end (sym c.in-Some.ensures) in
    ap (without c.args.low c.args.high) c.remove.ensures.entries
    ∙ (without_removed c.loop-end.map.entries c.args.low c.args.high c.in-Some.end bounds.0 bounds.1 ∙ c.loop-end.invariant)

pub loop-end-smaller : goal.loop-end-smaller
loop-end-smaller g c =
    subst (λ (xs : List (ℕ × g.row.V.Denot)). length xs < length c.loop-end.map.entries) (sym c.remove.ensures.entries)
    (removed_shorter c.loop-end.map.entries c.args.low c.args.high c.in-Some.end (sym c.in-Some.ensures))

pub returns : goal.returns
returns g c = sym (none_between c.loop-end.map.entries c.args.low c.args.high (sym c.in_default.ensures)) ∙ c.loop-end.invariant
