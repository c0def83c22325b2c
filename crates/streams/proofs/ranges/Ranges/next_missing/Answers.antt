use Rattle.std.proofs.Common.{sym, subst}
use Rattle.std.specs.FinSet.{FinSet}
use Rattle.std.specs.Ordering.{nat_cmp}
use Rattle.streams.proofs.Firsts.{IsMissing, missing_before, missing_behind, missing_here}
use Rattle.streams.proofs.ranges.Ranges.next_missing.Goals as goal

pub returns-then-start-position : goal.returns-then-start-position
returns-then-start-position c =
    let is = subst (λ (s : FinSet nat_cmp). IsMissing s c.args.position c.in-Some.end) c.self.view_is
    (missing_behind c.self.inside.starts.entries c.args.position (c.in-Some.end, c.in-Some.start) c.self.invariant
    (sym c.in-Some.ensures) c.if-start-position.true) in
    record { from = is.from; missing = is.missing; held = is.held }

pub returns-else-start-position : goal.returns-else-start-position
returns-else-start-position c =
    let is = subst (λ (s : FinSet nat_cmp). IsMissing s c.args.position c.args.position) c.self.view_is
    (missing_before c.self.inside.starts.entries c.args.position (c.in-Some.end, c.in-Some.start) c.self.invariant
    (sym c.in-Some.ensures) c.if-start-position.false) in
    record { from = is.from; missing = is.missing; held = is.held }

pub returns-in-None : goal.returns-in-None
returns-in-None c =
    let is = subst (λ (s : FinSet nat_cmp). IsMissing s c.args.position c.args.position) c.self.view_is
    (missing_here c.self.inside.starts.entries c.args.position (sym c.in-None.ensures)) in
    record { from = is.from; missing = is.missing; held = is.held }
