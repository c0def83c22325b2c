use Rattle.std.proofs.Common.{sym, ap, ◌∙◌}
use Rattle.std.specs.FinSet.{FinSet, difference, items, union}
use Rattle.std.specs.Ordering.{nat_cmp}
use Rattle.streams.specs.Ranges.{span}
use Rattle.flight_parts.proofs.HeldLemmas.{below_gone}
use Rattle.flight_parts.proofs.SetLemmas.{read_back}
use Rattle.flight_parts.proofs.held.note_held.Goals as goal

pub returns-then-kept-next : goal.returns-then-kept-next
returns-then-kept-next c =
    let k = c.args.kept in
    ap (λ (s : FinSet nat_cmp). items s)
    (c.forget_below.ensures
    ∙ (sym (below_gone c.args.held.now k.from k.upto c.args.next c.if-kept-next.true)
    ∙ ap (λ (s : FinSet nat_cmp). difference (union s (span k.from k.upto)) (span 0 c.args.next)) (sym (read_back c.args.held.now))))

pub returns : goal.returns
returns c =
    let k = c.args.kept in
    ap (λ (s : FinSet nat_cmp). items s)
    (c.forget_below-2.ensures
    ∙ (ap (λ (s : FinSet nat_cmp). difference s (span 0 c.args.next)) c.in_ok-add.ensures.ok
    ∙ ap (λ (s : FinSet nat_cmp). difference (union s (span k.from k.upto)) (span 0 c.args.next)) (sym (read_back c.args.held.now))))
