use Rattle.std.proofs.Common.{◌∙◌, ap, List, ℕ, ◌&&◌, nat_lt}
use Rattle.std.specs.List.{list_any}
use Rattle.streams.proofs.MarkLemmas.{any_between}
use Rattle.streams.proofs.marks.meet.Goals as goal

pub loop-end-init : goal.loop-end-init
loop-end-init c = (
  tt,
  tt,
  ap (λ (es : List (ℕ × ℕ)). list_any (λ e. nat_lt e.0 c.args.upto && nat_lt c.args.from e.1) es)
      (c.into_iter-end-iterator.ensures.into_iter_gives ∙ c.range-end-items.ensures.between tt)
      ∙ any_between c.args.ranges.now.entries c.args.from c.args.upto,
)
