use Rattle.std.proofs.Common.{◌∙◌, ap, sym, List, ℕ}
use Rattle.std.specs.List.{slice_get}
use Rattle.streams.proofs.RangeLemmas.{first_after_is}
use Rattle.streams.proofs.ranges.ending_after.Goals as goal

pub returns-in-Some : goal.returns-in-Some
returns-in-Some c =
    ap (λ (xs : List (ℕ × ℕ)). slice_get xs 0) (sym c.in-Some.ensures.steps)
    ∙ first_after_is c.args.starts.now.entries c.range.result c.args.position (c.range.ensures.between tt)

pub returns-in-None : goal.returns-in-None
returns-in-None c =
    ap (λ (xs : List (ℕ × ℕ)). slice_get xs 0) (sym c.in-None.ensures.steps.0)
    ∙ first_after_is c.args.starts.now.entries c.range.result c.args.position (c.range.ensures.between tt)
