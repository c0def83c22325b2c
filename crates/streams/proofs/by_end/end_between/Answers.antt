use Rattle.std.proofs.Common.{◌∙◌, ap, sym, List, ℕ}
use Rattle.std.specs.Prelude.{option_map}
use Rattle.std.specs.List.{slice_get}
use Rattle.streams.proofs.RangeLemmas.{first_between_is}
use Rattle.streams.proofs.by_end.end_between.Goals as goal

pub returns-in-Some : goal.returns-in-Some
returns-in-Some g c =
    ap (λ (xs : List (ℕ × g.row.V.Denot)). option_map (λ (e : ℕ × g.row.V.Denot). e.0) (slice_get xs 0)) (sym c.in-Some.ensures.steps)
    ∙ first_between_is c.args.map.now.entries c.range.result c.args.low c.args.high (c.range.ensures.between tt)

pub returns-in-None : goal.returns-in-None
returns-in-None g c =
    ap (λ (xs : List (ℕ × g.row.V.Denot)). option_map (λ (e : ℕ × g.row.V.Denot). e.0) (slice_get xs 0)) (sym c.in-None.ensures.steps.0)
    ∙ first_between_is c.args.map.now.entries c.range.result c.args.low c.args.high (c.range.ensures.between tt)
